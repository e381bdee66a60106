-- Declarations: values go into locals, or what was in them doesn't count any more.
use Rattle.std.proofs.Common.{◌≡◌, ℕ, ◌+◌, ◌^◌, ◌<◌, ◌≤◌, List, [], ◌∷◌, ◌++◌, length, drop, refl, ◌∙◌, subst, arith, Option, Some, None, length-append}
use Rattle.rv_code.specs.State.{State, register}
use Rattle.rv_code.specs.Step.{address_of}
use Rattle.c_tree.specs.Expr.{Expr}
use Rattle.c_tree.specs.Init.{Init}
use Rattle.c_tree.specs.Init as initial
use Rattle.c_tree.specs.Var.{Var}
use Rattle.c_tree.specs.First.{First}
use Rattle.c_tree.specs.First as for_first
use Rattle.c_tree.specs.Ty.{Ty}
use Rattle.c_tree.specs.declared.place.Place.{Place}
use Rattle.c_tree.specs.Declarators.{declared_shape}
use Rattle.c_layout.specs.Sizes.{size}
use Rattle.c_semantics.specs.Run.{Store, pure, now, change, ◌>>=◌, ◌>>◌, then_run}
use Rattle.c_semantics.specs.Memory.{blank, store_at}
use Rattle.c_semantics.specs.Names.{Names, Definition, held}
use Rattle.c_semantics.specs.Eval.{Calls, eval, unused}
use Rattle.c_semantics.specs.Exec.{with_local, first_place, initialised, declare, begin}
use Rattle.c_semantics.proofs.WrittenMemory.{length-blank}
use Rattle.low_labels.specs.Operation.{width_of}
use Rattle.low_labels.specs.Placed.{HasAt}
use Rattle.low_expr.specs.CodePieces.{is_near, take_slot, frame_address}
use Rattle.low_expr.specs.Agreement.{Agrees, Framed, InSlot}
use Rattle.low_expr.specs.Following.{Follows, for_expression}
use Rattle.low_expr.specs.ExprSimulation.{HasFunctions}
use Rattle.low_expr.proofs.PlainCode.{with_env, stays}
use Rattle.low_expr.proofs.CodePiecesLemmas.{takes_append, frame_takes, take_length, frame_length}
use Rattle.low_expr.proofs.KeptValues.{width-append, has_front, has_back}
use Rattle.low_expr.proofs.ValueNodes.{slot_taken, slot_fits}
use Rattle.low_expr.proofs.AboveOperands.{slots_positive}
use Rattle.low_expr.proofs.UnusedValues.{simulated}
use Rattle.low_stmt.specs.StmtCode.{labels_in_init, value_code, write_local, init_code, declarators_code, first_code}
use Rattle.low_stmt.specs.StmtReadiness.{IsReadyIn, IsReadyInit, AreReadyVars, IsReadyFirst}
use Rattle.low_stmt.specs.StmtSimulation.{IsDone, IsFrame, for_statement}
use Rattle.low_stmt.proofs.StatementParts.{with_credit, weaker, pure_follows, expression_done, then_directly}
use Rattle.low_stmt.proofs.BlankBytes.{blank_written}
use Rattle.low_stmt.proofs.Conditions.{Anything}
use Rattle.low_stmt.proofs.LocalWrites.{HasRegisters, write_follows}
use Rattle.low_expr.proofs.StoredBytes.{held_inside}

module _ (functions : List ℕ → ℕ) (defined : List ℕ → Option Definition) (code input : List ℕ)
    (labels : ℕ → ℕ) (calls : Calls) (frame room top m : ℕ)
    (h : HasFunctions code input labels functions defined calls m) (fr : IsFrame frame room top) where
  -- an expression whose value goes into the first slot
  pub value_done : (names : Names) (e : Expr) (label i : ℕ) → IsReadyIn defined room top names e
      → HasAt code labels i (value_code functions names label e)
      → IsDone for_expression code input frame room top m i
      (λ v. i + width_of (value_code functions names label e)) (InSlot frame 0)
      (eval input calls names e)
  value_done names e label i ready has =
      let s = simulated functions defined names e ready.0 in
      expression_done code input h.short labels frame room top m i _ fr.slots
      (s.value code input labels calls frame room 0 m label i h (omega (arith, ready.1)) has)

  -- one whose value isn't used
  pub unused_done : (names : Names) (e : Expr) (label i : ℕ) → IsReadyIn defined room top names e
      → HasAt code labels i (value_code functions names label e)
      → IsDone for_statement code input frame room top m i
      (λ v. i + width_of (value_code functions names label e)) Anything
      (unused input calls names e)
  unused_done names e label i ready has store n s le pc ag f =
      let q = simulated functions defined names e ready.0 in
      weaker (unused input calls names e store n) (omega arith) fr.slots (omega arith) (omega arith)
      (λ v. refl) (λ v s1 x. tt)
      (q.unused code input labels calls frame room 0 m label i h (omega (arith, ready.1)) has store n s le
      pc ag f)

  -- the value in the first slot is written into a local
  local_written : (shape : Ty) (place i v n : ℕ) (at : Place) (store : Store) (s : State)
      → place ≤ 2 ^ 16 → 0 < room → HasAt code labels i (write_local shape place)
      → s.pc ≡ address_of i → Agrees store s → Framed frame room store → InSlot frame 0 v s
      → Follows code input (with_credit 32) store 0 top n (λ u. i + width_of (write_local shape place))
      s Anything
      (then_run (store_at (held shape) (store.sp + place) v at store n) (λ w. pure (tt {0})))
  local_written shape place i v n at store s near pos has pc ag f hv =
      let t0 = take_slot 5 0 in
      let t2 = frame_address 7 place in
      let env0 = register s.registers in
      let env1 = with_env 5 v env0 in
      let env2 = with_env 7 (frame + place) env1 in
      let stack = ag.stack ∙ f.is in
      let within = f.within in
      let takes0 = slot_taken code input h.short labels frame room 5 0 i v s store env0 f pos (omega arith) (omega arith) stack hv in
      let takes2 = frame_takes s.memory (i + length t0) 7 place frame env1 stack (omega arith) (omega arith) (omega arith) (omega arith) in
      let few : length (t0 ++ t2) + 2 ≤ 32 = omega (arith, length-append t0 t2, frame_length (is_near place) 7 place, take_length (is_near 0) 5 0) in
      let same : frame + place ≡ store.sp + place = omega (arith, f.is) in
      weaker {V = HasRegisters env2} {V' = Anything} (then_run (store_at (held shape) (store.sp + place) v at store n) (λ w. pure tt)) (omega arith)
      (omega arith) (omega arith) (omega arith) (λ u. refl) (λ u s1 x. tt)
      (write_follows code input h.short labels frame room top (held shape) 32 i (store.sp + place) v n at
      (t0 ++ t2) env2 s store few ag f pc has
      (takes_append s.memory t0 t2 i env0 env1 env2 takes0 takes2) stack refl
      (slot_fits frame 0 v s ag.small hv) same)

  -- what was in a local doesn't count any more
  blank_done : (place size i : ℕ)
      → IsDone for_statement code input frame room top m i (λ u. i) Anything
      (now >>= λ store. change (record store { bytes = blank (store.sp + place) size store.bytes }))
  blank_done place size i store n s le pc ag f =
      record {
        by = (
          0,
          s,
          record {
            comes = stays code input s;
            pc = pc;
            agrees = record {
              bytes = λ at v lives e.
                  let low = (held_inside store.live at 1 f.inside lives).0 in
                  ag.bytes at v lives (blank_written size (store.sp + place) at v store.bytes (omega (arith, f.is, f.above)) low e).1;
              small = ag.small;
              stack = ag.stack;
              cursor = ag.cursor;
              output = ag.output;
              memory = ag.memory;
              registers = ag.registers;
              cells = length-blank size (store.sp + place) store.bytes ∙ ag.cells;
            };
            same_sp = refl;
            same_live = refl;
            keeps = record { by = λ at ge dead off. refl };
            least = omega arith;
            most = omega arith;
          },
          tt,
        );
      }

  init_done : (names : Names) (place label i : ℕ) (d : Var) (value : Option Init) → place ≤ 2 ^ 16
      → IsReadyInit defined room top names value
      → HasAt code labels i (init_code functions names place label d value)
      → IsDone for_statement code input frame room top m i
      (λ u. i + width_of (init_code functions names place label d value)) Anything
      (initialised input calls names place d value)
  init_done names place label i d None near ready has = λ store n s le pc ag f.
      weaker _ (omega arith) (omega arith) (omega arith) (omega arith)
      (λ u. omega arith) (λ u s1 x. x)
      (blank_done place (size (declared_shape d)) i store n s le pc ag f)
  init_done names place label i d (Some (initial.One e)) near ready has =
      let c = value_code functions names label e in
      let w = write_local (declared_shape d) place in
      let mid = i + width_of c in
      let far : mid + width_of w ≡ i + width_of (c ++ w) = omega (arith, width-append c w) in
      let pos = slots_positive e in
      then_directly code input h.short labels frame room top m (with_credit 32) i
      (eval input calls names e)
      (λ v. now >>= λ store. store_at (held (declared_shape d)) (store.sp + place) v d.place >> pure tt)
      (omega arith) (omega arith) (record { slack = omega arith; over = omega arith })
      (value_done names e label i ready (has_front code labels i c w has))
      (λ v store n s le pc ag f hv.
      subst (λ z. Follows code input (with_credit 32) store 0 top n (λ u. z) s Anything
      (then_run (store_at (held (declared_shape d)) (store.sp + place) v d.place store n)
      (λ x. pure (tt {0}))))
      far
      (local_written (declared_shape d) place mid v n d.place store s near (omega (arith, ready.1, pos))
      (has_back code labels i c w has) pc ag f hv))
  init_done names place label i d (Some (initial.Many es)) near ready has = absurd ready

  pub declarators_done : (names : Names) (places : List ℕ) (label i : ℕ) (ds : List Var)
      → AreReadyVars defined room top names places ds
      → HasAt code labels i (declarators_code functions names places label ds)
      → IsDone for_statement code input frame room top m i
      (λ u. i + width_of (declarators_code functions names places label ds)) Anything
      (declare input calls names places ds)
  declarators_done names places label i [] ready has = λ store n s le pc ag f.
      pure_follows code input h.short labels frame room top m tt store s (omega arith) (pc ∙ omega arith)
      ag tt
  declarators_done names places label i (d ∷ ds) ready has =
      let inner = with_local places d names in
      let place = first_place places in
      let c = init_code functions inner place label d d.init in
      let rest = declarators_code functions inner (drop 1 places) (label + labels_in_init d.init) ds in
      let mid = i + width_of c in
      let far : mid + width_of rest ≡ i + width_of (c ++ rest) = omega (arith, width-append c rest) in
      then_directly code input h.short labels frame room top m for_statement i
      (initialised input calls inner place d d.init)
      (λ u. declare input calls inner (drop 1 places) ds)
      (omega arith) (omega arith) (record { slack = omega arith; over = omega arith })
      (init_done inner place label i d d.init ready.0 ready.1 (has_front code labels i c rest has))
      (λ u store n s le pc ag f w.
      subst (λ z. Follows code input for_statement store 0 top n (λ u. z) s Anything
      (declare input calls inner (drop 1 places) ds store n)) far
      (declarators_done inner (drop 1 places) (label + labels_in_init d.init) mid ds ready.2
      (has_back code labels i c rest has) store n s le pc ag f))

  -- what a `for` begins with
  pub first_done : (names : Names) (places : List ℕ) (label i : ℕ) (f : First)
      → IsReadyFirst defined room top names places f
      → HasAt code labels i (first_code functions names places label f)
      → IsDone for_statement code input frame room top m i
      (λ u. i + width_of (first_code functions names places label f)) Anything
      (begin input calls names places f)
  first_done names places label i for_first.Nothing ready has = λ store n s le pc ag f.
      pure_follows code input h.short labels frame room top m tt store s (omega arith) (pc ∙ omega arith)
      ag tt
  first_done names places label i (for_first.Vars ds) ready has =
      declarators_done names places label i ds ready has
  first_done names places label i (for_first.Expr e) ready has = unused_done names e label i ready has
