-- Arguments go into the places of the parameters.
use Rattle.std.proofs.Common.{◌≡◌, ℕ, ◌+◌, ◌*◌, ◌^◌, ◌<◌, ◌≤◌, List, [], ◌∷◌, ◌++◌, length, refl, ap, ◌∙◌, subst, arith, Option}
use Rattle.std.specs.Prelude.{pos}
use Rattle.bop_bits.specs.declared.map.TheConstants.{CODE_WORDS}
use Rattle.rv_code.specs.declared.instr.Instr.{Instr}
use Rattle.rv_code.specs.declared.instr.Instr.TheVariants as instr
use Rattle.rv_code.specs.Word.{sum, word}
use Rattle.rv_code.specs.State.{State, register}
use Rattle.rv_code.specs.Step.{address_of}
use Rattle.c_tree.specs.Fun.{Param}
use Rattle.c_tree.specs.Declarators.{parameter_shape}
use Rattle.c_semantics.specs.declared.local.Local.{Local}
use Rattle.c_semantics.specs.Run.{Store, Run, Ended, Goes, StackFull, More, Undef, pure, then_run}
use Rattle.c_semantics.specs.Memory.{store_at}
use Rattle.c_semantics.specs.Names.{Definition, held}
use Rattle.c_semantics.specs.Meaning.{parameter_locals, pass}
use Rattle.c_semantics.proofs.RunLemmas.{then_assoc}
use Rattle.low_labels.specs.Operation.{width_of}
use Rattle.low_labels.specs.Placed.{HasAt}
use Rattle.low_expr.specs.CodePieces.{is_near, frame_address}
use Rattle.low_expr.specs.Agreement.{Agrees, Framed, Passed}
use Rattle.low_expr.specs.Following.{Terms, Follows}
use Rattle.low_expr.proofs.PlainCode.{with_env, stays}
use Rattle.low_expr.proofs.CodePiecesLemmas.{Takes, takes_append, with_other, frame_takes, frame_length}
use Rattle.low_expr.proofs.KeptValues.{width-append, has_front, has_back}
use Rattle.low_expr.proofs.Composing.{Allows, after_leads, landed_leads, framed_then}
use Rattle.low_stmt.specs.StmtCode.{write_code}
use Rattle.low_stmt.specs.FunCode.{pass_code}
use Rattle.low_stmt.specs.StmtReadiness.{AreWithin}
use Rattle.low_stmt.proofs.StatementParts.{with_credit, weaker, pure_follows}
use Rattle.low_stmt.proofs.Conditions.{Anything}
use Rattle.low_stmt.proofs.LocalWrites.{HasRegisters, write_follows}

-- what follows a value, from a state on
pub then_at : {A B : Type 0} {p u t : Terms} {code input : List ℕ} {store : Store} {top n : ℕ}
    {mids : A → ℕ} {ends : B → ℕ} {s : State} {V : A → State → Type 0} {W : B → State → Type 0}
    (frame room : ℕ) (e : Ended A) (f : A → Run B) → p.credit + t.over ≤ t.credit + p.over
    → p.credit ≤ p.slack + 255 → Allows p.slack p.credit u t → Framed frame room store
    → Follows code input p store 0 top n mids s V e
    → ((v : A) (store1 : Store) (n1 : ℕ) (s1 : State) → n1 ≤ n → s1.pc ≡ address_of (mids v)
    → Agrees store1 s1 → Framed frame room store1 → V v s1
    → Follows code input u store1 0 top n1 ends s1 W (f v store1 n1))
    → Follows code input t store 0 top n ends s W (then_run e f)
then_at {p = p} {code = code} {input = input} {store = store} {top = top} {n = n} {mids = mids} {s = s}
    frame room (Goes v store1 n1) f over few allows fr g b =
    let l = g.by in
    let q = l.2 in
    after_leads (f v store1 n1)
    (record { slack = omega (arith, allows.slack); over = omega (arith, allows.over) }) (omega arith)
    (omega arith)
    (landed_leads p code input store 0 0 top top n (mids v) s store1 n1 l.0 l.1 (omega arith)
    (omega arith) q 0 l.1 (stays code input l.1) refl)
    (b v store1 n1 l.1 (omega (arith, q.most, few)) q.pc q.agrees
    (framed_then frame room store store1 q.same_sp q.same_live fr) l.3)
then_at frame room (StackFull output) f over few allows fr g b =
    let h = g.by in record { by = (h.0, h.1, omega (arith, h.2), h.3, h.4) }
then_at frame room (More output) f over few allows fr g b =
    let h = g.by in record { by = (h.0, h.1, h.2, omega (arith, h.3), h.4, h.5) }
then_at frame room (Undef output act at) f over few allows fr g b = record { by = tt }

-- registers that are the same pass the same
pub passed_same : (r : ℕ) (vs : List ℕ) (s s' : State)
    → ((q : ℕ) → r ≤ q → register s'.registers q ≡ register s.registers q) → Passed r vs s
    → Passed r vs s'
passed_same r [] s s' same p = tt
passed_same r (v ∷ vs) s s' same p = (
  same r (omega arith) ∙ p.0,
  p.1,
  passed_same (r + 1) vs s s' (λ q le. same q (omega arith)) p.2,
)

pub within_front : (defined : List ℕ → Option Definition) (room top : ℕ) (xs ys : List Local)
    → AreWithin defined room top (xs ++ ys) → AreWithin defined room top xs
within_front defined room top [] ys w = tt
within_front defined room top (x ∷ xs) ys w = (w.0, w.1, within_front defined room top xs ys w.2)

module _ (code input : List ℕ) (short : length code ≤ CODE_WORDS) (labels : ℕ → ℕ)
    (defined : List ℕ → Option Definition) (frame room top : ℕ) (small : 4 * top ≤ 2 ^ 16) where
  -- one argument
  one_passed : (r place i v n : ℕ) (p : Param) (vs : List ℕ) (store : Store) (s : State) → 10 ≤ r
      → r < 32 → place ≤ 2 ^ 16
      → HasAt code labels i (write_code (instr.Addi 5 r (pos 0) ∷ frame_address 7 place) (held (parameter_shape p)))
      → Passed r (v ∷ vs) s → s.pc ≡ address_of i → Agrees store s → Framed frame room store
      → Follows code input (with_credit 6) store 0 top n
      (λ u. i + width_of (write_code (instr.Addi 5 r (pos 0) ∷ frame_address 7 place) (held (parameter_shape p))))
      s (λ u s1. Passed (r + 1) vs s1)
      (then_run (store_at (held (parameter_shape p)) (store.sp + place) v p.place store n)
      (λ w. pure (tt {0})))
  one_passed r place i v n p vs store s low high near has passed pc ag f =
      let h = held (parameter_shape p) in
      let t2 = frame_address 7 place in
      let move : List Instr = instr.Addi 5 r (pos 0) ∷ [] in
      let env0 = register s.registers in
      let env1 = with_env 5 v env0 in
      let env2 = with_env 7 (frame + place) env1 in
      let stack = ag.stack ∙ f.is in
      let within = f.within in
      let is : sum (env0 r) (word (pos 0)) ≡ v = ap (λ q. sum q (word (pos 0))) passed.0 ∙ omega (arith, passed.1) in
      let takes1 : Takes s.memory i move env0 env1 = (((omega arith, omega arith), tt), ap (λ q. with_env 5 q env0) is) in
      let takes2 = frame_takes s.memory (i + 1) 7 place frame env1 stack (omega arith) (omega arith) (omega arith) (omega arith) in
      let same : frame + place ≡ store.sp + place = omega (arith, f.is) in
      weaker {V = HasRegisters env2} {V' = λ u s1. Passed (r + 1) vs s1}
      (then_run (store_at h (store.sp + place) v p.place store n) (λ w. pure (tt {0}))) (omega arith)
      (omega arith) (omega arith) (omega arith) (λ u. refl)
      (λ u s1 x. passed_same (r + 1) vs s s1
      (λ q ge. x q (omega arith) ∙ with_other 7 (frame + place) q env1 (omega arith) ∙ with_other 5 v q env0 (omega arith))
      passed.2)
      (write_follows code input short labels frame room top h 6 i (store.sp + place) v n p.place
      (move ++ t2) env2 s store (omega (arith, frame_length (is_near place) 7 place)) ag f pc has
      (takes_append s.memory move t2 i env0 env1 env2 takes1 takes2) stack refl passed.1 same)

  pub pass_follows : (r : ℕ) (places : List ℕ) (ps : List Param) (vs : List ℕ) (i n : ℕ)
      (store : Store)
      (s : State) → length vs ≡ length ps → length ps ≤ 8 → 10 ≤ r → r + length ps ≤ 18
      → AreWithin defined room top (parameter_locals places ps)
      → HasAt code labels i (pass_code r places ps) → Passed r vs s → s.pc ≡ address_of i
      → Agrees store s → Framed frame room store
      → Follows code input (with_credit (6 * length ps)) store 0 top n
      (λ u. i + width_of (pass_code r places ps)) s Anything (pass places ps vs store n)
  pass_follows r [] ps vs i n store s len few low high w has passed pc ag f =
      pure_follows code input short labels frame room top n tt store s (omega arith) (pc ∙ omega arith) ag
      tt
  pass_follows r (place ∷ places) [] vs i n store s len few low high w has passed pc ag f =
      pure_follows code input short labels frame room top n tt store s (omega arith) (pc ∙ omega arith) ag
      tt
  pass_follows r (place ∷ places) (p ∷ ps) [] i n store s len few low high w has passed pc ag f =
      absurd (omega arith)
  pass_follows r (place ∷ places) (p ∷ ps) (v ∷ vs) i n store s len few low high w has passed pc ag f =
      let h = held (parameter_shape p) in
      let c = write_code (instr.Addi 5 r (pos 0) ∷ frame_address 7 place) h in
      let rest = pass_code (r + 1) places ps in
      let e = store_at h (store.sp + place) v p.place store n in
      let mid = i + width_of c in
      let far : mid + width_of rest ≡ i + width_of (c ++ rest) = omega (arith, width-append c rest) in
      subst (λ z. Follows code input (with_credit (6 * length (p ∷ ps))) store 0 top n (λ u. z) s Anything
      (then_run e (λ x. pass places ps vs))) far
      (subst (Follows code input (with_credit (6 * length (p ∷ ps))) store 0 top n
      (λ u. mid + width_of rest) s Anything)
      (then_assoc e (λ x. pure (tt {0})) (λ u. pass places ps vs))
      (then_at {u = with_credit (6 * length ps)} frame room (then_run e (λ x. pure (tt {0}))) (λ u. pass places ps vs) (omega arith) (omega arith)
      (record { slack = omega arith; over = omega arith }) f
      (one_passed r place i v n p vs store s low (omega arith) (omega (arith, w.0, w.1))
      (has_front code labels i c rest has) passed pc ag f)
      (λ u store1 n1 s1 le pc1 ag1 f1 passed1.
      pass_follows (r + 1) places ps vs mid n1 store1 s1 (omega arith) (omega arith) (omega arith)
      (omega arith) w.2 (has_back code labels i c rest has) passed1 pc1 ag1 f1)))
