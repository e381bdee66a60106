-- The call of a function.
use Rattle.std.proofs.Common.{◌≡◌, ℕ, ◌+◌, ◌%◌, ◌^◌, ◌<◌, ◌≤◌, List, [], ◌∷◌, ◌++◌, length, refl, sym, ap, ◌∙◌, subst, arith, Option, Some, None}
use Rattle.bop_bits.specs.declared.map.TheConstants.{CODE_WORDS}
use Rattle.rv_code.specs.Word.{sum}
use Rattle.rv_code.specs.State.{State, register}
use Rattle.rv_code.specs.Step.{address_of}
use Rattle.c_semantics.specs.Run.{Store}
use Rattle.c_semantics.specs.Names.{Definition}
use Rattle.c_semantics.specs.Eval.{Calls}
use Rattle.c_semantics.proofs.RunLemmas.{then_pure}
use Rattle.low_labels.specs.Operation.{Operation, width_of}
use Rattle.low_labels.specs.Operation as op
use Rattle.low_labels.specs.Placed.{HasAt}
use Rattle.low_expr.specs.CodePieces.{all_do, find_slot, put_slot, keep}
use Rattle.low_expr.specs.ExprCode.{arguments_into}
use Rattle.low_expr.specs.Agreement.{Agrees, Framed, Keeps, InSlots, Passed, Returned}
use Rattle.low_expr.specs.Following.{Terms, Comes, Follows, CallsFollow, for_expression, for_function}
use Rattle.low_expr.proofs.MemoryNumbersLemmas.{AreBytes}
use Rattle.low_expr.proofs.PlainCode.{Env, then_comes, is_place_of, above_apart}
use Rattle.low_expr.proofs.CodePiecesLemmas.{Takes, takes_none, with_other}
use Rattle.low_expr.proofs.Composing.{few_before, few_after, all_follows, framed_then, wider}
use Rattle.low_expr.proofs.KeptValues.{all_width, width-append, first_place, reached, next_place, kept}
use Rattle.low_expr.proofs.CodeLengths.{arguments_length}
use Rattle.low_expr.proofs.ValueNodes.{slot_fits}
use Rattle.low_expr.proofs.LinkingJumps.{linked, link_agrees, link_fields, link_comes}
use Rattle.low_expr.proofs.ArgumentNodes.{with_all, with_all_other, PassedIn, all_passed, arguments_take, KeptIn, CallAct}

passed_of : (r : ℕ) (vs : List ℕ) (env : Env) (s : State)
    → ((q : ℕ) → r ≤ q → register s.registers q ≡ env q) → PassedIn r vs env
    → ((frame slot : ℕ) (s0 : State) → AreBytes s0.memory → InSlots frame slot vs s0
    → Passed r vs s)
passed_of r [] env s same p frame slot s0 small is = tt
passed_of r (v ∷ vs) env s same p frame slot s0 small is = (
  same r (omega arith) ∙ p.0,
  slot_fits frame slot v s0 small is.0,
  passed_of (r + 1) vs env s (λ q le. same q (omega arith)) p.1 frame (slot + 1) s0 small is.1,
)

-- what is left for the value of a call, once it is back
abbrev before_keeping : Terms
before_keeping = record { slack = 36; over = 0; credit = 0 }

module _ (code input : List ℕ) (short : length code ≤ CODE_WORDS) (labels : ℕ → ℕ)
    (frame slots : ℕ) where
  -- the value that a call has left goes into a slot
  returned_kept : (slot i : ℕ) (v : Option ℕ) (store : Store) (s : State) → slot < slots
      → HasAt code labels i (keep [] 10 slot) → s.pc ≡ address_of i → Agrees store s
      → Framed frame slots store → Returned v s
      → (k : ℕ) × (s1 : State) × (k ≤ 3) × Comes code input k s s1
      × (s1.pc ≡ address_of (i + width_of (keep [] 10 slot))) × Agrees store s1
      × Keeps store slot slots s.memory s1.memory × KeptIn frame slot v s1
  returned_kept slot i v store s lt has pc a f r =
      let y = kept code input short labels frame slots [] 10 slot i (register s.registers 10) (register s.registers) s store a f lt pc has (takes_none s.memory i (register s.registers)) (a.stack ∙ f.is) refl (above_apart 10 7 (omega arith)) in
      let z = y.4 in (
        y.0,
        y.1,
        omega (arith, y.2),
        z.comes,
        z.pc,
        z.agrees,
        wider store slot (slot + 1) slot slots s.memory y.1.memory (omega arith)
            (omega arith) z.keeps,
        in_slot v r y.1 z.in_slot,
      )
    where
      in_slot : (v : Option ℕ) → Returned v s → (s1 : State)
          → (register s.registers 10 < 2 ^ 32
          → KeptIn frame slot (Some (register s.registers 10)) s1)
          → KeptIn frame slot v s1
      in_slot None r s1 h = tt
      in_slot (Some w) r s1 h =
          subst (λ x. KeptIn frame slot (Some x) s1) r.0 (h (subst (λ x. x < 2 ^ 32) (sym r.0) r.1))

  pub function_acts : (functions : List ℕ → ℕ) (defined : List ℕ → Option Definition)
      (calls : Calls)
      (name : List ℕ) (d : Definition) (slot m i k : ℕ)
      → CallsFollow code input labels functions defined calls m → defined name ≡ Some d
      → k ≡ length d.function.parameters → k ≤ 8 → slot < slots → slot + k ≤ slots
      → HasAt code labels i (all_do (arguments_into k 10 slot)
      ++ (op.Jump 1 (functions name) ∷ keep [] 10 slot))
      → CallAct code input short labels frame slots slot m i
      (i + width_of (all_do (arguments_into k 10 slot)
      ++ (op.Jump 1 (functions name) ∷ keep [] 10 slot))) k (calls d)
  function_acts functions defined calls name d slot m i k cf def parameters eight lt room has vs
      store n1 n2 s len en le pc a f is =
      let xs = arguments_into k 10 slot in
      let last : List Operation = op.Jump 1 (functions name) ∷ keep [] 10 slot in
      let env0 = register s.registers in
      let few = arguments_length k 10 slot in
      let t = subst (λ z. Takes s.memory i (arguments_into z 10 slot) env0 (with_all 10 vs env0)) len (arguments_take code input short labels frame slots vs 10 slot i s store env0 (omega arith) (omega arith) (omega arith) f (a.stack ∙ f.is) is) in
      let sp1 : with_all 10 vs env0 2 ≡ store.sp = with_all_other 10 2 vs env0 (omega arith) ∙ a.stack in
      let r = reached code input short labels i xs last (with_all 10 vs env0) store s a pc has t sp1 in
      let s1 = r.state in
      let w1 = r.went in
      let k1 = i + length xs in
      let back = r.next in
      let place = is_place_of code k1 _ back.0.1.1 in
      let next = next_place k1 s1.pc (omega (arith, place, short)) w1.pc in
      let target = address_of (labels (functions name)) in
      let s2 = linked s1 target in
      let fields = link_fields s1 target w1.registers in
      let c = then_comes code input (length xs) 1 s s1 s2 w1.comes (link_comes code input labels k1 (functions name) s1 w1.pc back.0) in
      let a2 = link_agrees store s1 target r.agrees in
      let mem : s2.memory ≡ s.memory = fields.0 ∙ w1.memory in
      let link : register s2.registers 1 ≡ address_of (k1 + 1) = ap (λ e. e 1) fields.2 ∙ next in
      let same : (q : ℕ) → 10 ≤ q → register s2.registers q ≡ with_all 10 vs env0 q = λ q le. ap (λ e. e q) fields.2 ∙ with_other 1 (sum s1.pc 4) q (register s1.registers) (above_apart q 1 (omega arith)) ∙ ap (λ e. e q) w1.is in
      let passed = passed_of 10 vs (with_all 10 vs env0) s2 same (all_passed 10 vs env0) frame slot s a.small is in
      let f0 : Framed store.sp 0 store = record {
        is = refl;
        aligned = ap (λ z. z % 4) f.is ∙ f.aligned;
        above = omega (arith, f.above, f.is);
        within = omega (arith, f.within, f.is);
        apart = λ b ge below lives. f.apart b ge (omega (arith, f.is)) lives;
        inside = f.inside;
      } in
      let returns = is_kept k1 slot back.1 in
      let body = cf.at name d vs store n2 (k1 + 1) s2 (omega arith) def (len ∙ parameters) (omega arith) returns fields.1 link passed a2 f0 in
      let e : n2 + 1 ≡ n1 = omega arith in
      let body1 = subst (λ z. Follows code input for_function store 0 0 z (λ v. k1 + 1) s2 Returned (calls d vs store n2)) e body in
      let body2 : Follows code input before_keeping store 0 0 n1 (λ v. k1 + 1) s Returned (calls d vs store n2) = few_before (calls d vs store n2) (length xs + 1) (omega (arith, few)) (omega (arith, few)) c mem body1 in
      let body3 = all_follows slot slots (calls d vs store n2) body2 in
      let end = i + width_of (all_do xs ++ last) in
      let ends_at : k1 + 1 + width_of (keep [] 10 slot) ≡ end = omega (arith, width-append (all_do xs) last, all_width xs) in
      subst (Follows code input for_expression store slot slots n1 (λ v. end) s
      (KeptIn frame slot)) (then_pure (calls d vs store n2))
      (few_after (calls d vs store n2) (λ v. v) (omega arith) body3
      (λ v store3 n3 j3 s3 l3 w.
      let y = returned_kept slot (k1 + 1) v store3 s3 lt back.1 l3.pc l3.agrees (framed_then frame slots store store3 l3.same_sp l3.same_live f) w in
      (y.0, y.1, omega (arith, y.2), y.3, y.4 ∙ ap address_of ends_at, y.5, y.6, y.7)))
    where
      -- there are words after the jump
      is_kept : (k1 slot : ℕ) → HasAt code labels (k1 + 1) (keep [] 10 slot) → k1 + 1 < length code
      is_kept k1 slot h = first_place code labels (k1 + 1) (find_slot slot) (put_slot 10 slot) h
