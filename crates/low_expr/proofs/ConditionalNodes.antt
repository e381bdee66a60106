-- `?:`.
use Rattle.std.proofs.Common.{◌≡◌, ℕ, ◌+◌, ◌*◌, ◌<◌, ◌≤◌, List, [], ◌∷◌, ◌++◌, length, refl, ap, ◌∙◌, subst, arith}
use Rattle.std.specs.Prelude.{Bool, true, false, ◌==◌, if◌then◌else◌}
use Rattle.bop_bits.specs.declared.map.TheConstants.{CODE_WORDS}
use Rattle.bop_bits.specs.MemoryNumbers.{number_at}
use Rattle.rv_code.specs.declared.instr.Instr.{Instr}
use Rattle.rv_code.specs.State.{State}
use Rattle.rv_code.specs.Step.{address_of}
use Rattle.c_semantics.specs.Run.{Store, Run, pure, count, ◌>>=◌, ◌>>◌}
use Rattle.c_semantics.specs.Eval.{conditional_run}
use Rattle.low_labels.specs.Operation.{Operation, width_of}
use Rattle.low_labels.specs.Operation as op
use Rattle.low_labels.specs.declared.test.Test.TheVariants as test
use Rattle.low_labels.specs.Placed.{HasAt}
use Rattle.low_expr.specs.CodePieces.{all_do, take_slot, nothing}
use Rattle.low_expr.specs.ExprCode.{conditional_code}
use Rattle.low_expr.specs.Agreement.{Agrees, Framed, InSlot}
use Rattle.low_expr.specs.Following.{Comes, Follows, for_expression}
use Rattle.low_expr.proofs.Composing.{then_few, then_count, framed_then}
use Rattle.low_expr.proofs.KeptValues.{all_width, width-append, has_front, has_back, has_after}
use Rattle.low_expr.proofs.ValueNodes.{Part, Act}
use Rattle.low_expr.proofs.BranchLemmas.{moved, agrees_moved, moved_same, jump_goes, nothing_acts}
use Rattle.low_expr.proofs.LogicNodes.{tested, then_node}

module _ (code input : List ℕ) (short : length code ≤ CODE_WORDS) (labels : ℕ → ℕ)
    (frame slots : ℕ) where
  pub conditional_follows : (slot m i label : ℕ) (ct ca cb : List Operation) (rc ra rb : Run ℕ)
      → slot < slots → HasAt code labels i (conditional_code slot label ct ca cb)
      → Part code input short labels frame slots slot m i (i + width_of ct) rc
      → ((j : ℕ) → j ≡ i + width_of ct + length (take_slot 5 slot) + 2 → HasAt code labels j ca
      → Part code input short labels frame slots slot m j (j + width_of ca) ra)
      → ((j : ℕ) → j ≡ i + width_of ct + length (take_slot 5 slot) + 2 + width_of ca + 1
      → HasAt code labels j cb
      → Part code input short labels frame slots slot m j (j + width_of cb) rb)
      → Part code input short labels frame slots slot m i
      (i + width_of (conditional_code slot label ct ca cb)) (conditional_run rc ra rb)
  conditional_follows slot m i label ct ca cb rc ra rb lt has fc fa fb store n s le pc a f =
      then_few for_expression for_expression code input store slot slot slots slot n (λ v. mid)
      (λ v. end) s (InSlot frame slot) (InSlot frame slot) (rc store n)
      (λ x. (if x == 0 then rb else ra) >>= λ y. count >> pure y)
      (omega arith) (omega arith) (omega arith) (fc store n s le pc a f)
      (λ x store1 n1 j1 s1 l1 v1.
      let f1 = framed_then frame slots store store1 l1.same_sp l1.same_live f in
      rest x store1 n1 s1 (omega (arith, l1.most)) l1.pc l1.agrees f1 v1 (x == 0) refl)
    where
      t5 : List Instr
      t5 = take_slot 5 slot

      mid : ℕ
      mid = i + width_of ct

      k : ℕ
      k = mid + length t5

      -- where the jump over the right operand is, where that operand begins, and where both meet
      over : ℕ
      over = k + 2 + width_of ca

      right : ℕ
      right = over + 1

      meet : ℕ
      meet = right + width_of cb

      end : ℕ
      end = i + width_of (conditional_code slot label ct ca cb)

      last3 : List Operation
      last3 = op.Mark (label + 1) ∷ op.Do nothing ∷ []

      last2 : List Operation
      last2 = op.Jump 0 (label + 1) ∷ op.Mark label ∷ (cb ++ last3)

      last1 : List Operation
      last1 = op.Branch test.Eq 5 0 label ∷ (ca ++ last2)

      tail1 : HasAt code labels mid (all_do t5 ++ last1)
      tail1 = has_back code labels i ct _ has

      tail2 : HasAt code labels k last1
      tail2 = has_after code labels mid t5 _ tail1

      tail3 : HasAt code labels over last2
      tail3 = has_back code labels (k + 2) ca last2 tail2.1

      tail4 : HasAt code labels right (cb ++ last3)
      tail4 = let e : right + 0 ≡ right =
          omega arith in subst (λ z. HasAt code labels z (cb ++ last3)) e tail3.1.1

      tail5 : HasAt code labels meet last3
      tail5 = has_back code labels right cb last3 tail4

      tail6 : HasAt code labels meet (op.Do nothing ∷ [])
      tail6 = let e : meet + 0 ≡ meet =
          omega arith in subst (λ z. HasAt code labels z (op.Do nothing ∷ [])) e tail5.1

      ends_at : meet + 1 ≡ end
      ends_at =
          omega (
            arith,
            width-append ct (all_do t5 ++ last1),
            width-append
                (all_do t5) last1,
            all_width t5,
            width-append ca last2,
            width-append cb last3,
          )

      finish : Act code input short labels frame slots slot meet end (λ y. pure y)
      finish = subst (λ z. Act code input short labels frame slots slot meet z (λ y. pure y))
          ends_at (nothing_acts code input short labels frame slots slot meet lt tail6)

      -- after the left operand
      jumped : (y : ℕ) (store2 : Store) (n2 : ℕ) (s2 : State) → s2.pc ≡ address_of over
          → Agrees store2 s2 → Framed frame slots store2 → InSlot frame slot y s2
          → (j : ℕ) × (s3 : State) × (j + 0 ≤ 32) × Comes code input j s2 s3
          × (s3.memory ≡ s2.memory)
          × Follows code input for_expression store2 slot slots n2 (λ v. end) s3
          (InSlot frame slot) ((count >> pure y) store2 n2)
      jumped y store2 n2 s2 pc2 a2 f2 hy =
          let s3 = moved s2 (address_of (labels (label + 1))) 1 in
          let m3 = moved_same s2 (address_of (labels (label + 1))) 1 in
          let a3 = agrees_moved store2 s2 (address_of (labels (label + 1))) 1 a2 in (
            1,
            s3,
            omega arith,
            jump_goes code input short labels over (label + 1) s2 pc2 tail3.0,
            m3.0,
            then_count (λ u. pure y) (omega arith) a3.output
                (λ n3 en. finish y store2 n2 n3 s3 en (m3.1 ∙ ap address_of tail5.0) a3 f2
                (ap (λ l. number_at l (frame + 4 * slot) 4) m3.0 ∙ hy)),
          )

      rest : (x : ℕ) (store1 : Store) (n1 : ℕ) (s1 : State) → n1 ≤ m → s1.pc ≡ address_of mid
          → Agrees store1 s1 → Framed frame slots store1 → InSlot frame slot x s1 → (b : Bool)
          → (x == 0) ≡ b
          → (j : ℕ) × (s2 : State) × (j + 0 ≤ 32) × Comes code input j s1 s2
          × (s2.memory ≡ s1.memory)
          × Follows code input for_expression store1 slot slots n1 (λ v. end) s2
          (InSlot frame slot) (((if b then rb else ra) >>= λ y. count >> pure y) store1 n1)
      rest x store1 n1 s1 le1 pc1 a1 f1 hx true d =
          let w = tested code input short labels frame slots slot mid label test.Eq (ca ++ last2) x true store1 s1 lt pc1 a1 f1 hx d tail1 in
          let few = w.few in
          let pc2 = w.pc ∙ ap address_of tail3.1.0 in (
            w.count,
            w.state,
            omega arith,
            w.comes,
            w.memory,
            then_node code input short labels frame slots slot n1 end meet store1 w.state rb
                (λ y. pure y) f1
                (fb right refl (has_front code labels right cb last3 tail4) store1 n1 w.state le1
                pc2 w.agrees f1) finish,
          )
      rest x store1 n1 s1 le1 pc1 a1 f1 hx false d =
          let w = tested code input short labels frame slots slot mid label test.Eq (ca ++ last2) x false store1 s1 lt pc1 a1 f1 hx d tail1 in
          let few = w.few in (
            w.count,
            w.state,
            omega arith,
            w.comes,
            w.memory,
            then_few for_expression for_expression code input store1 slot slot slots slot n1
                (λ v. over)
                (λ v. end) w.state (InSlot frame slot) (InSlot frame slot) (ra store1 n1)
                (λ y. count >> pure y)
                (omega arith) (omega arith) (omega arith)
                (fa (k + 2) refl (has_front code labels (k + 2) ca last2 tail2.1) store1 n1
                w.state le1 w.pc w.agrees f1)
                (λ y store2 n2 j2 s2 l2 v2. jumped y store2 n2 s2 l2.pc l2.agrees
                (framed_then frame slots store1 store2 l2.same_sp l2.same_live f1) v2),
          )
