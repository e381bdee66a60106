-- A slot that is tested; `&&` and `||`.
use Rattle.std.proofs.Common.{◌≡◌, ℕ, ◌+◌, ◌*◌, ◌<◌, ◌≤◌, List, [], ◌∷◌, ◌++◌, length, refl, ap, ◌∙◌, subst, arith, inr}
use Rattle.std.specs.Prelude.{Bool, true, false, not, ◌==◌, nat_lt, if◌then◌else◌}
use Rattle.bop_bits.specs.declared.map.TheConstants.{CODE_WORDS}
use Rattle.bop_bits.specs.MemoryNumbers.{number_at}
use Rattle.rv_code.specs.declared.instr.Instr.{Instr}
use Rattle.rv_code.specs.declared.instr.Instr.TheVariants as instr
use Rattle.rv_code.specs.State.{State, register}
use Rattle.rv_code.specs.Step.{address_of}
use Rattle.rv_code.specs.Word.{truth as bit}
use Rattle.c_tree.specs.declared.operator.Binary.{Binary}
use Rattle.c_tree.specs.declared.operator.Group.{Group}
use Rattle.c_tree.specs.declared.operator.Group.TheVariants as by
use Rattle.c_tree.specs.Arithmetic.{truth}
use Rattle.c_tree.specs.Groups.{group, is_logic, decides}
use Rattle.c_semantics.specs.Run.{Store, Run, pure, count, ◌>>=◌, ◌>>◌}
use Rattle.c_semantics.specs.Eval.{logic}
use Rattle.low_labels.specs.Operation.{Operation, width_of}
use Rattle.low_labels.specs.Operation as op
use Rattle.low_labels.specs.declared.test.Test.{Test}
use Rattle.low_labels.specs.Placed.{HasAt}
use Rattle.low_expr.specs.CodePieces.{all_do, take_slot}
use Rattle.low_expr.specs.ExprCode.{skips, truth_code, logic_code}
use Rattle.low_expr.specs.Agreement.{Agrees, Framed, InSlot}
use Rattle.low_expr.specs.Following.{Comes, Follows, for_expression}
use Rattle.low_expr.proofs.PlainCode.{with_env, then_comes}
use Rattle.low_expr.proofs.CodePiecesLemmas.{Takes}
use Rattle.low_expr.proofs.ArithmeticWords.{truth_fits}
use Rattle.low_expr.proofs.OperatorsLemmas.{above_zero, bit_is, single}
use Rattle.low_expr.proofs.Composing.{then_few, then_follows, then_count, framed_then}
use Rattle.low_expr.proofs.KeptValues.{all_width, width-append, has_back, has_after, Reached, reached}
use Rattle.low_expr.proofs.CodeLengths.{slot_length}
use Rattle.low_expr.proofs.ValueNodes.{Part, Act, slot_taken, one_acts}
use Rattle.low_expr.proofs.BranchLemmas.{moved, agrees_moved, moved_same, holds_of, branch_taken, branch_passed}

skips_taken : (g : Group) (x z : ℕ) → is_logic g ≡ true → decides g x ≡ true → z ≡ 0
    → holds_of (skips g) x z ≡ true
skips_taken by.And x z l d e = ap (λ c. x == c) e ∙ d
skips_taken by.Or x z l d e = ap (λ c. not (x == c)) e ∙ d
skips_taken g x z l d e = cc

skips_passed : (g : Group) (x z : ℕ) → is_logic g ≡ true → decides g x ≡ false → z ≡ 0
    → holds_of (skips g) x z ≡ false
skips_passed by.And x z l d e = ap (λ c. x == c) e ∙ d
skips_passed by.Or x z l d e = ap (λ c. not (x == c)) e ∙ d
skips_passed g x z l d e = cc

module _ (code input : List ℕ) (short : length code ≤ CODE_WORDS) (labels : ℕ → ℕ)
    (frame slots : ℕ) where
  -- whether a slot is other than 0
  truth_acts : (slot i : ℕ) → slot < slots → HasAt code labels i (truth_code slot)
      → Act code input short labels frame slots slot i (i + width_of (truth_code slot))
      (λ y. pure (truth (not (y == 0))))
  truth_acts slot i lt has =
      let xs : List Instr = instr.Sltu 5 0 5 ∷ [] in
      one_acts code input short labels frame slots xs slot i (λ y. pure (truth (not (y == 0))))
      (omega arith) lt has
      (λ y store s a f fits.
      let env0 = register s.registers in
      let is : bit (nat_lt (env0 0) y) ≡ truth (not (y == 0)) = ap bit (above_zero y (env0 0) refl) ∙ bit_is (not (y == 0)) in
      inr (
        truth (not (y == 0)),
        (λ n. refl),
        single s.memory (i + length (take_slot 5 slot))
            (with_env 5 y env0) _ _ _ (truth_fits (not (y == 0)))
            (((omega arith, omega arith), tt), refl) is,
      ))

  -- a slot comes into register 5, and a branch tests whether it is 0; or the opposite
  pub record Tested (slot i k label : ℕ) (t : Test) (x : ℕ) (b : Bool) (store : Store)
      (s : State) : Type 0 where
    pub count : ℕ
    pub state : State
    pub few : count ≤ 5
    pub comes : Comes code input count s state
    pub memory : state.memory ≡ s.memory
    pub pc : state.pc ≡ address_of (if b then labels label else k + 2)
    pub agrees : Agrees store state
    pub in_slot : InSlot frame slot x state

  pub tested : (slot i label : ℕ) (t : Test) (last : List Operation) (x : ℕ) (b : Bool)
      (store : Store)
      (s : State)
      → slot < slots → s.pc ≡ address_of i → Agrees store s → Framed frame slots store
      → InSlot frame slot x s → holds_of t x 0 ≡ b
      → HasAt code labels i (all_do (take_slot 5 slot) ++ (op.Branch t 5 0 label ∷ last))
      → Tested slot i (i + length (take_slot 5 slot)) label t x b store s
  tested slot i label t last x b store s lt pc a f hx is has = decided b refl
    where
      t5 : List Instr
      t5 = take_slot 5 slot

      k : ℕ
      k = i + length t5

      branch : List Operation
      branch = op.Branch t 5 0 label ∷ last

      takes : Takes s.memory i t5 (register s.registers) (with_env 5 x (register s.registers))
      takes = slot_taken code input short labels frame slots 5 slot i x s store
          (register s.registers) f lt (omega arith) (omega arith) (a.stack ∙ f.is) hx

      gone : Reached code input labels i t5 branch (with_env 5 x (register s.registers)) store s
      gone = reached code input short labels i t5 branch (with_env 5 x (register s.registers)) store s a pc has takes a.stack

      holds : holds_of t (register gone.state.registers 5) (register gone.state.registers 0) ≡ b
      holds = ap (λ e. holds_of t (e 5) (e 0)) gone.went.is ∙ is

      decided : (c : Bool) → b ≡ c → Tested slot i k label t x c store s
      decided true e =
          let s1 = gone.state in
          let g = gone.went in
          let s2 = moved s1 (address_of (k + 1)) 1 in
          let s3 = moved s2 (address_of (labels label)) 1 in
          let m2 = moved_same s1 (address_of (k + 1)) 1 in
          let m3 = moved_same s2 (address_of (labels label)) 1 in
          let l = slot_length 5 slot in
          let memory = m3.0 ∙ m2.0 ∙ g.memory in
          record {
            count = length t5 + 2;
            state = s3;
            few = omega (arith, l);
            comes = then_comes code input (length t5) 2 s s1 s3 g.comes
                (branch_taken code input short labels k t 5 0 label s1 g.pc gone.next.0 (holds ∙ e));
            memory = memory;
            pc = m3.1;
            agrees = agrees_moved store s2 (address_of (labels label)) 1
                (agrees_moved store s1 (address_of (k + 1)) 1 gone.agrees);
            in_slot = ap (λ l. number_at l (frame + 4 * slot) 4) memory ∙ hx;
          }
      decided false e =
          let s1 = gone.state in
          let g = gone.went in
          let s2 = moved s1 (address_of (k + 2)) 1 in
          let m2 = moved_same s1 (address_of (k + 2)) 1 in
          let l = slot_length 5 slot in
          let memory = m2.0 ∙ g.memory in
          record {
            count = length t5 + 1;
            state = s2;
            few = omega (arith, l);
            comes = then_comes code input (length t5) 1 s s1 s2 g.comes
                (branch_passed code input short labels k t 5 0 label s1 g.pc gone.next.0 (holds ∙ e));
            memory = memory;
            pc = m2.1;
            agrees = agrees_moved store s1 (address_of (k + 2)) 1 gone.agrees;
            in_slot = ap (λ l. number_at l (frame + 4 * slot) 4) memory ∙ hx;
          }

  -- the steps of a part that follows, and then a counted step and a node's act on what is in its slot
  pub then_node : (slot n end i : ℕ) (store : Store) (s : State) (r : Run ℕ) (act : ℕ → Run ℕ)
      → Framed frame slots store
      → Follows code input for_expression store slot slots n (λ v. i) s (InSlot frame slot)
      (r store n)
      → Act code input short labels frame slots slot i end act
      → Follows code input for_expression store slot slots n (λ v. end) s (InSlot frame slot)
      ((r >>= λ y. count >> act y) store n)
  then_node slot n end i store s r act f fr fact =
      then_follows for_expression for_expression code input store slot slot slots slot n (λ v. i)
      (λ v. end) s (InSlot frame slot) (InSlot frame slot) (r store n) (λ y. count >> act y)
      (omega arith) (omega arith) (omega arith) (omega arith) fr
      (λ y store1 n1 j1 s1 l1 v1.
      then_count (λ u. act y) (omega arith) l1.agrees.output
      (λ n2 en. fact y store1 n1 n2 s1 en l1.pc l1.agrees
      (framed_then frame slots store store1 l1.same_sp l1.same_live f) v1))

  pub logic_follows : (o : Binary) (slot m i label : ℕ) (ca cb : List Operation) (ra rb : Run ℕ)
      → is_logic (group o) ≡ true → slot < slots
      → HasAt code labels i (logic_code o slot label ca cb)
      → Part code input short labels frame slots slot m i (i + width_of ca) ra
      → Part code input short labels frame slots slot m
      (i + width_of ca + length (take_slot 5 slot) + 2)
      (i + width_of ca + length (take_slot 5 slot) + 2 + width_of cb) rb
      → Part code input short labels frame slots slot m i
      (i + width_of (logic_code o slot label ca cb)) (logic o ra rb)
  logic_follows o slot m i label ca cb ra rb is_l lt has fa fb store n s le pc a f =
      then_few for_expression for_expression code input store slot slot slots slot n (λ v. mid)
      (λ v. end) s (InSlot frame slot) (InSlot frame slot) (ra store n)
      (λ x. (if decides (group o) x then pure x else rb)
      >>= λ y. count >> pure (truth (not (y == 0))))
      (omega arith) (omega arith) (omega arith) (fa store n s le pc a f)
      (λ x store1 n1 j1 s1 l1 v1.
      let f1 = framed_then frame slots store store1 l1.same_sp l1.same_live f in
      rest x store1 n1 s1 (omega (arith, l1.most)) l1.pc l1.agrees f1 v1 (decides (group o) x) refl)
    where
      t5 : List Instr
      t5 = take_slot 5 slot

      mid : ℕ
      mid = i + width_of ca

      k : ℕ
      k = mid + length t5

      far : ℕ
      far = k + 2 + width_of cb

      end : ℕ
      end = i + width_of (logic_code o slot label ca cb)

      last : List Operation
      last = cb ++ (op.Mark label ∷ truth_code slot)

      tail1 : HasAt code labels mid (all_do t5 ++ (op.Branch (skips (group o)) 5 0 label ∷ last))
      tail1 = has_back code labels i ca _ has

      tail2 : HasAt code labels k (op.Branch (skips (group o)) 5 0 label ∷ last)
      tail2 = has_after code labels mid t5 _ tail1

      tail3 : HasAt code labels far (op.Mark label ∷ truth_code slot)
      tail3 = has_back code labels (k + 2) cb _ tail2.1

      tail4 : HasAt code labels far (truth_code slot)
      tail4 = let e : far + 0 ≡ far =
          omega arith in subst (λ z. HasAt code labels z (truth_code slot)) e tail3.1

      ends_at : far + width_of (truth_code slot) ≡ end
      ends_at =
          omega (
            arith,
            width-append ca
                (all_do t5 ++ (op.Branch (skips (group o)) 5 0 label ∷ last)),
            width-append
                (all_do t5) (op.Branch (skips (group o)) 5 0 label ∷ last),
            all_width t5,
            width-append cb (op.Mark label ∷ truth_code slot),
          )

      truths : Act code input short labels frame slots slot far end
          (λ y. pure (truth (not (y == 0))))
      truths = subst (λ z. Act code input short labels frame slots slot far z
          (λ y. pure (truth (not (y == 0))))) ends_at (truth_acts slot far lt tail4)

      rest : (x : ℕ) (store1 : Store) (n1 : ℕ) (s1 : State) → n1 ≤ m → s1.pc ≡ address_of mid
          → Agrees store1 s1 → Framed frame slots store1 → InSlot frame slot x s1 → (b : Bool)
          → decides (group o) x ≡ b
          → (j : ℕ) × (s2 : State) × (j + 0 ≤ 32) × Comes code input j s1 s2
          × (s2.memory ≡ s1.memory)
          × Follows code input for_expression store1 slot slots n1 (λ v. end) s2
          (InSlot frame slot) (((if b then pure x else rb)
          >>= λ y. count >> pure (truth (not (y == 0)))) store1 n1)
      rest x store1 n1 s1 le1 pc1 a1 f1 hx true d =
          let w = tested slot mid label (skips (group o)) last x true store1 s1 lt pc1 a1 f1 hx (skips_taken (group o) x 0 is_l d refl) tail1 in
          let few = w.few in (
            w.count,
            w.state,
            omega arith,
            w.comes,
            w.memory,
            then_count (λ u. pure (truth (not (x == 0)))) (omega arith) w.agrees.output
                (λ n2 en. truths x store1 n1 n2 w.state en
                (w.pc ∙ ap address_of tail3.0) w.agrees f1 w.in_slot),
          )
      rest x store1 n1 s1 le1 pc1 a1 f1 hx false d =
          let w = tested slot mid label (skips (group o)) last x false store1 s1 lt pc1 a1 f1 hx (skips_passed (group o) x 0 is_l d refl) tail1 in
          let few = w.few in (
            w.count,
            w.state,
            omega arith,
            w.comes,
            w.memory,
            then_node slot n1 end far store1 w.state rb (λ y. pure (truth (not (y == 0)))) f1
                (fb store1 n1 w.state le1 w.pc w.agrees f1) truths,
          )
