-- Nodes that write an object: assignments and steps. And nodes without code of their own.
use Rattle.std.proofs.Common.{◌≡◌, ◌≢◌, ℕ, suc, ◌+◌, ◌^◌, ◌<◌, ◌≤◌, List, [], ◌∷◌, ◌++◌, length, refl, sym, ap, ◌∙◌, subst, arith, Option, Some, None, ⊎_elim, length-append}
use Rattle.std.specs.Prelude.{pos}
use Rattle.bop_bits.specs.declared.map.TheConstants.{CODE_WORDS}
use Rattle.rv_code.specs.declared.instr.Instr.{Instr}
use Rattle.rv_code.specs.declared.instr.Instr.TheVariants as instr
use Rattle.rv_code.specs.State.{State, register}
use Rattle.rv_code.specs.Step.{address_of}
use Rattle.rv_code.specs.Word.{sum, word}
use Rattle.c_tree.specs.declared.operator.Binary.{Binary}
use Rattle.c_tree.specs.declared.operator.Step.{Step}
use Rattle.c_tree.specs.declared.operator.Step.TheVariants.{RaiseFirst, LowerFirst, RaiseLast, LowerLast}
use Rattle.c_tree.specs.declared.place.Place.{Place}
use Rattle.c_semantics.specs.declared.kind.Held.{Held}
use Rattle.c_semantics.specs.declared.kind.Operand.{Operand}
use Rattle.c_semantics.specs.declared.kind.Operand.TheVariants.{Signed}
use Rattle.c_semantics.specs.Run.{Store, Run, Ended, pure, ◌>>=◌, then_run}
use Rattle.c_semantics.specs.Memory.{value_at, store_at}
use Rattle.c_semantics.specs.Eval.{binary_act, combined, assigned, step_operator, step_value}
use Rattle.c_semantics.proofs.RunLemmas.{then_assoc, assoc, then_pure}
use Rattle.low_labels.specs.Operation.{width_of}
use Rattle.low_labels.specs.Placed.{HasAt}
use Rattle.low_expr.specs.CodePieces.{take_slot, read_by}
use Rattle.low_expr.specs.Operators.{binary_code}
use Rattle.low_expr.specs.ExprCode.{combine_code, step_register, step_code, assign_code}
use Rattle.low_expr.specs.Agreement.{Agrees, Framed, InSlot}
use Rattle.low_expr.specs.Following.{Follows, for_expression}
use Rattle.low_expr.specs.Readiness.{OperandFits}
use Rattle.low_expr.proofs.PlainCode.{Env, with_env, below_apart, above_apart}
use Rattle.low_expr.proofs.CodePiecesLemmas.{Takes, takes_append}
use Rattle.low_expr.proofs.Deciding.{Computes, undefined_follows, then_undefined}
use Rattle.low_expr.proofs.DecidedActs.{binary_decided}
use Rattle.low_expr.proofs.ReadObjects.{read_decided}
use Rattle.low_expr.proofs.CodeLengths.{slot_length, read_length, binary_length}
use Rattle.low_expr.proofs.WrittenObjects.{store_follows}
use Rattle.low_expr.proofs.ValueNodes.{Act, Acts, slot_taken, slots_taken, slot_fits}

abbrev both_of : ℕ → ℕ → Run (ℕ × ℕ)
both_of old new = pure (old, new)

-- an object's old value, what is made of it, and the store, one after the other
combined_shape : (g : ℕ → ℕ → ℕ) (o : Binary) (c d : Operand) (h : Held) (own at : Place) (x v : ℕ)
    (store : Store) (n : ℕ)
    → then_run (combined o c d h own at x v store n) (λ both. pure (g both.0 both.1))
    ≡ then_run (value_at h x own store n)
    (λ old. binary_act o c d old v at >>= λ w. store_at h x w at >>= λ new. pure (g old new))
combined_shape g o c d h own at x v store n =
    let last : ℕ × ℕ → Run ℕ = λ both. pure (g both.0 both.1) in
    then_assoc (value_at h x own store n)
    (λ old. binary_act o c d old v at >>= λ w. store_at h x w at >>= both_of old) last
    ∙ ap (then_run (value_at h x own store n))
    (λ i old. inner old i)
  where
    inner : (old : ℕ)
        → ((binary_act o c d old v at >>= λ w. store_at h x w at >>= both_of old)
        >>= λ both. pure (g both.0 both.1))
        ≡ (binary_act o c d old v at >>= λ w. store_at h x w at >>= λ new. pure (g old new))
    inner old =
        assoc (binary_act o c d old v at) (λ w. store_at h x w at >>= both_of old)
        (λ both. pure (g both.0 both.1))
        ∙ ap (λ f. binary_act o c d old v at >>= f)
        (λ i w. assoc (store_at h x w at) (both_of old) (λ both. pure (g both.0 both.1)) i)

-- an operand in register 6 beside the old value in register 5; and what a register shows then
record Beside (m : List ℕ) (k : ℕ) (operand : List Instr) (env : Env) (v rs : ℕ)
    (g : ℕ → ℕ → ℕ) : Type 0 where
  pub left : Env
  pub takes : Takes m k operand env left
  pub zero : left 0 ≡ env 0
  pub stack : left 2 ≡ env 2
  pub old : left 5 ≡ env 5
  pub right : left 6 ≡ v
  pub address : left 7 ≡ env 7
  pub shown : (w : ℕ) (last : Env) → last 5 ≡ w → last 29 ≡ left 29 → last rs ≡ g (env 5) w
  pub fits : (w : ℕ) → w < 2 ^ 32 → g (env 5) w < 2 ^ 32

module _ (code input : List ℕ) (short : length code ≤ CODE_WORDS) (labels : ℕ → ℕ)
    (frame slots : ℕ) where
  combine_follows : (g : ℕ → ℕ → ℕ) (o : Binary) (c d : Operand) (h : Held) (operand : List Instr)
      (rs slot i x v n n1 : ℕ) (own at : Place) (s : State) (store : Store) → OperandFits c
      → OperandFits d → length operand ≤ 3 → n ≡ suc n1 → s.pc ≡ address_of i → Agrees store s
      → Framed frame slots store → slot < slots → InSlot frame slot x s → v < 2 ^ 32 → rs ≢ 7
      → ((k : ℕ) (env : Env) → env 0 ≡ 0 → env 2 ≡ frame → env 5 < 2 ^ 32
      → Beside s.memory k operand env v rs g)
      → HasAt code labels i (combine_code o c d h operand rs slot)
      → Follows code input for_expression store slot slots n
      (λ w. i + width_of (combine_code o c d h operand rs slot)) s (InSlot frame slot)
      (then_run (combined o c d h own at x v store n1) (λ both. pure (g both.0 both.1)))
  combine_follows g o c d h operand rs slot i x v n n1 own at s store hc hd few en pc a f lt hx
      fits ne beside has =
      subst Goal (sym (combined_shape g o c d h own at x v store n1))
      (⊎_elim
      (λ u. undefined_follows (then_run (value_at h x own store n1) rest)
      (then_undefined (value_at h x own store n1) rest (u n1)))
      (λ q. subst (λ e. Goal (then_run e rest)) (sym (q.1 n1)) (with_old q.0 q.2))
      (read_decided h 7 k1 x own env1 frame slots s store a f
      (slot_fits frame slot x s a.small hx) refl))
    where
      Goal : Ended ℕ → Type 0
      Goal e =
          Follows code input for_expression store slot slots n
          (λ w. i + width_of (combine_code o c d h operand rs slot)) s (InSlot frame slot) e

      rest : ℕ → Run ℕ
      rest old = binary_act o c d old v at >>= λ w. store_at h x w at >>= λ new. pure (g old new)

      t7 : List Instr
      t7 = take_slot 7 slot

      reads : List Instr
      reads = read_by h 7

      xs : List Instr
      xs = binary_code o c d

      k1 : ℕ
      k1 = i + length t7

      k2 : ℕ
      k2 = k1 + length reads

      k3 : ℕ
      k3 = k2 + length operand

      env0 : Env
      env0 = register s.registers

      env1 : Env
      env1 = with_env 7 x env0

      first : Takes s.memory i t7 env0 env1
      first = slot_taken code input short labels frame slots 7 slot i x s store env0 f lt
          (omega arith) (omega arith) (a.stack ∙ f.is) hx

      few_all : length (t7 ++ (reads ++ (operand ++ xs))) ≤ 80
      few_all =
          omega (
            arith,
            few,
            slot_length 7 slot,
            read_length h 7,
            binary_length o c d,
            length-append t7 (reads ++ (operand ++ xs)),
            length-append reads
                (operand ++ xs),
            length-append operand xs,
          )

      with_new : (old : ℕ) (q : Computes s.memory k1 reads env1 old)
          (b : Beside s.memory k2 operand q.left v rs g)
          (w : ℕ) → Computes s.memory k3 xs b.left w
          → Goal (then_run (store_at h x w at store n1) (λ new. pure (g old new)))
      with_new old q b w y =
          let both = takes_append s.memory operand xs k2 q.left b.left y.left b.takes y.takes in
          let three = takes_append s.memory reads (operand ++ xs) k1 env1 q.left y.left q.takes both in
          let all = takes_append s.memory t7 (reads ++ (operand ++ xs)) i env0 env1 y.left first three in
          let sp : y.left 2 ≡ frame = y.stack_still ∙ b.stack ∙ q.stack_still ∙ a.stack ∙ f.is in
          let to : y.left 7 ≡ x = y.address_still ∙ b.address ∙ q.address_still in
          store_follows code input short labels frame slots h rs slot i x w n n1 (g old) at
          (t7 ++ (reads ++ (operand ++ xs))) y.left s store en few_all a f lt pc has all sp
          y.value y.fits to
          (λ z small.
          let shown = b.shown z (with_env 5 z y.left) refl y.old_still in
          (shown ∙ ap (λ e. g e z) q.value, subst (λ e. g e z < 2 ^ 32) q.value (b.fits z small)))
          ne

      with_old : (old : ℕ) → Computes s.memory k1 reads env1 old → Goal (rest old store n1)
      with_old old q =
          let b = beside k2 q.left q.zero_still (q.stack_still ∙ a.stack ∙ f.is) (subst (λ e. e < 2 ^ 32) (sym q.value) q.fits) in
          let e5 : b.left 5 ≡ old = b.old ∙ q.value in
          let small : b.left 5 < 2 ^ 32 = subst (λ e. e < 2 ^ 32) (sym e5) q.fits in
          let small6 : b.left 6 < 2 ^ 32 = subst (λ e. e < 2 ^ 32) (sym b.right) fits in
          let r = binary_decided s.memory k3 b.left store frame slots f (b.zero ∙ q.zero_still) small small6 o c d at hc hd in
          let same : binary_act o c d (b.left 5) (b.left 6) at store n1 ≡ binary_act o c d old v at store n1 = ap (λ e. binary_act o c d e (b.left 6) at store n1) e5 ∙ ap (λ e. binary_act o c d old e at store n1) b.right in
          let last : ℕ → Run ℕ = λ w. store_at h x w at >>= λ new. pure (g old new) in
          subst (λ e. Goal (then_run e last)) same
          (⊎_elim
          (λ u. undefined_follows (then_run
          (binary_act o c d (b.left 5) (b.left 6) at store n1) last)
          (then_undefined (binary_act o c d (b.left 5) (b.left 6) at store n1) last (u n1)))
          (λ z. subst (λ e. Goal (then_run e last)) (sym (z.1 n1)) (with_new old q b z.0 z.2))
          r)

  -- `++` and `--`
  one_beside : (m : List ℕ) (how : Step) (k : ℕ) (env : Env) → env 0 ≡ 0 → env 5 < 2 ^ 32
      → Beside m k (instr.Addi 29 5 (pos 0) ∷ instr.Addi 6 0 (pos 1) ∷ []) env 1
      (step_register how) (step_value how)
  one_beside m how k env zero fits =
      let old = sum (env 5) (word (pos 0)) in
      let left = with_env 6 (sum (env 0) (word (pos 1))) (with_env 29 (sum (env 5) (word (pos 0))) env) in
      record {
        left = left;
        takes = (((omega arith, omega arith), ((omega arith, omega arith), tt)), refl);
        zero = refl;
        stack = refl;
        old = refl;
        right = ap (λ z. sum z (word (pos 1))) zero;
        address = refl;
        shown = λ w last e5 e29. shown how w last e5 (e29 ∙ same (env 5) fits);
        fits = λ w small. small_value how w small;
      }
    where
      same : (x : ℕ) → x < 2 ^ 32 → sum x (word (pos 0)) ≡ x
      same x h = omega arith

      shown : (how : Step) (w : ℕ) (last : Env) → last 5 ≡ w → last 29 ≡ env 5
          → last (step_register how) ≡ step_value how (env 5) w
      shown RaiseFirst w last e5 e29 = e5
      shown LowerFirst w last e5 e29 = e5
      shown RaiseLast w last e5 e29 = e29
      shown LowerLast w last e5 e29 = e29

      small_value : (how : Step) (w : ℕ) → w < 2 ^ 32 → step_value how (env 5) w < 2 ^ 32
      small_value RaiseFirst w h = h
      small_value LowerFirst w h = h
      small_value RaiseLast w h = fits
      small_value LowerLast w h = fits

  pub step_acts : (how : Step) (c : Operand) (h : Held) (slot i : ℕ) (own at : Place)
      → OperandFits c → slot < slots → HasAt code labels i (step_code how c h slot)
      → Act code input short labels frame slots slot i (i + width_of (step_code how c h slot))
      (λ x. combined (step_operator how) c Signed h own at x 1
      >>= λ both. pure (step_value how both.0 both.1))
  step_acts how c h slot i own at hc lt has x store n n1 s en pc a f hx =
      combine_follows (step_value how) (step_operator how) c Signed h
      (instr.Addi 29 5 (pos 0) ∷ instr.Addi 6 0 (pos 1) ∷ [])
      (step_register how) slot i x 1 n n1 own at s store hc tt (omega arith) en pc a f lt hx
      (omega arith) (apart how)
      (λ k env zero stack fits. one_beside s.memory how k env zero fits) has
    where
      apart : (how : Step) → step_register how ≢ 7
      apart RaiseFirst = below_apart 5 7 (omega arith)
      apart LowerFirst = below_apart 5 7 (omega arith)
      apart RaiseLast = above_apart 29 7 (omega arith)
      apart LowerLast = above_apart 29 7 (omega arith)

  -- the right operand of a compound assignment
  slot_beside : (slot k v : ℕ) (s : State) (store : Store) (env : Env) → Framed frame slots store
      → slot < slots → env 2 ≡ frame → InSlot frame slot v s → v < 2 ^ 32
      → Beside s.memory k (take_slot 6 slot) env v 5 (λ old new. new)
  slot_beside slot k v s store env f lt is hv fits = record {
    left = with_env 6 v env;
    takes = slot_taken code input short labels frame slots 6 slot k v s store env f lt
        (omega arith) (omega arith) is hv;
    zero = refl;
    stack = refl;
    old = refl;
    right = refl;
    address = refl;
    shown = λ w last e5 e29. e5;
    fits = λ w small. small;
  }

  -- assignments, plain and compound
  pub assign_acts : (how : Option Binary) (c d : Operand) (h : Held) (slot i : ℕ) (own at : Place)
      → OperandFits c → OperandFits d → slot + 1 < slots
      → HasAt code labels i (assign_code how c d h slot)
      → Acts code input short labels frame slots slot i (i + width_of (assign_code how c d h slot))
      (λ x v. assigned how c d h own at x v)
  assign_acts None c d h slot i own at hc hd lt has x v store n n1 s en pc a f hx hv =
      let xs = take_slot 7 slot ++ take_slot 5 (slot + 1) in
      let env2 = with_env 5 v (with_env 7 x (register s.registers)) in
      let fits = slot_fits frame (slot + 1) v s a.small hv in
      let few : length xs ≤ 80 = omega (arith, slot_length 7 slot, slot_length 5 (slot + 1), length-append (take_slot 7 slot) (take_slot 5 (slot + 1))) in
      subst (Follows code input for_expression store slot slots n
      (λ w. i + width_of (assign_code None c d h slot)) s (InSlot frame slot))
      (then_pure (store_at h x v at store n1))
      (store_follows code input short labels frame slots h 5 slot i x v n n1
      (λ new. new) at xs env2 s store en few a f (omega arith) pc has
      (slots_taken code input short labels frame slots 7 5 slot i x v s store (omega arith)
      (omega arith) (omega arith) (omega arith) a f lt hx hv)
      (a.stack ∙ f.is) refl fits refl (λ w small. (refl, small)) (below_apart 5 7 (omega arith)))
  assign_acts (Some o) c d h slot i own at hc hd lt has x v store n n1 s en pc a f hx hv =
      let fits = slot_fits frame (slot + 1) v s a.small hv in
      combine_follows (λ old new. new) o c d h
      (take_slot 6 (slot + 1)) 5 slot i x v n n1 own at s store hc hd
      (slot_length 6 (slot + 1)) en pc a f (omega arith) hx fits
      (below_apart 5 7 (omega arith))
      (λ k env zero stack small. slot_beside (slot + 1) k v s store env f lt stack hv fits) has
