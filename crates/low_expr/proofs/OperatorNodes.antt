-- Operators on values: what is at an address, unary and binary operators, casts, elements.
use Rattle.std.proofs.Common.{ℕ, ◌+◌, ◌<◌, ◌≤◌, List, ◌++◌, length, refl, arith, inr, length-append}
use Rattle.std.specs.Prelude.{Bool}
use Rattle.bop_bits.specs.declared.map.TheConstants.{CODE_WORDS}
use Rattle.rv_code.specs.State.{register}
use Rattle.c_tree.specs.declared.operator.Binary.{Binary}
use Rattle.c_tree.specs.declared.operator.Binary.TheVariants as binary
use Rattle.c_tree.specs.declared.operator.Unary.{Unary}
use Rattle.c_tree.specs.declared.place.Place.{Place}
use Rattle.c_tree.specs.Ty.{Ty}
use Rattle.c_tree.specs.Arithmetic.{unary_word, converted}
use Rattle.c_semantics.specs.declared.kind.Held.{Held}
use Rattle.c_semantics.specs.declared.kind.Operand.{Operand}
use Rattle.c_semantics.specs.Run.{pure, ◌>>=◌}
use Rattle.c_semantics.specs.Memory.{value_at}
use Rattle.c_semantics.specs.Eval.{outcome, binary_act}
use Rattle.low_labels.specs.Operation.{width_of}
use Rattle.low_labels.specs.Placed.{HasAt}
use Rattle.low_expr.specs.CodePieces.{take_slot, read_by}
use Rattle.low_expr.specs.Operators.{binary_code, unary_code, cast_code}
use Rattle.low_expr.specs.ExprCode.{on_one, on_two}
use Rattle.low_expr.specs.Readiness.{OperandFits}
use Rattle.low_expr.proofs.PlainCode.{with_env}
use Rattle.low_expr.proofs.OperatorsLemmas.{cast_computes}
use Rattle.low_expr.proofs.Deciding.{Computes, computes_append, then_decided}
use Rattle.low_expr.proofs.DecidedActs.{binary_decided, unary_decided}
use Rattle.low_expr.proofs.ReadObjects.{read_decided}
use Rattle.low_expr.proofs.CodeLengths.{read_length, binary_length, unary_length, cast_length}
use Rattle.low_expr.proofs.ValueNodes.{Act, Acts, one_acts, two_acts, decided_map}

module _ (code input : List ℕ) (short : length code ≤ CODE_WORDS) (labels : ℕ → ℕ)
    (frame slots : ℕ) where
  -- what is at the address in a slot
  pub pointee_acts : (h : Held) (slot i : ℕ) (at : Place) → slot < slots
      → HasAt code labels i (on_one slot (read_by h 5))
      → Act code input short labels frame slots slot i (i + width_of (on_one slot (read_by h 5)))
      (λ x. value_at h x at)
  pointee_acts h slot i at lt has =
      let l = read_length h 5 in
      one_acts code input short labels frame slots (read_by h 5) slot i (λ x. value_at h x at)
      (omega (arith, l)) lt has
      (λ x store s a f fits. read_decided h 5 (i + length (take_slot 5 slot)) x at
      (with_env 5 x (register s.registers)) frame slots s store a f fits refl)

  pub unary_acts : (op : Unary) (u : Bool) (slot i : ℕ) (at : Place) → slot < slots
      → HasAt code labels i (on_one slot (unary_code op))
      → Act code input short labels frame slots slot i (i + width_of (on_one slot (unary_code op)))
      (λ x. outcome (unary_word op u x) at)
  unary_acts op u slot i at lt has =
      let l = unary_length op in
      one_acts code input short labels frame slots (unary_code op) slot i
      (λ x. outcome (unary_word op u x) at) (omega (arith, l)) lt has
      (λ x store s a f fits. unary_decided s.memory (i + length (take_slot 5 slot))
      (with_env 5 x (register s.registers)) store refl fits op u at)

  pub cast_acts : (to : Ty) (slot i : ℕ) → slot < slots
      → HasAt code labels i (on_one slot (cast_code to))
      → Act code input short labels frame slots slot i (i + width_of (on_one slot (cast_code to)))
      (λ x. pure (converted to x))
  cast_acts to slot i lt has =
      let l = cast_length to in
      one_acts code input short labels frame slots (cast_code to) slot i
      (λ x. pure (converted to x)) (omega (arith, l)) lt has
      (λ x store s a f fits. inr (
        converted to x,
        (λ n. refl),
        cast_computes s.memory (i + length (take_slot 5 slot))
            (with_env 5 x (register s.registers)) to fits,
      ))

  pub binary_acts : (op : Binary) (c d : Operand) (slot i : ℕ) (at : Place) → OperandFits c
      → OperandFits d → slot + 1 < slots → HasAt code labels i (on_two slot (binary_code op c d))
      → Acts code input short labels frame slots slot i
      (i + width_of (on_two slot (binary_code op c d))) (λ x y. binary_act op c d x y at)
  binary_acts op c d slot i at hc hd lt has =
      let l = binary_length op c d in
      two_acts code input short labels frame slots (binary_code op c d) slot i
      (λ x y. binary_act op c d x y at) (omega (arith, l)) lt has
      (λ x y store s a f hx hy.
      binary_decided s.memory (i + length (take_slot 5 slot ++ take_slot 6 (slot + 1)))
      (with_env 6 y (with_env 5 x (register s.registers))) store frame slots f refl hx hy op c
      d at hc hd)

  -- an element of an array
  pub element_acts : (c d : Operand) (h : Held) (slot i : ℕ) (at : Place) → OperandFits c
      → OperandFits d → slot + 1 < slots
      → HasAt code labels i (on_two slot (binary_code binary.Plus c d ++ read_by h 5))
      → Acts code input short labels frame slots slot i
      (i + width_of (on_two slot (binary_code binary.Plus c d ++ read_by h 5)))
      (λ x y. binary_act binary.Plus c d x y at >>= λ z. value_at h z at)
  element_acts c d h slot i at hc hd lt has =
      let xs = binary_code binary.Plus c d in
      let l = binary_length binary.Plus c d in
      let r = read_length h 5 in
      two_acts code input short labels frame slots (xs ++ read_by h 5) slot i
      (λ x y. binary_act binary.Plus c d x y at >>= λ z. value_at h z at)
      (omega (arith, l, r, length-append xs (read_by h 5))) lt has
      (λ x y store s a f hx hy.
      let k = i + length (take_slot 5 slot ++ take_slot 6 (slot + 1)) in
      let env = with_env 6 y (with_env 5 x (register s.registers)) in
      then_decided (binary_act binary.Plus c d x y at) (λ z. value_at h z at) store
      (Computes s.memory k xs env) (Computes s.memory k (xs ++ read_by h 5) env)
      (binary_decided s.memory k env store frame slots f refl hx hy binary.Plus c d at hc hd)
      (λ z q.
      decided_map (value_at h z at) store (Computes s.memory (k + length xs) (read_by h 5) q.left)
      (Computes s.memory k (xs ++ read_by h 5) env)
      (λ v w. computes_append s.memory k xs (read_by h 5) env z v q w)
      (read_decided h 5 (k + length xs) z at q.left frame slots s store a f q.fits q.value)))
