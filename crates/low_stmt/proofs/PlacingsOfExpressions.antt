-- The code of an expression places each label at most once, and only those that the expression takes.
use Rattle.std.proofs.Common.{◌≡◌, ℕ, ◌+◌, ◌≤◌, List, [], ◌∷◌, ◌++◌, refl, arith, Option, Some, None}
use Rattle.std.specs.Prelude.{Bool, true, false, if◌then◌else◌, pos}
use Rattle.rv_code.specs.declared.instr.Instr.{Instr}
use Rattle.rv_code.specs.declared.instr.Instr.TheVariants as instr
use Rattle.c_tree.specs.declared.limits.TheConstants.{END_OF_FILE}
use Rattle.c_tree.specs.declared.operator.Binary.{Binary}
use Rattle.c_tree.specs.declared.operator.Binary.TheVariants as binary
use Rattle.c_tree.specs.declared.operator.Step.{Step}
use Rattle.c_tree.specs.declared.operator.Unary.{Unary}
use Rattle.c_tree.specs.declared.operator.Unary.TheVariants as unary
use Rattle.c_tree.specs.declared.tree.Callee.{Callee}
use Rattle.c_tree.specs.declared.tree.Callee.TheVariants as callee
use Rattle.c_tree.specs.Expr.{Expr, Exprs}
use Rattle.c_tree.specs.Expr as expr
use Rattle.c_tree.specs.Groups.{group, is_logic}
use Rattle.c_semantics.specs.declared.kind.Held.{Held}
use Rattle.c_semantics.specs.declared.kind.Operand.{Operand}
use Rattle.c_semantics.specs.declared.kind.Operand.TheVariants.{Signed}
use Rattle.c_semantics.specs.Eval.{step_operator}
use Rattle.c_semantics.specs.Names.{Names, home_of}
use Rattle.c_semantics.specs.Evaluated.{count_of_arguments}
use Rattle.low_labels.specs.Operation.{Operation}
use Rattle.low_labels.specs.Operation as op
use Rattle.low_labels.specs.declared.test.Test.TheVariants as test
use Rattle.low_expr.specs.CodePieces.{all_do, take_slot, find_slot, put_slot, keep, write_by, narrow_by, read_by, nothing, home_address, constant}
use Rattle.low_expr.specs.ExprCode.{step_register, step_code, labels_in, labels_in_all, own_labels, expr_code, place_code, arguments_code, logic_code, conditional_code, unary_node, keep_written, combine_code, assign_code, call_code, on_one, on_two, truth_code, skips, arguments_into, machine_call, operand_in, held_in}
use Rattle.low_expr.specs.Operators.{binary_code, unary_code, cast_code}
use Rattle.low_stmt.proofs.Placings.{placings, among, placings-append, placings_do, among_next, among_more, among_same}

module _ (k : ℕ) where
  keep_placings : (xs : List Instr) (rs slot : ℕ) → placings k (keep xs rs slot) ≡ 0
  keep_placings xs rs slot =
      omega (
        arith,
        placings-append k (all_do (xs ++ find_slot slot)) (op.Do (put_slot rs slot) ∷ []),
        placings_do k (xs ++ find_slot slot),
      )

  written_placings : (xs : List Instr) (h : Held) (rs slot : ℕ)
      → placings k (keep_written xs h rs slot) ≡ 0
  written_placings xs h rs slot =
      omega (
        arith,
        placings-append k (all_do (xs ++ narrow_by h)) (all_do (write_by h) ++ keep [] rs slot),
        placings_do k (xs ++ narrow_by h),
        placings-append k (all_do (write_by h)) (keep [] rs slot),
        placings_do k (write_by h),
        keep_placings [] rs slot,
      )

  one_placings : (slot : ℕ) (xs : List Instr) → placings k (on_one slot xs) ≡ 0
  one_placings slot xs = keep_placings (take_slot 5 slot ++ xs) 5 slot

  two_placings : (slot : ℕ) (xs : List Instr) → placings k (on_two slot xs) ≡ 0
  two_placings slot xs = keep_placings (take_slot 5 slot ++ (take_slot 6 (slot + 1) ++ xs)) 5 slot

  combine_placings : (o : Binary) (c d : Operand) (h : Held) (xs : List Instr) (rs slot : ℕ)
      → placings k (combine_code o c d h xs rs slot) ≡ 0
  combine_placings o c d h xs rs slot =
      written_placings (take_slot 7 slot ++ (read_by h 7 ++ (xs ++ binary_code o c d))) h rs slot

  step_placings : (how : Step) (c : Operand) (h : Held) (slot : ℕ)
      → placings k (step_code how c h slot) ≡ 0
  step_placings how c h slot =
      combine_placings (step_operator how) c Signed h
      (instr.Addi 29 5 (pos 0) ∷ instr.Addi 6 0 (pos 1) ∷ []) (step_register how) slot

  assign_placings : (how : Option Binary) (c d : Operand) (h : Held) (slot : ℕ)
      → placings k (assign_code how c d h slot) ≡ 0
  assign_placings None c d h slot =
      written_placings (take_slot 7 slot ++ take_slot 5 (slot + 1)) h 5 slot
  assign_placings (Some o) c d h slot = combine_placings o c d h (take_slot 6 (slot + 1)) 5 slot

  -- labels from one on, so many, each at most once
  abbrev pub Places : (label n : ℕ) → List Operation → Type 0
  Places label n os = placings k os + among label k ≤ among (label + n) k

  pub places_none : (label : ℕ) (os : List Operation) → placings k os ≡ 0 → Places label 0 os
  places_none label os none = omega (arith, none, among_same k label (label + 0) (omega arith))

  places_nothing : (label n : ℕ) → Places label n []
  places_nothing label n = omega (arith, among_more k label (label + n) (omega arith))

  pub places_then : (label n : ℕ) (xs ys : List Operation) → Places label n xs
      → placings k ys ≡ 0 → Places label n (xs ++ ys)
  places_then label n xs ys h none = omega (arith, placings-append k xs ys, h, none)

  pub places_next : (label n m : ℕ) (xs ys : List Operation) → Places label n xs
      → Places (label + n) m ys → Places label (n + m) (xs ++ ys)
  places_next label n m xs ys h g =
      omega (
        arith,
        placings-append k xs ys,
        h,
        g,
        among_same k (label + n + m) (label + (n + m)) (omega arith),
      )

  unary_places : (o : Unary) (h : Held) (slot label n : ℕ) (value place : List Operation)
      → Places label n value → Places label n place
      → Places label n (unary_node o h slot value place)
  unary_places unary.At h slot label n value place v p =
      places_then label n value (on_one slot (read_by h 5)) v (one_placings slot (read_by h 5))
  unary_places unary.Address h slot label n value place v p =
      places_then label n place (op.Do nothing ∷ []) p refl
  unary_places o h slot label n value place v p =
      places_then label n value (on_one slot (unary_code o)) v (one_placings slot (unary_code o))

  logic_places : (o : Binary) (slot label n m : ℕ) (a b : List Operation) → Places label n a
      → Places (label + n + 1) m b → Places label (n + 1 + m) (logic_code o slot (label + n) a b)
  logic_places o slot label n m a b h g =
      let meet = op.Mark (label + n) ∷ truth_code slot in
      let branch = op.Branch (skips (group o)) 5 0 (label + n) ∷ (b ++ meet) in
      omega (
        arith,
        placings-append k a (all_do (take_slot 5 slot) ++ branch),
        placings-append k (all_do (take_slot 5 slot)) branch,
        placings_do k (take_slot 5 slot),
        placings-append k b meet,
        one_placings slot (instr.Sltu 5 0 5 ∷ []),
        h,
        g,
        among_next k (label + n),
        among_same k (label + n + 1 + m) (label + (n + 1 + m)) (omega arith),
      )

  conditional_places : (slot label n na nb : ℕ) (c a b : List Operation) → Places label n c
      → Places (label + n + 2) na a → Places (label + n + 2 + na) nb b
      → Places label (n + 2 + na + nb) (conditional_code slot (label + n) c a b)
  conditional_places slot label n na nb c a b hc ha hb =
      let meet : List Operation = op.Mark (label + n + 1) ∷ op.Do nothing ∷ [] in
      let other : List Operation = op.Jump 0 (label + n + 1) ∷ op.Mark (label + n) ∷ (b ++ meet) in
      let branch : List Operation = op.Branch test.Eq 5 0 (label + n) ∷ (a ++ other) in
      omega (
        arith,
        placings-append k c (all_do (take_slot 5 slot) ++ branch),
        placings-append k (all_do (take_slot 5 slot)) branch,
        placings_do k (take_slot 5 slot),
        placings-append k a other,
        placings-append k b meet,
        hc,
        ha,
        hb,
        among_next k (label + n),
        among_next k (label + n + 1),
        among_same k (label + n + 1 + 1) (label + n + 2) (omega arith),
        among_same k (label + n + 2 + na + nb) (label + (n + 2 + na + nb)) (omega arith),
      )

  -- two operands, and what is made of them
  operands_place : (label n m : ℕ) (a b last : List Operation) → Places label n a
      → Places (label + n) m b → placings k last ≡ 0 → Places label (n + m) (a ++ (b ++ last))
  operands_place label n m a b last h g none =
      places_next label n m a (b ++ last) h (places_then (label + n) m b last g none)

  -- by whether the operator is `&&` or `||`
  binary_places : (l : Bool) (o : Binary) (slot label n m : ℕ) (a b1 b2 last : List Operation)
      → Places label n a → Places (label + n + 1) m b1 → Places (label + n) m b2
      → placings k last ≡ 0
      → Places label (n + own_labels l + m)
      (if l then logic_code o slot (label + n) a b1 else a ++ (b2 ++ last))
  binary_places true o slot label n m a b1 b2 last h g1 g2 none =
      logic_places o slot label n m a b1 h g1
  binary_places false o slot label n m a b1 b2 last h g1 g2 none =
      omega (
        arith,
        operands_place label n m a b2 last h g2 none,
        among_same k (label + (n + m)) (label + (n + 0 + m)) (omega arith),
      )

  module _ (functions : List ℕ → ℕ) (names : Names) where
    call_placings : (c : Callee) (count slot : ℕ)
        → placings k (call_code functions names c count slot) ≡ 0
    call_placings (callee.Name name) count slot =
        omega (
          arith,
          placings-append k (all_do (arguments_into count 10 slot))
              (op.Jump 1 (functions name) ∷ keep [] 10 slot),
          placings_do k (arguments_into count 10 slot),
          keep_placings [] 10 slot,
        )
    call_placings callee.Getchar count slot = keep_placings [] 10 slot
    call_placings callee.Putchar count slot =
        omega (
          arith,
          placings-append k (all_do (take_slot 10 slot)) (machine_call 2 ++ keep [] 10 slot),
          placings_do k (take_slot 10 slot),
          keep_placings [] 10 slot,
        )

    -- a value that is loaded, and goes into a slot
    kept_places : (label slot : ℕ) (xs : List Instr) → Places label 0 (keep xs 5 slot)
    kept_places label slot xs = places_none label (keep xs 5 slot) (keep_placings xs 5 slot)

    mutual
      pub expr_places : (e : Expr) (slot label : ℕ)
          → Places label (labels_in e) (expr_code functions names e slot label)
      expr_places (expr.Name name at) slot label =
          kept_places label slot (home_address (home_of (names name)) ++ read_by (held_in names (expr.Name name at)) 5)
      expr_places (expr.Number shape n at) slot label = kept_places label slot (constant 5 n)
      expr_places (expr.Character code at) slot label = kept_places label slot (constant 5 code)
      expr_places (expr.Eof at) slot label = kept_places label slot (constant 5 END_OF_FILE)
      expr_places (expr.Unary o a at) slot label =
          unary_places o (held_in names (expr.Unary o a at)) slot label (labels_in a)
          (expr_code functions names a slot label) (place_code functions names a slot label)
          (expr_places a slot label) (place_places a slot label)
      expr_places (expr.Step how a at) slot label =
          let c = operand_in names a in
          let h = held_in names a in
          places_then label (labels_in a) (place_code functions names a slot label)
          (step_code how c h slot) (place_places a slot label) (step_placings how c h slot)
      expr_places (expr.Cast to a at) slot label =
          places_then label (labels_in a) (expr_code functions names a slot label)
          (on_one slot (cast_code to)) (expr_places a slot label) (one_placings slot (cast_code to))
      expr_places (expr.Binary o a b at) slot label =
          let xs = binary_code o (operand_in names a) (operand_in names b) in
          binary_places (is_logic (group o)) o slot label (labels_in a) (labels_in b)
          (expr_code functions names a slot label)
          (expr_code functions names b slot (label + labels_in a + 1))
          (expr_code functions names b (slot + 1) (label + labels_in a)) (on_two slot xs)
          (expr_places a slot label) (expr_places b slot (label + labels_in a + 1))
          (expr_places b (slot + 1) (label + labels_in a)) (two_placings slot xs)
      expr_places (expr.Conditional c a b at) slot label =
          let then_label = label + labels_in c + 2 in
          conditional_places slot label (labels_in c) (labels_in a) (labels_in b)
          (expr_code functions names c slot label) (expr_code functions names a slot then_label)
          (expr_code functions names b slot (then_label + labels_in a)) (expr_places c slot label)
          (expr_places a slot then_label) (expr_places b slot (then_label + labels_in a))
      expr_places (expr.Assign how a b at) slot label =
          let c = operand_in names a in
          let d = operand_in names b in
          let h = held_in names a in
          operands_place label (labels_in a) (labels_in b) (place_code functions names a slot label)
          (expr_code functions names b (slot + 1) (label + labels_in a)) (assign_code how c d h slot)
          (place_places a slot label) (expr_places b (slot + 1) (label + labels_in a))
          (assign_placings how c d h slot)
      expr_places (expr.Index a b at) slot label =
          let read = read_by (held_in names (expr.Index a b at)) 5 in
          let xs = binary_code binary.Plus (operand_in names a) (operand_in names b) ++ read in
          operands_place label (labels_in a) (labels_in b) (expr_code functions names a slot label)
          (expr_code functions names b (slot + 1) (label + labels_in a)) (on_two slot xs)
          (expr_places a slot label) (expr_places b (slot + 1) (label + labels_in a))
          (two_placings slot xs)
      expr_places (expr.Call c all at) slot label =
          let count = count_of_arguments all in
          places_then label (labels_in_all all) (arguments_code functions names all slot label)
          (call_code functions names c count slot) (arguments_place all slot label)
          (call_placings c count slot)

      place_places : (e : Expr) (slot label : ℕ)
          → Places label (labels_in e) (place_code functions names e slot label)
      place_places (expr.Name name at) slot label =
          kept_places label slot (home_address (home_of (names name)))
      place_places (expr.Unary o a at) slot label =
          places_then label (labels_in a) (expr_code functions names a slot label)
          (op.Do nothing ∷ []) (expr_places a slot label) refl
      place_places (expr.Index a b at) slot label =
          let xs = binary_code binary.Plus (operand_in names a) (operand_in names b) in
          operands_place label (labels_in a) (labels_in b) (expr_code functions names a slot label)
          (expr_code functions names b (slot + 1) (label + labels_in a)) (on_two slot xs)
          (expr_places a slot label) (expr_places b (slot + 1) (label + labels_in a))
          (two_placings slot xs)
      place_places e slot label = places_nothing label (labels_in e)

      arguments_place : (all : Exprs) (slot label : ℕ)
          → Places label (labels_in_all all) (arguments_code functions names all slot label)
      arguments_place expr.NoMore slot label = places_none label [] refl
      arguments_place (expr.More e rest) slot label =
          places_next label (labels_in e) (labels_in_all rest)
          (expr_code functions names e slot label)
          (arguments_code functions names rest (slot + 1) (label + labels_in e))
          (expr_places e slot label) (arguments_place rest (slot + 1) (label + labels_in e))
