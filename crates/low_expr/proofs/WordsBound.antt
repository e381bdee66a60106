-- At most 32 words for each node.
use Rattle.std.proofs.Common.{ℕ, ◌+◌, ◌*◌, ◌≤◌, List, [], ◌∷◌, ◌++◌, length, arith, Option, Some, None, length-append}
use Rattle.std.specs.Prelude.{Bool, true, false, if◌then◌else◌, pos}
use Rattle.rv_code.specs.declared.instr.Instr.{Instr}
use Rattle.rv_code.specs.declared.instr.Instr.TheVariants as instr
use Rattle.c_tree.specs.declared.limits.TheConstants.{END_OF_FILE}
use Rattle.c_tree.specs.declared.operator.Binary.{Binary}
use Rattle.c_tree.specs.declared.operator.Binary.TheVariants as binary
use Rattle.c_tree.specs.declared.operator.Step.{Step}
use Rattle.c_tree.specs.declared.operator.Unary.{Unary}
use Rattle.c_tree.specs.declared.operator.Unary.TheVariants as unary
use Rattle.c_tree.specs.declared.tree.Callee.{Callee}
use Rattle.c_tree.specs.declared.tree.Callee.TheVariants as callee
use Rattle.c_tree.specs.Expr.{Expr, Exprs}
use Rattle.c_tree.specs.Expr as expr
use Rattle.c_tree.specs.Groups.{group, is_logic}
use Rattle.c_semantics.specs.declared.kind.Held.{Held}
use Rattle.c_semantics.specs.declared.kind.Operand.{Operand}
use Rattle.c_semantics.specs.declared.kind.Operand.TheVariants.{Signed}
use Rattle.c_semantics.specs.Names.{Names, Definition, home_of}
use Rattle.c_semantics.specs.Eval.{step_operator}
use Rattle.c_semantics.specs.Evaluated.{count_of_arguments}
use Rattle.low_labels.specs.Operation.{Operation, width_of}
use Rattle.low_labels.specs.Operation as op
use Rattle.low_labels.specs.declared.test.Test.TheVariants as test
use Rattle.low_expr.specs.CodePieces.{is_near, find_by, find_slot, put_slot, constant, take_slot, nothing, home_address, read_by, narrow_by, write_by, all_do, keep}
use Rattle.low_expr.specs.Operators.{binary_code, unary_code, cast_code}
use Rattle.low_expr.specs.ExprCode.{on_one, on_two, keep_written, combine_code, step_code, step_register, assign_code, truth_code, logic_code, skips, machine_call, arguments_into, call_code, expr_code, place_code, arguments_code, labels_in, operand_in, held_in}
use Rattle.low_expr.specs.Readiness.{IsReady, IsReadyPlace, AreReady, TakesArguments}
use Rattle.low_expr.specs.Bound.{nodes, nodes_of_all}
use Rattle.low_expr.proofs.KeptValues.{all_width, width-append}
use Rattle.low_expr.proofs.CodeLengths.{slot_length, number_length, home_length, read_length, narrow_length, write_length, binary_length, unary_length, cast_length, arguments_length}

find_length : (b : Bool) (offset : ℕ) → length (find_by b offset) ≤ 2
find_length true offset = omega arith
find_length false offset = omega arith

keep_width : (xs : List Instr) (rs slot : ℕ) → width_of (keep xs rs slot) ≤ length xs + 3
keep_width xs rs slot =
    omega (
      arith,
      find_length (is_near (4 * slot)) (4 * slot),
      length-append xs
          (find_slot slot),
      all_width (xs ++ find_slot slot),
      width-append
          (all_do (xs ++ find_slot slot)) (op.Do (put_slot rs slot) ∷ []),
    )

one_width : (slot : ℕ) (xs : List Instr) → width_of (on_one slot xs) ≤ length xs + 6
one_width slot xs =
    omega (
      arith,
      keep_width (take_slot 5 slot ++ xs) 5 slot,
      slot_length 5 slot,
      length-append
          (take_slot 5 slot) xs,
    )

two_width : (slot : ℕ) (xs : List Instr) → width_of (on_two slot xs) ≤ length xs + 9
two_width slot xs =
    let t5 = take_slot 5 slot in
    let t6 = take_slot 6 (slot + 1) in
    omega (
      arith,
      keep_width (t5 ++ (t6 ++ xs)) 5 slot,
      slot_length 5 slot,
      slot_length 6
          (slot + 1),
      length-append t5 (t6 ++ xs),
      length-append t6 xs,
    )

written_width : (xs : List Instr) (h : Held) (rs slot : ℕ)
    → width_of (keep_written xs h rs slot) ≤ length xs + 5
written_width xs h rs slot =
    let low = narrow_by h in
    let write = write_by h in
    let last = keep [] rs slot in
    omega (
      arith,
      narrow_length h,
      write_length h,
      keep_width [] rs slot,
      length-append xs low,
      all_width (xs ++ low),
      all_width write,
      width-append (all_do (xs ++ low))
          (all_do write ++ last),
      width-append (all_do write) last,
    )

combine_width : (o : Binary) (c d : Operand) (h : Held) (operand : List Instr) (rs slot : ℕ)
    → length operand ≤ 3 → width_of (combine_code o c d h operand rs slot) ≤ 16
combine_width o c d h operand rs slot few =
    let t7 = take_slot 7 slot in
    let reads = read_by h 7 in
    let xs = binary_code o c d in
    omega (
      arith,
      few,
      slot_length 7 slot,
      read_length h 7,
      binary_length o c d,
      length-append t7
          (reads ++ (operand ++ xs)),
      length-append reads
          (operand ++ xs),
      length-append operand xs,
      written_width
          (t7 ++ (reads ++ (operand ++ xs))) h rs slot,
    )

step_width : (how : Step) (c : Operand) (h : Held) (slot : ℕ)
    → width_of (step_code how c h slot) ≤ 16
step_width how c h slot =
    combine_width (step_operator how) c Signed h
    (instr.Addi 29 5 (pos 0) ∷ instr.Addi 6 0 (pos 1) ∷ []) (step_register how) slot
    (omega arith)

assign_width : (how : Option Binary) (c d : Operand) (h : Held) (slot : ℕ)
    → width_of (assign_code how c d h slot) ≤ 16
assign_width None c d h slot =
    let t7 = take_slot 7 slot in
    let t5 = take_slot 5 (slot + 1) in
    omega (
      arith,
      slot_length 7 slot,
      slot_length 5 (slot + 1),
      length-append t7 t5,
      written_width
          (t7 ++ t5) h 5 slot,
    )
assign_width (Some o) c d h slot =
    combine_width o c d h (take_slot 6 (slot + 1)) 5 slot (slot_length 6 (slot + 1))

machine_width : (number : ℕ) (last : List Operation)
    → width_of (machine_call number ++ last) ≤ 2 + width_of last
machine_width number last = omega (arith, width-append (machine_call number) last)

module _ (functions : List ℕ → ℕ) (defined : List ℕ → Option Definition) (names : Names) where
  call_width : (name : Callee) (k slot : ℕ) → TakesArguments defined names name k
      → width_of (call_code functions names name k slot) ≤ 32
  call_width (callee.Name name) k slot h =
      let xs = arguments_into k 10 slot in
      let last : List Operation = op.Jump 1 (functions name) ∷ keep [] 10 slot in
      omega (
        arith,
        h.few,
        arguments_length k 10 slot,
        keep_width [] 10 slot,
        all_width xs,
        width-append (all_do xs) last,
      )
  call_width callee.Getchar k slot h =
      omega (arith, machine_width 1 (keep [] 10 slot), keep_width [] 10 slot)
  call_width callee.Putchar k slot h =
      let xs = take_slot 10 slot in
      let last = machine_call 2 ++ keep [] 10 slot in
      omega (
        arith,
        slot_length 10 slot,
        machine_width 2
            (keep [] 10 slot),
        keep_width [] 10 slot,
        all_width xs,
        width-append (all_do xs) last,
      )

  logic_width : (l : Bool) (o : Binary) (c d : Operand) (slot label na nb : ℕ)
      (a b1 b2 : List Operation)
      → width_of a ≤ 32 * na → width_of b1 ≤ 32 * nb → width_of b2 ≤ 32 * nb
      → width_of (if l then logic_code o slot label a b1 else a
      ++ (b2 ++ on_two slot (binary_code o c d))) ≤ 32 * (1 + na + nb)
  logic_width true o c d slot label na nb a b1 b2 ha h1 h2 =
      let t5 = take_slot 5 slot in
      let last = b1 ++ (op.Mark label ∷ truth_code slot) in
      let rest = op.Branch (skips (group o)) 5 0 label ∷ last in
      let t = one_width slot (instr.Sltu 5 0 5 ∷ []) in
      omega (
        arith,
        slot_length 5 slot,
        t,
        all_width t5,
        width-append a
            (all_do t5 ++ rest),
        width-append (all_do t5) rest,
        width-append b1
            (op.Mark label ∷ truth_code slot),
      )
  logic_width false o c d slot label na nb a b1 b2 ha h1 h2 =
      let last = on_two slot (binary_code o c d) in
      omega (
        arith,
        binary_length o c d,
        two_width slot (binary_code o c d),
        width-append a
            (b2 ++ last),
        width-append b2 last,
      )

  one_words : (n : ℕ) (a last : List Operation) → width_of a ≤ 32 * n → width_of last ≤ 32
      → width_of (a ++ last) ≤ 32 * (1 + n)
  one_words n a last h k = omega (arith, width-append a last)

  two_words : (n p : ℕ) (a b last : List Operation) → width_of a ≤ 32 * n → width_of b ≤ 32 * p
      → width_of last ≤ 32 → width_of (a ++ (b ++ last)) ≤ 32 * (1 + n + p)
  two_words n p a b last h g k = omega (arith, width-append a (b ++ last), width-append b last)

  leaf_width : (xs : List Instr) (slot : ℕ) → length xs ≤ 20 → width_of (keep xs 5 slot) ≤ 32
  leaf_width xs slot h = omega (arith, h, keep_width xs 5 slot)

  unary_width : (o : Unary) (slot : ℕ) → width_of (on_one slot (unary_code o)) ≤ 32
  unary_width o slot = omega (arith, unary_length o, one_width slot (unary_code o))

  mutual
    pub expr_words : (e : Expr) (slot label : ℕ) → IsReady defined names e
        → width_of (expr_code functions names e slot label) ≤ 32 * nodes e
    expr_words (expr.Name name at) slot label ready =
        let h = home_of (names name) in
        let d = held_in names (expr.Name name at) in
        leaf_width (home_address h ++ read_by d 5) slot
        (omega (
          arith,
          home_length h,
          read_length d 5,
          length-append (home_address h)
              (read_by d 5),
        ))
    expr_words (expr.Number shape n at) slot label ready =
        leaf_width (constant 5 n) slot (omega (arith, number_length 5 n))
    expr_words (expr.Character c at) slot label ready =
        leaf_width (constant 5 c) slot (omega (arith, number_length 5 c))
    expr_words (expr.Eof at) slot label ready =
        leaf_width (constant 5 END_OF_FILE) slot (omega (arith, number_length 5 END_OF_FILE))
    expr_words (expr.Unary unary.At a at) slot label ready =
        let h = held_in names (expr.Unary unary.At a at) in
        one_words (nodes a) (expr_code functions names a slot label) (on_one slot (read_by h 5))
        (expr_words a slot label ready)
        (omega (arith, read_length h 5, one_width slot (read_by h 5)))
    expr_words (expr.Unary unary.Address a at) slot label ready =
        one_words (nodes a) (place_code functions names a slot label) (op.Do nothing ∷ [])
        (place_words a slot label ready) (omega arith)
    expr_words (expr.Unary o a at) slot label ready =
        one_words (nodes a) (expr_code functions names a slot label) (on_one slot (unary_code o))
        (expr_words a slot label ready) (unary_width o slot)
    expr_words (expr.Step how a at) slot label ready =
        let c = operand_in names a in
        let h = held_in names a in
        one_words (nodes a) (place_code functions names a slot label) (step_code how c h slot)
        (place_words a slot label ready.0) (omega (arith, step_width how c h slot))
    expr_words (expr.Cast to a at) slot label ready =
        one_words (nodes a) (expr_code functions names a slot label) (on_one slot (cast_code to))
        (expr_words a slot label ready)
        (omega (arith, cast_length to, one_width slot (cast_code to)))
    expr_words (expr.Binary o a b at) slot label ready =
        logic_width (is_logic (group o)) o (operand_in names a) (operand_in names b) slot
        (label + labels_in a) (nodes a) (nodes b)
        (expr_code functions names a slot label)
        (expr_code functions names b slot (label + labels_in a + 1))
        (expr_code functions names b (slot + 1) (label + labels_in a))
        (expr_words a slot label ready.0) (expr_words b slot (label + labels_in a + 1) ready.1)
        (expr_words b (slot + 1) (label + labels_in a) ready.1)
    expr_words (expr.Conditional c a b at) slot label ready =
        let t5 = take_slot 5 slot in
        let l = label + labels_in c in
        let ct = expr_code functions names c slot label in
        let ca = expr_code functions names a slot (label + labels_in c + 2) in
        let cb = expr_code functions names b slot (label + labels_in c + 2 + labels_in a) in
        let last3 : List Operation = op.Mark (l + 1) ∷ op.Do nothing ∷ [] in
        let last2 : List Operation = op.Jump 0 (l + 1) ∷ op.Mark l ∷ (cb ++ last3) in
        let last1 : List Operation = op.Branch test.Eq 5 0 l ∷ (ca ++ last2) in
        let hc = expr_words c slot label ready.0 in
        let ha = expr_words a slot (label + labels_in c + 2) ready.1 in
        let hb = expr_words b slot (label + labels_in c + 2 + labels_in a) ready.2 in
        omega (
          arith,
          hc,
          ha,
          hb,
          slot_length 5 slot,
          all_width t5,
          width-append ct
              (all_do t5 ++ last1),
          width-append
              (all_do t5) last1,
          width-append ca last2,
          width-append cb last3,
        )
    expr_words (expr.Assign how a b at) slot label ready =
        let c = operand_in names a in
        let d = operand_in names b in
        let h = held_in names a in
        two_words (nodes a) (nodes b) (place_code functions names a slot label)
        (expr_code functions names b (slot + 1) (label + labels_in a))
        (assign_code how c d h slot)
        (place_words a slot label ready.0) (expr_words b (slot + 1) (label + labels_in a) ready.1)
        (omega (arith, assign_width how c d h slot))
    expr_words (expr.Index a b at) slot label ready =
        let c = operand_in names a in
        let d = operand_in names b in
        let h = held_in names (expr.Index a b at) in
        let xs = binary_code binary.Plus c d in
        two_words (nodes a) (nodes b) (expr_code functions names a slot label)
        (expr_code functions names b (slot + 1) (label + labels_in a))
        (on_two slot (xs ++ read_by h 5))
        (expr_words a slot label ready.0) (expr_words b (slot + 1) (label + labels_in a) ready.1)
        (omega (
          arith,
          binary_length binary.Plus c d,
          read_length h 5,
          length-append xs
              (read_by h 5),
          two_width slot (xs ++ read_by h 5),
        ))
    expr_words (expr.Call name all at) slot label ready =
        one_words (nodes_of_all all) (arguments_code functions names all slot label)
        (call_code functions names name (count_of_arguments all) slot)
        (arguments_words all slot label ready.0)
        (call_width name (count_of_arguments all) slot ready.1)

    pub place_words : (e : Expr) (slot label : ℕ) → IsReadyPlace defined names e
        → width_of (place_code functions names e slot label) ≤ 32 * nodes e
    place_words (expr.Name name at) slot label ready =
        let h = home_of (names name) in
        leaf_width (home_address h) slot (omega (arith, home_length h))
    place_words (expr.Unary unary.At a at) slot label ready =
        one_words (nodes a) (expr_code functions names a slot label) (op.Do nothing ∷ [])
        (expr_words a slot label ready) (omega arith)
    place_words (expr.Index a b at) slot label ready =
        let c = operand_in names a in
        let d = operand_in names b in
        two_words (nodes a) (nodes b) (expr_code functions names a slot label)
        (expr_code functions names b (slot + 1) (label + labels_in a))
        (on_two slot (binary_code binary.Plus c d))
        (expr_words a slot label ready.0) (expr_words b (slot + 1) (label + labels_in a) ready.1)
        (omega (arith, binary_length binary.Plus c d, two_width slot (binary_code binary.Plus c d)))
    place_words e slot label ready = absurd ready

    arguments_words : (all : Exprs) (slot label : ℕ) → AreReady defined names all
        → width_of (arguments_code functions names all slot label) ≤ 32 * nodes_of_all all
    arguments_words expr.NoMore slot label ready = omega arith
    arguments_words (expr.More e rest) slot label ready =
        let h = expr_words e slot label ready.0 in
        let g = arguments_words rest (slot + 1) (label + labels_in e) ready.1 in
        omega (
          arith,
          h,
          g,
          width-append (expr_code functions names e slot label)
              (arguments_code functions names rest (slot + 1) (label + labels_in e)),
        )
