-- The code of an expression places only labels of its own.
use Rattle.std.proofs.Common.{ℕ, ◌+◌, ◌<◌, ◌≤◌, List, [], ◌∷◌, ◌++◌, Bool, true, false, Option, None, Some, arith}
use Rattle.std.specs.Prelude.{if◌then◌else◌, pos}
use Rattle.rv_code.specs.declared.instr.Instr.{Instr}
use Rattle.rv_code.specs.declared.instr.Instr.TheVariants as instr
use Rattle.c_tree.specs.declared.limits.TheConstants.{END_OF_FILE}
use Rattle.c_tree.specs.declared.operator.Step.{Step}
use Rattle.c_tree.specs.declared.operator.Binary.{Binary}
use Rattle.c_tree.specs.declared.operator.Binary.TheVariants as binary
use Rattle.c_tree.specs.declared.operator.Unary.TheVariants as unary
use Rattle.c_tree.specs.declared.tree.Callee.{Callee}
use Rattle.c_tree.specs.declared.tree.Callee.TheVariants as callee
use Rattle.c_tree.specs.Expr.{Expr, Exprs}
use Rattle.c_tree.specs.Expr as expr
use Rattle.c_tree.specs.Groups.{group, is_logic}
use Rattle.c_semantics.specs.declared.kind.Held.{Held}
use Rattle.c_semantics.specs.declared.kind.Operand.{Operand}
use Rattle.c_semantics.specs.declared.kind.Operand.TheVariants.{Signed}
use Rattle.c_semantics.specs.Eval.{step_operator}
use Rattle.c_semantics.specs.Names.{Names, home_of}
use Rattle.c_semantics.specs.Evaluated.{count_of_arguments}
use Rattle.low_labels.specs.Operation.{Operation}
use Rattle.low_labels.specs.Operation as op
use Rattle.low_labels.specs.declared.test.Test.TheVariants as test
use Rattle.low_expr.specs.declared.wanted.Wanted.{Wanted}
use Rattle.low_expr.specs.declared.wanted.Wanted.TheVariants.{Value, Place}
use Rattle.low_expr.specs.CodePieces.{all_do, keep, find_slot, put_slot, take_slot, constant, home_address, read_by, narrow_by, write_by, nothing}
use Rattle.low_expr.specs.Operators.{binary_code, unary_code, cast_code}
use Rattle.low_expr.specs.ExprCode.{keep_written, combine_code, step_register, skips, on_one, on_two, assign_code, step_code, truth_code, logic_code, own_labels, call_code, arguments_into, machine_call, expr_code, place_code, arguments_code, labels_in, labels_in_all, operand_in, held_in}
use Rattle.low_expr.specs.private.Wanting.{code_by}
use Rattle.low_expr.proofs.MarkLemmas.{MarksBelow, marks_append, marks_do, marks_more}

keep_marks : (n : ℕ) (xs : List Instr) (rs slot : ℕ) → MarksBelow n (keep xs rs slot)
keep_marks n xs rs slot =
    marks_append n (all_do (xs ++ find_slot slot)) (op.Do (put_slot rs slot) ∷ []) (marks_do n (xs ++ find_slot slot)) tt

written_marks : (n : ℕ) (xs : List Instr) (h : Held) (rs slot : ℕ)
    → MarksBelow n (keep_written xs h rs slot)
written_marks n xs h rs slot =
    let rest = all_do (write_by h) ++ keep [] rs slot in
    marks_append n (all_do (xs ++ narrow_by h)) rest (marks_do n (xs ++ narrow_by h))
    (marks_append n (all_do (write_by h)) (keep [] rs slot) (marks_do n (write_by h)) (keep_marks n [] rs slot))

one_marks : (n slot : ℕ) (xs : List Instr) → MarksBelow n (on_one slot xs)
one_marks n slot xs = keep_marks n (take_slot 5 slot ++ xs) 5 slot

two_marks : (n slot : ℕ) (xs : List Instr) → MarksBelow n (on_two slot xs)
two_marks n slot xs = keep_marks n (take_slot 5 slot ++ (take_slot 6 (slot + 1) ++ xs)) 5 slot

combine_marks : (n : ℕ) (o : Binary) (c d : Operand) (h : Held) (xs : List Instr) (rs slot : ℕ)
    → MarksBelow n (combine_code o c d h xs rs slot)
combine_marks n o c d h xs rs slot =
    written_marks n (take_slot 7 slot ++ (read_by h 7 ++ (xs ++ binary_code o c d))) h rs slot

step_marks : (n : ℕ) (how : Step) (c : Operand) (h : Held) (slot : ℕ)
    → MarksBelow n (step_code how c h slot)
step_marks n how c h slot =
    combine_marks n (step_operator how) c Signed h (instr.Addi 29 5 (pos 0) ∷ instr.Addi 6 0 (pos 1) ∷ []) (step_register how) slot

assign_marks : (n : ℕ) (how : Option Binary) (c d : Operand) (h : Held) (slot : ℕ)
    → MarksBelow n (assign_code how c d h slot)
assign_marks n None c d h slot = written_marks n (take_slot 7 slot ++ take_slot 5 (slot + 1)) h 5 slot
assign_marks n (Some o) c d h slot = combine_marks n o c d h (take_slot 6 (slot + 1)) 5 slot

-- two operands, and what is behind them
operands_marks : (n m : ℕ) (a b last : List Operation) → n ≤ m → MarksBelow n a → MarksBelow m b
    → MarksBelow m last → MarksBelow m (a ++ (b ++ last))
operands_marks n m a b last le h g k =
    marks_append m a (b ++ last) (marks_more n m a le h) (marks_append m b last g k)

logic_marks : (l : Bool) (o : Binary) (c d : Operand) (slot label na nb : ℕ)
    (a b1 b2 : List Operation) → MarksBelow (label + na) a
    → MarksBelow (label + na + 1 + nb) b1 → MarksBelow (label + na + nb) b2
    → MarksBelow (label + (na + own_labels l + nb))
    (if l then logic_code o slot (label + na) a b1 else a ++ (b2 ++ on_two slot (binary_code o c d)))
logic_marks true o c d slot label na nb a b1 b2 ha h1 h2 =
    let m = label + (na + 1 + nb) in
    let rest = op.Mark (label + na) ∷ truth_code slot in
    let branch = op.Branch (skips (group o)) 5 0 (label + na) ∷ (b1 ++ rest) in
    let low : label + na < m = omega arith in
    let same : label + na + 1 + nb ≤ m = omega arith in
    let less : label + na ≤ m = omega arith in
    let last = marks_append m b1 rest (marks_more (label + na + 1 + nb) m b1 same h1) (low, one_marks m slot (instr.Sltu 5 0 5 ∷ [])) in
    marks_append m a (all_do (take_slot 5 slot) ++ branch) (marks_more (label + na) m a less ha)
    (marks_append m (all_do (take_slot 5 slot)) branch (marks_do m (take_slot 5 slot)) last)
logic_marks false o c d slot label na nb a b1 b2 ha h1 h2 =
    let m = label + (na + 0 + nb) in
    let same : label + na + nb ≤ m = omega arith in
    let less : label + na ≤ m = omega arith in
    operands_marks (label + na) m a b2 (on_two slot (binary_code o c d)) less ha (marks_more (label + na + nb) m b2 same h2) (two_marks m slot (binary_code o c d))

module _ (functions : List ℕ → ℕ) (names : Names) where
  call_marks : (n : ℕ) (name : Callee) (k slot : ℕ)
      → MarksBelow n (call_code functions names name k slot)
  call_marks n (callee.Name name) k slot =
      marks_append n (all_do (arguments_into k 10 slot)) (op.Jump 1 (functions name) ∷ keep [] 10 slot) (marks_do n (arguments_into k 10 slot)) (keep_marks n [] 10 slot)
  call_marks n callee.Getchar k slot = keep_marks n [] 10 slot
  call_marks n callee.Putchar k slot =
      marks_append n (all_do (take_slot 10 slot)) (machine_call 2 ++ keep [] 10 slot) (marks_do n (take_slot 10 slot)) (keep_marks n [] 10 slot)

  mutual
    pub expr_marks : (e : Expr) (slot label : ℕ)
        → MarksBelow (label + labels_in e) (expr_code functions names e slot label)
    expr_marks (expr.Name name at) slot label =
        keep_marks (label + 0) (home_address (home_of (names name)) ++ read_by (held_in names (expr.Name name at)) 5) 5 slot
    expr_marks (expr.Number shape n at) slot label = keep_marks (label + 0) (constant 5 n) 5 slot
    expr_marks (expr.Character c at) slot label = keep_marks (label + 0) (constant 5 c) 5 slot
    expr_marks (expr.Eof at) slot label = keep_marks (label + 0) (constant 5 END_OF_FILE) 5 slot
    expr_marks (expr.Unary unary.At a at) slot label =
        let m = label + labels_in a in
        let xs = read_by (held_in names (expr.Unary unary.At a at)) 5 in
        marks_append m (expr_code functions names a slot label) (on_one slot xs) (expr_marks a slot label) (one_marks m slot xs)
    expr_marks (expr.Unary unary.Address a at) slot label =
        marks_append (label + labels_in a) (place_code functions names a slot label) (op.Do nothing ∷ []) (place_marks a slot label) tt
    expr_marks (expr.Unary o a at) slot label =
        let m = label + labels_in a in
        marks_append m (expr_code functions names a slot label) (on_one slot (unary_code o)) (expr_marks a slot label) (one_marks m slot (unary_code o))
    expr_marks (expr.Step how a at) slot label =
        let m = label + labels_in a in
        let c = operand_in names a in
        let h = held_in names a in
        marks_append m (place_code functions names a slot label) (step_code how c h slot) (place_marks a slot label) (step_marks m how c h slot)
    expr_marks (expr.Cast to a at) slot label =
        let m = label + labels_in a in
        marks_append m (expr_code functions names a slot label) (on_one slot (cast_code to)) (expr_marks a slot label) (one_marks m slot (cast_code to))
    expr_marks (expr.Binary o a b at) slot label =
        logic_marks (is_logic (group o)) o (operand_in names a) (operand_in names b) slot label (labels_in a) (labels_in b)
        (expr_code functions names a slot label)
        (expr_code functions names b slot (label + labels_in a + 1))
        (expr_code functions names b (slot + 1) (label + labels_in a))
        (expr_marks a slot label) (expr_marks b slot (label + labels_in a + 1)) (expr_marks b (slot + 1) (label + labels_in a))
    expr_marks (expr.Conditional c a b at) slot label =
        let k = label + labels_in c in
        let m = label + (labels_in c + 2 + labels_in a + labels_in b) in
        let ct = expr_code functions names c slot label in
        let ca = expr_code functions names a slot (k + 2) in
        let cb = expr_code functions names b slot (k + 2 + labels_in a) in
        let first : k ≤ m = omega arith in
        let second : k + 2 + labels_in a ≤ m = omega arith in
        let third : k + 2 + labels_in a + labels_in b ≤ m = omega arith in
        let other : k < m = omega arith in
        let end : k + 1 < m = omega arith in
        let hb = marks_append m cb (op.Mark (k + 1) ∷ op.Do nothing ∷ []) (marks_more (k + 2 + labels_in a + labels_in b) m cb third (expr_marks b slot (k + 2 + labels_in a))) (end, tt) in
        let last2 : List Operation = op.Jump 0 (k + 1) ∷ op.Mark k ∷ (cb ++ op.Mark (k + 1) ∷ op.Do nothing ∷ []) in
        let last1 : List Operation = op.Branch test.Eq 5 0 k ∷ (ca ++ last2) in
        let ha = marks_append m ca last2 (marks_more (k + 2 + labels_in a) m ca second (expr_marks a slot (k + 2))) (other, hb) in
        marks_append m ct (all_do (take_slot 5 slot) ++ last1) (marks_more k m ct first (expr_marks c slot label))
        (marks_append m (all_do (take_slot 5 slot)) last1 (marks_do m (take_slot 5 slot)) ha)
    expr_marks (expr.Assign how a b at) slot label =
        let m = label + (labels_in a + labels_in b) in
        let first : label + labels_in a ≤ m = omega arith in
        let second : label + labels_in a + labels_in b ≤ m = omega arith in
        let cb = expr_code functions names b (slot + 1) (label + labels_in a) in
        operands_marks (label + labels_in a) m (place_code functions names a slot label) cb
        (assign_code how (operand_in names a) (operand_in names b) (held_in names a) slot) first (place_marks a slot label)
        (marks_more (label + labels_in a + labels_in b) m cb second (expr_marks b (slot + 1) (label + labels_in a)))
        (assign_marks m how (operand_in names a) (operand_in names b) (held_in names a) slot)
    expr_marks (expr.Index a b at) slot label =
        let m = label + (labels_in a + labels_in b) in
        let first : label + labels_in a ≤ m = omega arith in
        let second : label + labels_in a + labels_in b ≤ m = omega arith in
        let cb = expr_code functions names b (slot + 1) (label + labels_in a) in
        let xs = binary_code binary.Plus (operand_in names a) (operand_in names b) ++ read_by (held_in names (expr.Index a b at)) 5 in
        operands_marks (label + labels_in a) m (expr_code functions names a slot label) cb (on_two slot xs) first (expr_marks a slot label)
        (marks_more (label + labels_in a + labels_in b) m cb second (expr_marks b (slot + 1) (label + labels_in a)))
        (two_marks m slot xs)
    expr_marks (expr.Call name all at) slot label =
        let m = label + labels_in_all all in
        marks_append m (arguments_code functions names all slot label) (call_code functions names name (count_of_arguments all) slot)
        (arguments_marks all slot label) (call_marks m name (count_of_arguments all) slot)

    pub place_marks : (e : Expr) (slot label : ℕ)
        → MarksBelow (label + labels_in e) (place_code functions names e slot label)
    place_marks (expr.Name name at) slot label = keep_marks (label + 0) (home_address (home_of (names name))) 5 slot
    place_marks (expr.Unary o a at) slot label =
        marks_append (label + labels_in a) (expr_code functions names a slot label) (op.Do nothing ∷ []) (expr_marks a slot label) tt
    place_marks (expr.Index a b at) slot label =
        let m = label + (labels_in a + labels_in b) in
        let first : label + labels_in a ≤ m = omega arith in
        let second : label + labels_in a + labels_in b ≤ m = omega arith in
        let cb = expr_code functions names b (slot + 1) (label + labels_in a) in
        let xs = binary_code binary.Plus (operand_in names a) (operand_in names b) in
        operands_marks (label + labels_in a) m (expr_code functions names a slot label) cb (on_two slot xs) first (expr_marks a slot label)
        (marks_more (label + labels_in a + labels_in b) m cb second (expr_marks b (slot + 1) (label + labels_in a)))
        (two_marks m slot xs)
    place_marks e slot label = tt

    pub arguments_marks : (all : Exprs) (slot label : ℕ)
        → MarksBelow (label + labels_in_all all) (arguments_code functions names all slot label)
    arguments_marks expr.NoMore slot label = tt
    arguments_marks (expr.More e rest) slot label =
        let m = label + (labels_in e + labels_in_all rest) in
        let first : label + labels_in e ≤ m = omega arith in
        let second : label + labels_in e + labels_in_all rest ≤ m = omega arith in
        let ce = expr_code functions names e slot label in
        let cr = arguments_code functions names rest (slot + 1) (label + labels_in e) in
        marks_append m ce cr (marks_more (label + labels_in e) m ce first (expr_marks e slot label))
        (marks_more (label + labels_in e + labels_in_all rest) m cr second (arguments_marks rest (slot + 1) (label + labels_in e)))

  pub code_marks : (w : Wanted) (e : Expr) (slot label : ℕ)
      → MarksBelow (label + labels_in e) (code_by functions names w e slot label)
  code_marks Value e slot label = expr_marks e slot label
  code_marks Place e slot label = place_marks e slot label
