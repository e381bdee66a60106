-- The code of an expression that is ready has operations whose fields are in range.
use Rattle.std.proofs.Common.{ℕ, ◌+◌, ◌<◌, ◌≤◌, List, [], ◌∷◌, ◌++◌, arith, Option, Some, None, pos}
use Rattle.std.specs.List.{AllByRecursion}
use Rattle.std.specs.Prelude.{Bool, true, false, if◌then◌else◌}
use Rattle.std.proofs.lemmas.Grind.{common_steps}
use Rattle.std.proofs.lemmas.Int.{ints}
use Rattle.rv_code.specs.declared.instr.Instr.{Instr}
use Rattle.rv_code.specs.declared.instr.Instr.TheVariants as instr
use Rattle.c_tree.specs.declared.limits.TheConstants.{END_OF_FILE}
use Rattle.c_tree.specs.declared.operator.Binary.{Binary}
use Rattle.c_tree.specs.declared.operator.Binary.TheVariants as binary
use Rattle.c_tree.specs.declared.operator.Step.{Step}
use Rattle.c_tree.specs.declared.operator.Step.TheVariants.{RaiseFirst, LowerFirst, RaiseLast, LowerLast}
use Rattle.c_tree.specs.declared.operator.Unary.TheVariants as unary
use Rattle.c_tree.specs.declared.tree.Callee.{Callee}
use Rattle.c_tree.specs.declared.tree.Callee.TheVariants as callee
use Rattle.c_tree.specs.Expr.{Expr, Exprs}
use Rattle.c_tree.specs.Expr as expr
use Rattle.c_tree.specs.Groups.{group, is_logic}
use Rattle.c_semantics.specs.declared.kind.Held.{Held}
use Rattle.c_semantics.specs.declared.kind.Operand.{Operand}
use Rattle.c_semantics.specs.declared.kind.Operand.TheVariants.{Signed}
use Rattle.c_semantics.specs.Eval.{step_operator}
use Rattle.c_semantics.specs.Names.{Names, Definition, home_of}
use Rattle.c_semantics.specs.Evaluated.{count_of_arguments}
use Rattle.low_labels.specs.Emission.{IsOperation}
use Rattle.low_labels.specs.Operation.{Operation}
use Rattle.low_labels.specs.Operation as op
use Rattle.low_labels.specs.declared.test.Test.TheVariants as test
use Rattle.low_expr.specs.CodePieces.{all_do, take_slot, find_slot, put_slot, keep, write_by, narrow_by, read_by, nothing, home_address, constant}
use Rattle.low_expr.specs.ExprCode.{step_register, step_code, labels_in, labels_in_all, own_labels, expr_code, place_code, arguments_code, logic_code, conditional_code, keep_written, combine_code, assign_code, call_code, on_one, on_two, truth_code, skips, arguments_into, machine_call, operand_in, held_in}
use Rattle.low_expr.specs.Operators.{binary_code, unary_code, cast_code}
use Rattle.low_expr.specs.Readiness.{TakesArguments, IsReady, IsReadyPlace, AreReady}
use Rattle.low_stmt.proofs.InstructionsInRange.{AreInstrs, instrs_append, constant_fits, take_fits, find_fits, put_fits, nothing_fits, home_fits, read_fits, narrow_fits, write_fits, binary_fits, unary_fits, cast_fits, arguments_fit}

-- with so many labels
module _ (n : ℕ) where
  abbrev pub InRange : List Operation → Type 0
  InRange = AllByRecursion (IsOperation n)

  pub fit_append : (xs ys : List Operation) → InRange xs → InRange ys → InRange (xs ++ ys)
  fit_append [] ys h g = g
  fit_append (x ∷ xs) ys h g = (h.0, fit_append xs ys h.1 g)

  pub do_fits : (xs : List Instr) → AreInstrs xs → InRange (all_do xs)
  do_fits [] h = tt
  do_fits (x ∷ xs) h = (h.0, do_fits xs h.1)

  -- instructions before operations
  pub do_then : (xs : List Instr) (ys : List Operation) → AreInstrs xs → InRange ys
      → InRange (all_do xs ++ ys)
  do_then xs ys h g = fit_append (all_do xs) ys (do_fits xs h) g

  pub keep_fits : (xs : List Instr) (rs slot : ℕ) → AreInstrs xs → rs < 32
      → InRange (keep xs rs slot)
  keep_fits xs rs slot h low =
      do_then (xs ++ find_slot slot) (op.Do (put_slot rs slot) ∷ [])
      (instrs_append xs (find_slot slot) h (find_fits slot)) (put_fits rs slot low, tt)

  written_fits : (xs : List Instr) (h : Held) (rs slot : ℕ) → AreInstrs xs → rs < 32
      → InRange (keep_written xs h rs slot)
  written_fits xs h rs slot fit low =
      do_then (xs ++ narrow_by h) (all_do (write_by h) ++ keep [] rs slot)
      (instrs_append xs (narrow_by h) fit (narrow_fits h))
      (do_then (write_by h) (keep [] rs slot) (write_fits h) (keep_fits [] rs slot tt low))

  one_fits : (slot : ℕ) (xs : List Instr) → AreInstrs xs → InRange (on_one slot xs)
  one_fits slot xs h =
      keep_fits (take_slot 5 slot ++ xs) 5 slot
      (instrs_append (take_slot 5 slot) xs (take_fits 5 slot (omega arith)) h) (omega arith)

  two_fit : (slot : ℕ) (xs : List Instr) → AreInstrs xs → InRange (on_two slot xs)
  two_fit slot xs h =
      let both = instrs_append (take_slot 6 (slot + 1)) xs (take_fits 6 (slot + 1) (omega arith)) h in
      keep_fits (take_slot 5 slot ++ (take_slot 6 (slot + 1) ++ xs)) 5 slot
      (instrs_append (take_slot 5 slot) (take_slot 6 (slot + 1) ++ xs) (take_fits 5 slot (omega arith)) both)
      (omega arith)

  combine_fits : (o : Binary) (c d : Operand) (h : Held) (xs : List Instr) (rs slot : ℕ)
      → AreInstrs xs → rs < 32 → InRange (combine_code o c d h xs rs slot)
  combine_fits o c d h xs rs slot fit low =
      let last = instrs_append xs (binary_code o c d) fit (binary_fits o c d) in
      let read = instrs_append (read_by h 7) (xs ++ binary_code o c d) (read_fits h 7 (omega arith)) last in
      written_fits (take_slot 7 slot ++ (read_by h 7 ++ (xs ++ binary_code o c d))) h rs slot
      (instrs_append (take_slot 7 slot) (read_by h 7 ++ (xs ++ binary_code o c d)) (take_fits 7 slot (omega arith)) read)
      low

  step_low : (how : Step) → step_register how < 32
  step_low RaiseFirst = omega arith
  step_low LowerFirst = omega arith
  step_low RaiseLast = omega arith
  step_low LowerLast = omega arith

  raised_fits : AreInstrs (instr.Addi 29 5 (pos 0) ∷ instr.Addi 6 0 (pos 1) ∷ [])
  raised_fits = grind (arith, common_steps, ints)

  step_fits : (how : Step) (c : Operand) (h : Held) (slot : ℕ) → InRange (step_code how c h slot)
  step_fits how c h slot =
      combine_fits (step_operator how) c Signed h
      (instr.Addi 29 5 (pos 0) ∷ instr.Addi 6 0 (pos 1) ∷ []) (step_register how) slot raised_fits
      (step_low how)

  assign_fits : (how : Option Binary) (c d : Operand) (h : Held) (slot : ℕ)
      → InRange (assign_code how c d h slot)
  assign_fits None c d h slot =
      written_fits (take_slot 7 slot ++ take_slot 5 (slot + 1)) h 5 slot
      (instrs_append (take_slot 7 slot) (take_slot 5 (slot + 1)) (take_fits 7 slot (omega arith)) (take_fits 5 (slot + 1) (omega arith)))
      (omega arith)
  assign_fits (Some o) c d h slot =
      combine_fits o c d h (take_slot 6 (slot + 1)) 5 slot (take_fits 6 (slot + 1) (omega arith)) (omega arith)

  truth_fits : (slot : ℕ) → InRange (truth_code slot)
  truth_fits slot =
      one_fits slot (instr.Sltu 5 0 5 ∷ []) ((omega arith, omega arith, omega arith), tt)

  logic_fits : (o : Binary) (slot label : ℕ) (a b : List Operation) → label < n → InRange a → InRange b
      → InRange (logic_code o slot label a b)
  logic_fits o slot label a b low h g =
      let meet = op.Mark label ∷ truth_code slot in
      let branch = op.Branch (skips (group o)) 5 0 label ∷ (b ++ meet) in
      fit_append a (all_do (take_slot 5 slot) ++ branch) h
      (do_then (take_slot 5 slot) branch (take_fits 5 slot (omega arith))
      ((omega arith, omega arith, low), fit_append b meet g (low, truth_fits slot)))

  conditional_fits : (slot label : ℕ) (c a b : List Operation) → label + 1 < n → InRange c → InRange a
      → InRange b → InRange (conditional_code slot label c a b)
  conditional_fits slot label c a b low hc ha hb =
      let meet : List Operation = op.Mark (label + 1) ∷ op.Do nothing ∷ [] in
      let other : List Operation = op.Jump 0 (label + 1) ∷ op.Mark label ∷ (b ++ meet) in
      let branch : List Operation = op.Branch test.Eq 5 0 label ∷ (a ++ other) in
      let first : label < n = omega arith in
      let last : InRange meet = (low, (nothing_fits, tt)) in
      let second : InRange other = ((omega arith, low), (first, fit_append b meet hb last)) in
      fit_append c (all_do (take_slot 5 slot) ++ branch) hc
      (do_then (take_slot 5 slot) branch (take_fits 5 slot (omega arith))
      ((omega arith, omega arith, first), fit_append a other ha second))

  -- two operands, and what is made of them
  operands_fit : (a b last : List Operation) → InRange a → InRange b → InRange last → InRange (a ++ (b ++ last))
  operands_fit a b last h g k = fit_append a (b ++ last) h (fit_append b last g k)

  -- by whether the operator is `&&` or `||`
  binary_node_fits : (l : Bool) (o : Binary) (slot from na nb : ℕ) (a b1 b2 last : List Operation)
      → from + (na + own_labels l + nb) ≤ n → InRange a → (from + na + 1 + nb ≤ n → InRange b1)
      → (from + na + nb ≤ n → InRange b2) → InRange last
      → InRange (if l then logic_code o slot (from + na) a b1 else a ++ (b2 ++ last))
  binary_node_fits true o slot from na nb a b1 b2 last le h g1 g2 k =
      logic_fits o slot (from + na) a b1 (omega arith) h (g1 (omega arith))
  binary_node_fits false o slot from na nb a b1 b2 last le h g1 g2 k =
      operands_fit a b2 last h (g2 (omega arith)) k

  pub machine_fits : (number : ℕ) → number ≤ 2047 → InRange (machine_call number)
  machine_fits number small =
      ((omega arith, omega arith, grind (arith, common_steps, ints), grind (arith, common_steps, ints, small)), (tt, tt))

  -- functions have labels
  module _ (functions : List ℕ → ℕ) (known : (name : List ℕ) → functions name < n)
      (defined : List ℕ → Option Definition) (names : Names) where
    call_fits : (c : Callee) (count slot : ℕ) → TakesArguments defined names c count
        → InRange (call_code functions names c count slot)
    call_fits (callee.Name name) count slot ready =
        let few = ready.few in
        do_then (arguments_into count 10 slot) (op.Jump 1 (functions name) ∷ keep [] 10 slot)
        (arguments_fit count 10 slot (omega arith))
        ((omega arith, known name), keep_fits [] 10 slot tt (omega arith))
    call_fits callee.Getchar count slot ready =
        fit_append (machine_call 1) (keep [] 10 slot) (machine_fits 1 (omega arith)) (keep_fits [] 10 slot tt (omega arith))
    call_fits callee.Putchar count slot ready =
        do_then (take_slot 10 slot) (machine_call 2 ++ keep [] 10 slot) (take_fits 10 slot (omega arith))
        (fit_append (machine_call 2) (keep [] 10 slot) (machine_fits 2 (omega arith)) (keep_fits [] 10 slot tt (omega arith)))

    -- a value that is loaded, and goes into a slot
    kept_fits : (slot : ℕ) (xs : List Instr) → AreInstrs xs → InRange (keep xs 5 slot)
    kept_fits slot xs h = keep_fits xs 5 slot h (omega arith)

    mutual
      pub expr_fits : (e : Expr) (slot label : ℕ) → label + labels_in e ≤ n
          → IsReady defined names e → InRange (expr_code functions names e slot label)
      expr_fits (expr.Name name at) slot label le ready =
          let h = held_in names (expr.Name name at) in
          let home = home_of (names name) in
          kept_fits slot (home_address home ++ read_by h 5)
          (instrs_append (home_address home) (read_by h 5) (home_fits home) (read_fits h 5 (omega arith)))
      expr_fits (expr.Number shape v at) slot label le ready =
          kept_fits slot (constant 5 v) (constant_fits 5 v (omega arith))
      expr_fits (expr.Character code at) slot label le ready =
          kept_fits slot (constant 5 code) (constant_fits 5 code (omega arith))
      expr_fits (expr.Eof at) slot label le ready =
          kept_fits slot (constant 5 END_OF_FILE) (constant_fits 5 END_OF_FILE (omega arith))
      expr_fits (expr.Unary unary.At a at) slot label le ready =
          let h = held_in names (expr.Unary unary.At a at) in
          fit_append (expr_code functions names a slot label) (on_one slot (read_by h 5))
          (expr_fits a slot label le ready) (one_fits slot (read_by h 5) (read_fits h 5 (omega arith)))
      expr_fits (expr.Unary unary.Address a at) slot label le ready =
          fit_append (place_code functions names a slot label) (op.Do nothing ∷ [])
          (place_fits a slot label le ready) (nothing_fits, tt)
      expr_fits (expr.Unary o a at) slot label le ready =
          fit_append (expr_code functions names a slot label) (on_one slot (unary_code o))
          (expr_fits a slot label le ready) (one_fits slot (unary_code o) (unary_fits o))
      expr_fits (expr.Step how a at) slot label le ready =
          let c = operand_in names a in
          let h = held_in names a in
          fit_append (place_code functions names a slot label) (step_code how c h slot)
          (place_fits a slot label le ready.0) (step_fits how c h slot)
      expr_fits (expr.Cast to a at) slot label le ready =
          fit_append (expr_code functions names a slot label) (on_one slot (cast_code to))
          (expr_fits a slot label le ready) (one_fits slot (cast_code to) (cast_fits to))
      expr_fits (expr.Binary o a b at) slot label le ready =
          let xs = binary_code o (operand_in names a) (operand_in names b) in
          let second = label + labels_in a in
          binary_node_fits (is_logic (group o)) o slot label (labels_in a) (labels_in b)
          (expr_code functions names a slot label)
          (expr_code functions names b slot (second + 1))
          (expr_code functions names b (slot + 1) second) (on_two slot xs) le
          (expr_fits a slot label (omega (arith, le)) ready.0)
          (λ short. expr_fits b slot (second + 1) short ready.1)
          (λ short. expr_fits b (slot + 1) second short ready.1)
          (two_fit slot xs (binary_fits o (operand_in names a) (operand_in names b)))
      expr_fits (expr.Conditional c a b at) slot label le ready =
          let own = label + labels_in c in
          let third = own + 2 + labels_in a in
          conditional_fits slot own (expr_code functions names c slot label)
          (expr_code functions names a slot (own + 2)) (expr_code functions names b slot third)
          (omega (arith, le)) (expr_fits c slot label (omega (arith, le)) ready.0)
          (expr_fits a slot (own + 2) (omega (arith, le)) ready.1)
          (expr_fits b slot third (omega (arith, le)) ready.2)
      expr_fits (expr.Assign how a b at) slot label le ready =
          let c = operand_in names a in
          let d = operand_in names b in
          let h = held_in names a in
          operands_fit (place_code functions names a slot label)
          (expr_code functions names b (slot + 1) (label + labels_in a)) (assign_code how c d h slot)
          (place_fits a slot label (omega (arith, le)) ready.0)
          (expr_fits b (slot + 1) (label + labels_in a) (omega (arith, le)) ready.1)
          (assign_fits how c d h slot)
      expr_fits (expr.Index a b at) slot label le ready =
          let c = operand_in names a in
          let d = operand_in names b in
          let h = held_in names (expr.Index a b at) in
          let xs = binary_code binary.Plus c d in
          operands_fit (expr_code functions names a slot label)
          (expr_code functions names b (slot + 1) (label + labels_in a))
          (on_two slot (xs ++ read_by h 5)) (expr_fits a slot label (omega (arith, le)) ready.0)
          (expr_fits b (slot + 1) (label + labels_in a) (omega (arith, le)) ready.1)
          (two_fit slot (xs ++ read_by h 5)
          (instrs_append xs (read_by h 5) (binary_fits binary.Plus c d) (read_fits h 5 (omega arith))))
      expr_fits (expr.Call c all at) slot label le ready =
          let count = count_of_arguments all in
          fit_append (arguments_code functions names all slot label)
          (call_code functions names c count slot) (arguments_in_range all slot label le ready.0)
          (call_fits c count slot ready.1)

      place_fits : (e : Expr) (slot label : ℕ) → label + labels_in e ≤ n
          → IsReadyPlace defined names e → InRange (place_code functions names e slot label)
      place_fits (expr.Name name at) slot label le ready =
          kept_fits slot (home_address (home_of (names name))) (home_fits (home_of (names name)))
      place_fits (expr.Unary unary.At a at) slot label le ready =
          fit_append (expr_code functions names a slot label) (op.Do nothing ∷ [])
          (expr_fits a slot label le ready) (nothing_fits, tt)
      place_fits (expr.Index a b at) slot label le ready =
          let c = operand_in names a in
          let d = operand_in names b in
          let xs = binary_code binary.Plus c d in
          operands_fit (expr_code functions names a slot label)
          (expr_code functions names b (slot + 1) (label + labels_in a)) (on_two slot xs)
          (expr_fits a slot label (omega (arith, le)) ready.0)
          (expr_fits b (slot + 1) (label + labels_in a) (omega (arith, le)) ready.1)
          (two_fit slot xs (binary_fits binary.Plus c d))
      place_fits e slot label le ready = absurd ready

      arguments_in_range : (all : Exprs) (slot label : ℕ) → label + labels_in_all all ≤ n
          → AreReady defined names all → InRange (arguments_code functions names all slot label)
      arguments_in_range expr.NoMore slot label le ready = tt
      arguments_in_range (expr.More e rest) slot label le ready =
          let label1 = label + labels_in e in
          fit_append (expr_code functions names e slot label)
          (arguments_code functions names rest (slot + 1) label1)
          (expr_fits e slot label (omega (arith, le)) ready.0)
          (arguments_in_range rest (slot + 1) label1 (omega (arith, le)) ready.1)
