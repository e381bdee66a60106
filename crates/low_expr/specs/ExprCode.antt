-- The code of an expression, whose value goes into a slot; one clause a form. Labels are numbered
-- from a number on, in the order in which the code needs them.
use Rattle.std.specs.Prelude.{ℕ, zero, suc, ◌+◌, Bool, if◌then◌else◌, List, [], ◌∷◌, ◌++◌, Option, Some, None, pos}
use Rattle.rv_code.specs.declared.instr.Instr.{Instr}
use Rattle.rv_code.specs.declared.instr.Instr.TheVariants as instr
use Rattle.low_labels.specs.Operation.{Operation}
use Rattle.low_labels.specs.Operation as op
use Rattle.low_labels.specs.declared.test.Test.{Test}
use Rattle.low_labels.specs.declared.test.Test.TheVariants as test
use Rattle.c_tree.specs.declared.limits.TheConstants.{END_OF_FILE}
use Rattle.c_tree.specs.declared.operator.Binary.{Binary}
use Rattle.c_tree.specs.declared.operator.Binary.TheVariants as binary
use Rattle.c_tree.specs.declared.operator.Group.{Group}
use Rattle.c_tree.specs.declared.operator.Group.TheVariants as by
use Rattle.c_tree.specs.declared.operator.Step.{Step}
use Rattle.c_tree.specs.declared.operator.Step.TheVariants.{RaiseFirst, LowerFirst, RaiseLast, LowerLast}
use Rattle.c_tree.specs.declared.operator.Unary.{Unary}
use Rattle.c_tree.specs.declared.operator.Unary.TheVariants as unary
use Rattle.c_tree.specs.declared.tree.Callee.{Callee}
use Rattle.c_tree.specs.declared.tree.Callee.TheVariants as callee
use Rattle.c_tree.specs.Expr.{Expr, Exprs}
use Rattle.c_tree.specs.Expr as expr
use Rattle.c_tree.specs.Groups.{group, is_logic}
use Rattle.c_tree.specs.Typing.{type_at}
use Rattle.c_semantics.specs.declared.kind.Held.{Held}
use Rattle.c_semantics.specs.declared.kind.Operand.{Operand}
use Rattle.c_semantics.specs.declared.kind.Operand.TheVariants.{Signed}
use Rattle.c_semantics.specs.Names.{Names, types, home_of, held_by, operand_by}
use Rattle.c_semantics.specs.Eval.{step_operator}
use Rattle.c_semantics.specs.Evaluated.{count_of_arguments}
use Rattle.low_expr.specs.Registers.{x0, ra, t0, t1, t2, t4, a0, a7}
use Rattle.low_expr.specs.CodePieces.{all_do, constant, take_slot, nothing, home_address, read_by, narrow_by, write_by, keep}
use Rattle.low_expr.specs.Operators.{binary_code, unary_code, cast_code}

-- on the value of a slot
abbrev pub on_one : (slot : ℕ) → List Instr → List Operation
on_one slot xs = keep (take_slot t0 slot ++ xs) t0 slot

-- on the values of a slot and the next one
abbrev pub on_two : (slot : ℕ) → List Instr → List Operation
on_two slot xs = keep (take_slot t0 slot ++ (take_slot t1 (slot + 1) ++ xs)) t0 slot

-- instructions that leave an address in t2 and a value in t0, which goes into the object; and then
-- a register goes into a slot
abbrev pub keep_written : List Instr → Held → (rs slot : ℕ) → List Operation
keep_written xs h rs slot =
    all_do (xs ++ narrow_by h) ++ (all_do (write_by h) ++ keep [] rs slot)

-- `&&` goes past its right operand where the left one is 0, and `||` where it isn't
abbrev pub skips : Group → Test
skips by.And = test.Eq
skips _ = test.Ne

-- whether a slot's value isn't 0
abbrev pub truth_code : (slot : ℕ) → List Operation
truth_code slot = on_one slot (instr.Sltu t0 x0 t0 ∷ [])

-- by the codes of the operands
abbrev pub logic_code : Binary → (slot label : ℕ) → List Operation → List Operation
    → List Operation
logic_code o slot label a b =
    a ++ (all_do (take_slot t0 slot)
    ++ (op.Branch (skips (group o)) t0 x0 label ∷ (b ++ (op.Mark label ∷ truth_code slot))))

abbrev pub conditional_code : (slot label : ℕ) → List Operation → List Operation
    → List Operation → List Operation
conditional_code slot label c a b =
    c ++ (all_do (take_slot t0 slot) ++ (op.Branch test.Eq t0 x0 label
    ∷ (a ++ (op.Jump x0 (label + 1) ∷ op.Mark label
    ∷ (b ++ (op.Mark (label + 1) ∷ op.Do nothing ∷ []))))))

-- `*a` and `&a`, and the operators on values
abbrev pub unary_node : Unary → Held → (slot : ℕ) → List Operation → List Operation
    → List Operation
unary_node unary.At h slot value place = value ++ on_one slot (read_by h t0)
unary_node unary.Address h slot value place = place ++ op.Do nothing ∷ []
unary_node o h slot value place = value ++ on_one slot (unary_code o)

-- where a step leaves its value: the new one in t0, the old one in t4
abbrev pub step_register : Step → ℕ
step_register RaiseFirst = t0
step_register LowerFirst = t0
step_register RaiseLast = t4
step_register LowerLast = t4

-- With the address of an object in the slot: its value comes into t0, an operand into t1, and what
-- an operator makes of them goes into the object.
abbrev pub combine_code : Binary → Operand → Operand → Held → List Instr → (rs slot : ℕ)
    → List Operation
combine_code o c d h operand rs slot =
    keep_written (take_slot t2 slot ++ (read_by h t2 ++ (operand ++ binary_code o c d))) h rs slot

-- the value stays in t4, and 1 is added or taken away
abbrev pub step_code : Step → Operand → Held → (slot : ℕ) → List Operation
step_code how c h slot =
    combine_code (step_operator how) c Signed h
    (instr.Addi t4 t0 (pos 0) ∷ instr.Addi t1 x0 (pos 1) ∷ []) (step_register how) slot

-- with the address of the object in the slot, and the value in the next one
abbrev pub assign_code : Option Binary → Operand → Operand → Held → (slot : ℕ) → List Operation
assign_code None c d h slot =
    keep_written (take_slot t2 slot ++ take_slot t0 (slot + 1)) h t0 slot
assign_code (Some o) c d h slot = combine_code o c d h (take_slot t1 (slot + 1)) t0 slot

-- slots into registers, from the first of each on
abbrev pub arguments_into : (count rd slot : ℕ) → List Instr
arguments_into zero rd slot = []
arguments_into (suc n) rd slot = take_slot rd slot ++ arguments_into n (rd + 1) (slot + 1)

-- a call of the machine, by its number
abbrev pub machine_call : ℕ → List Operation
machine_call number = op.Do (instr.Addi a7 x0 (pos number)) ∷ op.Do instr.Ecall ∷ []

-- how many labels a binary operator takes for itself
abbrev pub own_labels : Bool → ℕ
own_labels logic = if logic then 1 else 0

-- how many labels an expression takes
abbrev mutual
  pub labels_in : Expr → ℕ
  labels_in (expr.Name name at) = 0
  labels_in (expr.Number shape n at) = 0
  labels_in (expr.Character code at) = 0
  labels_in (expr.Eof at) = 0
  labels_in (expr.Unary o a at) = labels_in a
  labels_in (expr.Step how a at) = labels_in a
  labels_in (expr.Cast to a at) = labels_in a
  labels_in (expr.Binary o a b at) = labels_in a + own_labels (is_logic (group o)) + labels_in b
  labels_in (expr.Conditional c a b at) = labels_in c + 2 + labels_in a + labels_in b
  labels_in (expr.Assign how a b at) = labels_in a + labels_in b
  labels_in (expr.Index a b at) = labels_in a + labels_in b
  labels_in (expr.Call callee all at) = labels_in_all all

  pub labels_in_all : Exprs → ℕ
  labels_in_all expr.NoMore = 0
  labels_in_all (expr.More e rest) = labels_in e + labels_in_all rest

-- how a value takes part in arithmetic, and what an object holds
abbrev pub operand_in : Names → Expr → Operand
operand_in names e = operand_by (type_at (types names) e)

abbrev pub held_in : Names → Expr → Held
held_in names e = held_by (type_at (types names) e)

-- Functions have their labels by their names.
module _ (functions : List ℕ → ℕ) (names : Names) where
  -- a call with so many arguments in slots from one on
  abbrev pub call_code : Callee → (count slot : ℕ) → List Operation
  call_code (callee.Name name) count slot =
      all_do (arguments_into count a0 slot) ++ (op.Jump ra (functions name) ∷ keep [] a0 slot)
  call_code callee.Getchar count slot = machine_call 1 ++ keep [] a0 slot
  call_code callee.Putchar count slot =
      all_do (take_slot a0 slot) ++ (machine_call 2 ++ keep [] a0 slot)

  abbrev mutual
    pub expr_code : Expr → (slot label : ℕ) → List Operation
    expr_code (expr.Name name at) slot label =
        keep (home_address (home_of (names name)) ++ read_by (held_in names (expr.Name name at)) t0)
        t0 slot
    expr_code (expr.Number shape n at) slot label = keep (constant t0 n) t0 slot
    expr_code (expr.Character code at) slot label = keep (constant t0 code) t0 slot
    expr_code (expr.Eof at) slot label = keep (constant t0 END_OF_FILE) t0 slot
    expr_code (expr.Unary o a at) slot label =
        unary_node o (held_in names (expr.Unary o a at)) slot (expr_code a slot label)
        (place_code a slot label)
    expr_code (expr.Step how a at) slot label =
        place_code a slot label ++ step_code how (operand_in names a) (held_in names a) slot
    expr_code (expr.Cast to a at) slot label =
        expr_code a slot label ++ on_one slot (cast_code to)
    expr_code (expr.Binary o a b at) slot label =
        if is_logic (group o)
        then logic_code o slot (label + labels_in a) (expr_code a slot label)
        (expr_code b slot (label + labels_in a + 1))
        else expr_code a slot label ++ (expr_code b (slot + 1) (label + labels_in a)
        ++ on_two slot (binary_code o (operand_in names a) (operand_in names b)))
    expr_code (expr.Conditional c a b at) slot label =
        conditional_code slot (label + labels_in c) (expr_code c slot label)
        (expr_code a slot (label + labels_in c + 2))
        (expr_code b slot (label + labels_in c + 2 + labels_in a))
    expr_code (expr.Assign how a b at) slot label =
        place_code a slot label ++ (expr_code b (slot + 1) (label + labels_in a)
        ++ assign_code how (operand_in names a) (operand_in names b) (held_in names a) slot)
    expr_code (expr.Index a b at) slot label =
        expr_code a slot label ++ (expr_code b (slot + 1) (label + labels_in a)
        ++ on_two slot (binary_code binary.Plus (operand_in names a) (operand_in names b)
        ++ read_by (held_in names (expr.Index a b at)) t0))
    expr_code (expr.Call callee all at) slot label =
        arguments_code all slot label ++ call_code callee (count_of_arguments all) slot

    -- the address of a place: a name, `*a` or `a[b]`
    pub place_code : Expr → (slot label : ℕ) → List Operation
    place_code (expr.Name name at) slot label =
        keep (home_address (home_of (names name))) t0 slot
    place_code (expr.Unary o a at) slot label = expr_code a slot label ++ op.Do nothing ∷ []
    place_code (expr.Index a b at) slot label =
        expr_code a slot label ++ (expr_code b (slot + 1) (label + labels_in a)
        ++ on_two slot (binary_code binary.Plus (operand_in names a) (operand_in names b)))
    place_code e slot label = []

    -- each argument into its slot
    pub arguments_code : Exprs → (slot label : ℕ) → List Operation
    arguments_code expr.NoMore slot label = []
    arguments_code (expr.More e rest) slot label =
        expr_code e slot label ++ arguments_code rest (slot + 1) (label + labels_in e)
