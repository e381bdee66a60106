-- An expression is wanted as a value or as a place.
use Rattle.std.specs.Prelude.{if◌then◌else◌, ◌≡◌, ℕ, zero, suc, ◌+◌, List, [], ◌∷◌, ◌++◌, length, Option, Some, ◌<◌, ◌≤◌}
use Rattle.c_tree.specs.declared.operator.Binary.{Binary}
use Rattle.c_tree.specs.declared.operator.Binary.TheVariants as binary
use Rattle.c_tree.specs.declared.operator.Unary.{Unary}
use Rattle.c_tree.specs.declared.operator.Unary.TheVariants as unary
use Rattle.c_tree.specs.declared.tree.Callee.{Callee}
use Rattle.c_tree.specs.declared.tree.Callee.TheVariants as callee
use Rattle.c_tree.specs.Item.{Item}
use Rattle.c_tree.specs.Expr.{Expr, Exprs}
use Rattle.c_tree.specs.Expr as expr
use Rattle.c_tree.specs.Groups.{group, is_logic}
use Rattle.c_rules.specs.Spine.{down}
use Rattle.c_rules.specs.declared.spine.Along.TheVariants.{Operands}
use Rattle.c_semantics.specs.declared.kind.Held.{Held}
use Rattle.c_semantics.specs.declared.kind.Operand.{Operand}
use Rattle.c_semantics.specs.Meaning.{definition}
use Rattle.c_semantics.specs.Names.{Definition, Names}
use Rattle.c_resolve.specs.DeclaredNames.{indexed_at}
use Rattle.c_resolve.specs.Routines.{definitions_of}
use Rattle.low_labels.specs.Emission.{Emission, IsTooLong}
use Rattle.low_labels.specs.Operation.{Operation, Do, Jump, Branch, Mark, width_of}
use Rattle.low_labels.specs.declared.test.Test.TheVariants as test
use Rattle.low_expr.specs.declared.names.Names.{Names as Labelled}
use Rattle.low_expr.specs.declared.wanted.Wanted.{Wanted}
use Rattle.low_expr.specs.declared.wanted.Wanted.TheVariants.{Value, Place}
use Rattle.low_expr.specs.CodePieces.{nothing, all_do, take_slot, read_by}
use Rattle.low_expr.specs.Operators.{binary_code, cast_code}
use Rattle.low_expr.specs.Registers.{x0, t0}
use Rattle.low_expr.specs.ExprCode.{expr_code, arguments_code, place_code, labels_in, own_labels, held_in, operand_in, on_one, step_code, assign_code, unary_node, on_two, skips, truth_code}
use Rattle.low_expr.specs.LabelledNames.{scope_in, functions_in, AreFunctionsOf}
use Rattle.low_expr.specs.Lowering.{lowered}
use Rattle.low_expr.specs.Readiness.{IsReady, IsReadyPlace, AreReady}

-- As what the first operand of an expression is wanted; what has none is wanted as it is.
abbrev pub wanted_first : Wanted → Expr → Wanted
wanted_first w (expr.Unary unary.Address a at) = Place
wanted_first w (expr.Unary op a at) = Value
wanted_first w (expr.Step how a at) = Place
wanted_first w (expr.Cast to a at) = Value
wanted_first w (expr.Binary op a b at) = Value
wanted_first w (expr.Conditional c a b at) = Value
wanted_first w (expr.Assign how a b at) = Place
wanted_first w (expr.Index a b at) = Value
wanted_first w _ = w

-- and an operand so many steps further down
unfoldable pub wanted_down : Wanted → ℕ → Expr → Wanted
wanted_down w zero e = w
wanted_down w (suc n) e = wanted_first (wanted_down w n e) (down Operands n e)

abbrev pub code_by : (functions : List ℕ → ℕ) → Names → Wanted → Expr → (slot label : ℕ)
    → List Operation
code_by functions names Value e slot label = expr_code functions names e slot label
code_by functions names Place e slot label = place_code functions names e slot label

-- what `*a` and the other operators before an operand do with its value
abbrev pub unary_by : Wanted → Unary → Held → (slot : ℕ) → List Operation
unary_by Value op h slot = unary_node op h slot [] []
unary_by Place op h slot = Do nothing ∷ []

abbrev pub code_in : Labelled → Wanted → Expr → (slot : ℕ) → Emission → List Definition
    → List Operation
code_in names w e slot old definitions =
    code_by (functions_in names) (scope_in definitions names) w e slot (length old.places)

-- the code is there
abbrev pub IsLoweredAs : Labelled → Wanted → Expr → (slot : ℕ) → (old new : Emission) → Type 0
IsLoweredAs names w e slot old new = (definitions : List Definition)
    → new ≡ lowered (labels_in e) (code_in names w e slot old definitions) old

-- with the code there would be too many words
abbrev pub IsRefusedAs : Labelled → Wanted → Expr → (slot : ℕ) → (old : Emission) → Type 0
IsRefusedAs names w e slot old = (definitions : List Definition)
    → IsTooLong (width_of (code_in names w e slot old definitions)) old

abbrev pub IsReadyBy : (defined : List ℕ → Option Definition) → Names → Wanted → Expr → Type 0
IsReadyBy defined names Value e = IsReady defined names e
IsReadyBy defined names Place e = IsReadyPlace defined names e

pub record IsReadyAs (names : Labelled) (w : Wanted) (e : Expr) : Type 0 where
  pub text : List Item
  pub functions : AreFunctionsOf text names
  pub ready : IsReadyBy (definition text) (scope_in (definitions_of text) names) w e

-- `a[b]`, as a value or as a place
abbrev pub index_by : Wanted → Operand → Operand → Held → (slot : ℕ) → List Operation
index_by Value c d h slot = on_two slot (binary_code binary.Plus c d ++ read_by h t0)
index_by Place c d h slot = on_two slot (binary_code binary.Plus c d)

-- before the right operand of `&&` or `||`, and behind it
abbrev pub logic_start : Binary → (slot label : ℕ) → List Operation
logic_start o slot label =
    all_do (take_slot t0 slot) ++ Branch (skips (group o)) t0 x0 label ∷ []

abbrev pub logic_end : (slot label : ℕ) → List Operation
logic_end slot label = Mark label ∷ truth_code slot

-- before the second operand of `?:`, between it and the third, and behind that
abbrev pub conditional_start : (slot label : ℕ) → List Operation
conditional_start slot label =
    all_do (take_slot t0 slot) ++ Branch test.Eq t0 x0 label ∷ []

abbrev pub conditional_middle : (label : ℕ) → List Operation
conditional_middle label = Jump x0 (label + 1) ∷ Mark label ∷ []

abbrev pub conditional_end : (label : ℕ) → List Operation
conditional_end label = Mark (label + 1) ∷ Do nothing ∷ []

-- arguments that are ready
pub record AreReadyIn (names : Labelled) (all : Exprs) : Type 0 where
  pub text : List Item
  pub functions : AreFunctionsOf text names
  pub ready : AreReady (definition text) (scope_in (definitions_of text) names) all

abbrev pub arguments_in : Labelled → Exprs → (slot : ℕ) → Emission → List Definition
    → List Operation
arguments_in names all slot old definitions =
    arguments_code (functions_in names) (scope_in definitions names) all slot (length old.places)

abbrev pub logic_above : Binary → (slot label : ℕ) → List Operation → List Operation
logic_above o slot label b = logic_start o slot label ++ (b ++ logic_end slot label)

abbrev pub conditional_above : (slot label : ℕ) → List Operation → List Operation → List Operation
conditional_above slot label a b = conditional_start slot label
    ++ (a ++ (conditional_middle label ++ (b ++ conditional_end label)))

-- how many labels an expression takes above its first operand
abbrev pub labels_above : Expr → ℕ
labels_above (expr.Binary o a b at) = own_labels (is_logic (group o)) + labels_in b
labels_above (expr.Conditional c a b at) = 2 + labels_in a + labels_in b
labels_above (expr.Assign how a b at) = labels_in b
labels_above (expr.Index a b at) = labels_in b
labels_above e = 0

-- the code above the first operand, with labels from a number on
abbrev pub above_code : (functions : List ℕ → ℕ) → Names → Wanted → Expr → (slot label : ℕ)
    → List Operation
above_code functions names w (expr.Unary o a at) slot label =
    unary_by w o (held_in names (expr.Unary o a at)) slot
above_code functions names w (expr.Step how a at) slot label =
    step_code how (operand_in names a) (held_in names a) slot
above_code functions names w (expr.Cast to a at) slot label = on_one slot (cast_code to)
above_code functions names w (expr.Binary o a b at) slot label =
    if is_logic (group o)
    then logic_above o slot label (expr_code functions names b slot (label + 1))
    else expr_code functions names b (slot + 1) label
    ++ on_two slot (binary_code o (operand_in names a) (operand_in names b))
above_code functions names w (expr.Conditional c a b at) slot label =
    conditional_above slot label (expr_code functions names a slot (label + 2))
    (expr_code functions names b slot (label + 2 + labels_in a))
above_code functions names w (expr.Assign how a b at) slot label =
    expr_code functions names b (slot + 1) label
    ++ assign_code how (operand_in names a) (operand_in names b) (held_in names a) slot
above_code functions names w (expr.Index a b at) slot label =
    expr_code functions names b (slot + 1) label
    ++ index_by w (operand_in names a) (operand_in names b) (held_in names (expr.Index a b at)) slot
above_code functions names w e slot label = []

abbrev pub above_in : Labelled → Wanted → Expr → (slot : ℕ) → Emission → List Definition
    → List Operation
above_in names w e slot old definitions =
    above_code (functions_in names) (scope_in definitions names) w e slot (length old.places)

-- the code above the first operand is there, and with it there would be too many words
abbrev pub IsLoweredAbove : Labelled → Wanted → Expr → (slot : ℕ) → (old new : Emission) → Type 0
IsLoweredAbove names w e slot old new = (definitions : List Definition)
    → new ≡ lowered (labels_above e) (above_in names w e slot old definitions) old

abbrev pub IsRefusedAbove : Labelled → Wanted → Expr → (slot : ℕ) → (old : Emission) → Type 0
IsRefusedAbove names w e slot old = (definitions : List Definition)
    → IsTooLong (width_of (above_in names w e slot old definitions)) old

abbrev pub logic_in : Labelled → Binary → Expr → (slot : ℕ) → Emission → List Definition
    → List Operation
logic_in names o b slot old definitions =
    let label = length old.places in
    logic_above o slot label
    (expr_code (functions_in names) (scope_in definitions names) b slot (label + 1))

abbrev pub conditional_in : Labelled → Expr → Expr → (slot : ℕ) → Emission → List Definition
    → List Operation
conditional_in names a b slot old definitions =
    let label = length old.places in
    conditional_above slot label
    (expr_code (functions_in names) (scope_in definitions names) a slot (label + 2))
    (expr_code (functions_in names) (scope_in definitions names) b slot (label + 2 + labels_in a))

pub record HasNumber (names : Labelled) (name : List ℕ) : Type 0 where
  pub number : ℕ
  pub is : indexed_at names.numbers.numbers name ≡ Some number
  pub low : number < length names.labels.items

-- what is called has a number, and as many arguments as a call may have
abbrev pub CanCall : Labelled → Callee → (count : ℕ) → Type 0
CanCall names (callee.Name name) count = (count ≤ 8) × HasNumber names name
CanCall names callee.Getchar count = Unit {0}
CanCall names callee.Putchar count = Unit {0}
