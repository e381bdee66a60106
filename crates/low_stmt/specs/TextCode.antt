-- The program of a text: its code, and the bytes of its globals.
use Rattle.std.specs.Prelude.{ℕ, ◌+◌, ◌-◌, Bool, true, bytes_eq, List, [], ◌∷◌, ◌++◌, take, map, Option, Some, None}
use Rattle.bop_bits.specs.declared.map.TheConstants.{DATA_FROM, STACK_TO}
use Rattle.low_labels.specs.Emission.{Emission, emit_all, labelled}
use Rattle.low_labels.specs.Operation.{Operation}
use Rattle.low_labels.specs.Operation as op
use Rattle.c_tree.specs.Stmt.{Stmts}
use Rattle.c_tree.specs.Fun.{Fun}
use Rattle.c_tree.specs.Item.{Item}
use Rattle.c_tree.specs.Item as item
use Rattle.c_layout.specs.Globals.{globals, addresses, private_to}
use Rattle.c_semantics.specs.Names.{Names, no_names}
use Rattle.c_semantics.specs.Meaning.{main_name, names_of, start}
use Rattle.low_expr.specs.Registers.{ra, sp}
use Rattle.low_expr.specs.CodePieces.{all_do, constant}
use Rattle.low_expr.specs.ExprCode.{machine_call}
use Rattle.low_stmt.specs.FunCode.{fun_code, labels_in_body}

-- Labels: those of the functions, in the order of their definitions; then those within functions.

-- a function counts where it has a body
abbrev pub counted_with : Option Stmts → ℕ → ℕ
counted_with None n = n
counted_with (Some body) n = 1 + n

abbrev pub definitions_in : List Item → ℕ
definitions_in [] = 0
definitions_in (item.Vars keep ds ∷ rest) = definitions_in rest
definitions_in (item.Fun f ∷ rest) = counted_with f.body (definitions_in rest)

-- the first definition of a name, as how many are before it
abbrev pub before_by : Bool → Option Stmts → ℕ → ℕ
before_by true (Some body) n = 0
before_by _ body n = counted_with body n

abbrev pub before_in : List Item → List ℕ → ℕ
before_in [] name = 0
before_in (item.Vars keep ds ∷ rest) name = before_in rest name
before_in (item.Fun f ∷ rest) name =
    before_by (bytes_eq f.name name) f.body (before_in rest name)

abbrev pub label_of : List Item → List ℕ → ℕ
label_of text name = before_in text name

-- The program begins by a call of `main`, whose value it exits with.
abbrev pub boot_code : (main : ℕ) → List Operation
boot_code main = all_do (constant sp STACK_TO) ++ (op.Jump ra main ∷ machine_call 0)

abbrev pub labels_with : Option Stmts → ℕ → ℕ
labels_with None label = label
labels_with (Some body) label = label + labels_in_body body

-- how many labels functions take within them, and how many a text takes
abbrev pub labels_in_functions : List Item → ℕ
labels_in_functions [] = 0
labels_in_functions (item.Vars keep ds ∷ rest) = labels_in_functions rest
labels_in_functions (item.Fun f ∷ rest) = labels_with f.body (labels_in_functions rest)

abbrev pub labels_in_text : List Item → ℕ
labels_in_text text = definitions_in text + labels_in_functions text

-- the names of a text
abbrev pub names_in : List Item → Names
names_in text = names_of text (addresses (globals text)) text no_names

module _ (text : List Item) where
  abbrev pub definition_code : Fun → Option Stmts → (label : ℕ) → List Operation
  definition_code f None label = []
  definition_code f (Some body) label = fun_code (label_of text) (names_in text) f body label

  -- the functions in their order
  abbrev pub functions_code : (label : ℕ) → List Item → List Operation
  functions_code label [] = []
  functions_code label (item.Vars keep ds ∷ rest) = functions_code label rest
  functions_code label (item.Fun f ∷ rest) =
      definition_code f f.body label ++ functions_code (labels_with f.body label) rest

  abbrev pub text_code : List Operation
  text_code =
      boot_code (label_of text main_name) ++ functions_code (definitions_in text) text

-- the code as it is written, with all of its labels made first
abbrev pub emitted : List Item → Emission
emitted text = emit_all (text_code text) (labelled (labels_in_text text))

-- a byte that isn't written is 0
abbrev pub byte_or_zero : Option ℕ → ℕ
byte_or_zero None = 0
byte_or_zero (Some b) = b

-- the bytes of the globals, from the first address of the data to the end of their last page
abbrev pub data_of : List Item → List ℕ
data_of text = take (private_to (globals text) - DATA_FROM) (map byte_or_zero (start text).bytes)
