-- The names in scope, with where their objects stand.
use Rattle.std.specs.Prelude.{ℕ, ◌+◌, true, List, [], Option, Some, None, option_map, bytes_eq, if◌then◌else◌}
use Rattle.c_tree.specs.Ty.{Ty}
use Rattle.c_tree.specs.Ty as ty
use Rattle.c_tree.specs.Stmt.{Stmts}
use Rattle.c_tree.specs.Fun.{Fun}
use Rattle.c_tree.specs.Scope.{Known, ObjectOf, FunctionOf, Scope}
use Rattle.c_tree.specs.Shapes.{decayed}
use Rattle.c_layout.specs.Sizes.{size}
use Rattle.c_semantics.specs.declared.home.Home.{Home}
use Rattle.c_semantics.specs.declared.home.Home.TheVariants.{Fixed, InFrame, Nowhere}
use Rattle.c_semantics.specs.declared.kind.Held.{Held}
use Rattle.c_semantics.specs.declared.kind.Held.TheVariants.{Byte, Word, Array}
use Rattle.c_semantics.specs.declared.kind.Operand.{Operand}
use Rattle.c_semantics.specs.declared.kind.Operand.TheVariants.{Signed, Unsigned, Pointer}
use Rattle.c_semantics.specs.Run.{Run, pure, ◌>>=◌, now}

-- a function that the text defines, with its body
pub record Definition : Type 0 where
  pub function : Fun
  pub body : Stmts

-- what a name stands for: a variable, with where it stands; or a function, with its definition
pub data Named : Type 0 where
  Variable : (shape : Ty) (home : Home) → Named
  Routine : (result : Ty) (parameters : List Ty) (definition : Option Definition) → Named

abbrev pub Names : Type 0
Names = List ℕ → Option Named

abbrev pub no_names : Names
no_names name = None

-- with one more name, which hides another of the same bytes (C11 6.2.1)
abbrev pub with_name : List ℕ → Named → Names → Names
with_name name named names = λ other. if bytes_eq name other then Some named else names other

abbrev pub known : Named → Known
known (Variable shape home) = ObjectOf shape
known (Routine result parameters definition) = FunctionOf result parameters true

-- the types of the names
abbrev pub types : Names → Scope
types names = record { outer = []; inner = λ name. option_map known (names name) }

abbrev pub address_of : Home → Run ℕ
address_of (Fixed address) = pure address
address_of (InFrame offset) = do
  store ← now
  pure (store.sp + offset)
address_of Nowhere = pure 0

-- a name that stands for no variable is evaluated in no text that is accepted
abbrev pub home_of : Option Named → Home
home_of (Some (Variable shape home)) = home
home_of (Some (Routine result parameters definition)) = Nowhere
home_of None = Nowhere

abbrev pub definition_of : Option Named → Option Definition
definition_of (Some (Variable shape home)) = None
definition_of (Some (Routine result parameters definition)) = definition
definition_of None = None

-- what an object of a type holds
abbrev pub held : Ty → Held
held ty.Char = Byte
held (ty.Array t n) = Array
held _ = Word

abbrev pub operand_of : Ty → Operand
operand_of ty.Unsigned = Unsigned
operand_of (ty.Pointer t) = Pointer (size t)
operand_of _ = Signed

-- how a value of a type takes part in arithmetic: an array as a pointer to its first element (6.3.2.1)
abbrev pub operand : Ty → Operand
operand t = operand_of (decayed t)

-- An expression that has no type stands in no text that is accepted, and counts as an int here.

abbrev pub held_by : Option Ty → Held
held_by None = Word
held_by (Some t) = held t

abbrev pub operand_by : Option Ty → Operand
operand_by None = Signed
operand_by (Some t) = operand t
