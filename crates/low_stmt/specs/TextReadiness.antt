-- What the program of a text takes for granted of it.
use Rattle.std.specs.Prelude.{ℕ, ◌+◌, ◌≤◌, List, [], ◌∷◌, IfSome}
use Rattle.bop_bits.specs.declared.map.TheConstants.{DATA_FROM, STACK_FROM}
use Rattle.c_tree.specs.Item.{Item}
use Rattle.c_tree.specs.Item as item
use Rattle.c_layout.specs.Globals.{globals, private_end}
use Rattle.c_semantics.specs.declared.object.Object.{Object}
use Rattle.c_semantics.specs.Evaluated.{IsMain}
use Rattle.c_semantics.specs.Meaning.{definition, main_name, start}
use Rattle.low_stmt.specs.FunReadiness.{IsReadyFun}
use Rattle.low_stmt.specs.TextCode.{names_in}

-- objects are between two addresses
abbrev pub AreBetween : (from to : ℕ) → List Object → Type 0
AreBetween from to [] = Unit {0}
AreBetween from to (o ∷ os) =
    (from ≤ o.address) × (o.address + o.size ≤ to) × AreBetween from to os

-- each function that has a body is ready
abbrev pub AreReadyFuns : (text items : List Item) → Type 0
AreReadyFuns text [] = Unit {0}
AreReadyFuns text (item.Vars keep ds ∷ rest) = AreReadyFuns text rest
AreReadyFuns text (item.Fun f ∷ rest) =
    IfSome f.body (IsReadyFun (definition text) (names_in text) f) × AreReadyFuns text rest

-- The functions are ready, there is a `main`, and the globals are in the data, which ends before
-- the stack.
pub record IsReadyText (text : List Item) : Type 0 where
  pub functions : AreReadyFuns text text
  pub main : IsMain (definition text main_name)
  pub placed : AreBetween DATA_FROM (private_end (globals text)) (start text).live
  pub apart : private_end (globals text) ≤ STACK_FROM
