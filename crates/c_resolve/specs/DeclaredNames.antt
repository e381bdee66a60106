-- What declared names of the code stand for.
use Rattle.std.specs.Prelude.{◌≡◌, ℕ, List, Option, Some, None, map, option_map, slice_get}
use Rattle.std.specs.Ordering.{nat_cmp}
use Rattle.std.specs.Cmp.Lexicographic.{slice_cmp}
use Rattle.std.specs.BTreeMap.{BTreeMap, get_by}
use Rattle.std.proofs.Common.{Vec, Global}
use Rattle.c_tree.specs.Blocks.{Blocks, look}
use Rattle.c_tree.specs.Expr.{Expr}
use Rattle.c_tree.specs.Typing.{type_at}
use Rattle.c_tree.specs.View.{ty_of}
use Rattle.c_scope.specs.Scoped.{blocks_of}
use Rattle.c_rules.specs.declared.seen.Seen.{Seen}
use Rattle.c_rules.specs.Seen.{seen_some}
use Rattle.c_resolve.specs.declared.named.Named.{Named as Coded}
use Rattle.c_resolve.specs.declared.named.Named.TheVariants as coded
use Rattle.c_resolve.specs.declared.names.Names.{Names as Declared}
use Rattle.c_semantics.specs.Names.{Definition, Names, Named, Variable, Routine, types}

module _ (definitions : List Definition) where
  -- a definition by its number in the order of the text
  abbrev pub numbered : Option ℕ → Option Definition
  numbered None = None
  numbered (Some k) = slice_get definitions k

  abbrev pub named : Coded → Named
  named (coded.Variable ty home) = Variable (ty_of ty) home
  named (coded.Routine result parameters k) =
      Routine (ty_of result) (map ty_of parameters.items) (numbered k)

-- what an index has for a name
abbrev pub indexed_at : BTreeMap (Vec ℕ Global) ℕ → List ℕ → Option ℕ
indexed_at index = λ name. get_by (λ key. slice_cmp nat_cmp name key.items) index

-- the blocks of the names that the code has declared
abbrev pub blocks_in : Declared → Blocks Coded
blocks_in declared = blocks_of declared.scope

-- the names of blocks
unfoldable pub names_at : List Definition → Blocks Coded → Names
names_at definitions blocks = λ name. option_map (named definitions) (look blocks name)

-- the names that the code has declared
abbrev pub names_in : List Definition → Declared → Names
names_in definitions declared = names_at definitions (blocks_in declared)

-- a type is the expression's, whatever functions the names stand for
abbrev pub IsTypeOf : Declared → Option Seen → Expr → Type 0
IsTypeOf declared ty e = (definitions : List Definition)
    → seen_some ty ≡ type_at (types (names_in definitions declared)) e

-- the blocks are the same, and those round the innermost one are
abbrev pub IsSame : Declared → Declared → Type 0
IsSame before after = blocks_in after ≡ blocks_in before

abbrev pub IsKept : Declared → Declared → Type 0
IsKept before after = (blocks_in after).outer ≡ (blocks_in before).outer
