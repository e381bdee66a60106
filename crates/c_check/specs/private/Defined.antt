-- The functions that a text defines, by their names.
use Rattle.std.specs.Prelude.{◌≡◌, ℕ, Bool, List}
use Rattle.std.specs.BTreeSet.{contains_by}
use Rattle.std.specs.Cmp.Lexicographic.{slice_cmp}
use Rattle.std.specs.Ordering.{nat_cmp}
use Rattle.c_tree.specs.Accepted.{is_defined}
use Rattle.c_tree.specs.Item.{Item}
use Rattle.c_check.specs.declared.defined.Defined.{Defined}

abbrev pub has : Defined → List ℕ → Bool
has defined name = contains_by (λ key. slice_cmp nat_cmp name key.items) defined.names

-- the names are those of the functions that the items define
abbrev pub Defines : Defined → List Item → Type 0
Defines defined ps = (name : List ℕ) → has defined name ≡ is_defined ps name
