-- The first edges of a list.
use Rattle.std.specs.Prelude.{◌≡◌, ℕ, Bool, List, Option, if◌then◌else◌}
use Rattle.std.specs.BTreeMap.{get}
use Rattle.std.specs.Ordering.{nat_cmp}
use Rattle.c_tree.specs.declared.edge.Edge.{Edge}
use Rattle.c_tree.specs.Regions.{first_edge}
use Rattle.c_check.specs.declared.region.Firsts.{Firsts}

abbrev pub first_of : Firsts → Bool → ℕ → Option Edge
first_of firsts begins k = if begins then get nat_cmp firsts.begins k else get nat_cmp firsts.ends k

abbrev pub HasFirsts : Firsts → List Edge → Type 0
HasFirsts firsts es = (begins : Bool) (k : ℕ) → first_of firsts begins k ≡ first_edge begins k es
