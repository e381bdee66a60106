-- The names in scope for code: what they stand for, and the labels of functions by name.
use Rattle.std.specs.Prelude.{◌≡◌, ℕ, ◌<◌, List, length, Option, Some, None, All, slice_get, slice_index}
use Rattle.c_tree.specs.Item.{Item}
use Rattle.c_semantics.specs.Names.{Definition, Names}
use Rattle.c_resolve.specs.DeclaredNames.{names_in, indexed_at}
use Rattle.c_resolve.specs.Routines.{definitions_of, AreNumbersOf}
use Rattle.low_expr.specs.declared.names.Names.{Names as Labelled}

-- the names in scope
abbrev pub scope_in : List Definition → Labelled → Names
scope_in definitions names = names_in definitions names.known

-- by the number of a definition; a name without one would have the number after theirs
abbrev pub label_at : List ℕ → Option ℕ → ℕ
label_at labels None = length labels
label_at labels (Some k) = slice_index labels k

-- the label of a definition, where there is one
abbrev pub found_label : List ℕ → Option ℕ → Option ℕ
found_label labels None = None
found_label labels (Some k) = slice_get labels k

-- by the name of a function
abbrev pub functions_in : Labelled → List ℕ → ℕ
functions_in names name = label_at names.labels.items (indexed_at names.numbers.numbers name)

-- the functions and their labels are the same
pub record HasSameFunctions (old new : Labelled) : Type 0 where
  pub labels : new.labels ≡ old.labels
  pub numbers : new.numbers ≡ old.numbers

-- each function has a label among the first so many
pub record HasLabels (names : Labelled) (labels : ℕ) : Type 0 where
  pub count : length names.labels.items ≡ names.numbers.count
  pub below : All (λ label. label < labels) names.labels.items

-- the functions are those that the text defines
abbrev pub AreFunctionsOf : List Item → Labelled → Type 0
AreFunctionsOf text names = AreNumbersOf names.numbers (definitions_of text)
