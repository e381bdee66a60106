-- The code of a text as it grows, function by function.
use Rattle.std.specs.Prelude.{true, ◌≡◌, ℕ, ◌+◌, ◌*◌, ◌≤◌, List, [], ◌∷◌, length, map, drop, replicate, Some, IfSome}
use Rattle.bop_bits.specs.declared.map.TheConstants.{CODE_WORDS}
use Rattle.c_tree.specs.Accepted.{is_defined}
use Rattle.c_tree.specs.Item.{Item}
use Rattle.c_tree.specs.Item as item
use Rattle.c_layout.specs.Frames.{Planned, frames}
use Rattle.c_layout.specs.Laid.{planned}
use Rattle.c_resolve.specs.Routines.{definitions_of}
use Rattle.c_semantics.specs.Meaning.{definition}
use Rattle.low_labels.specs.Closed.{place_in}
use Rattle.low_labels.specs.Emission.{Emission}
use Rattle.low_expr.specs.declared.names.Names.{Names as Labelled}
use Rattle.low_expr.specs.LabelledNames.{scope_in, functions_in, AreFunctionsOf, HasLabels}
use Rattle.low_expr.specs.Lowering.{lowered}
use Rattle.low_stmt.specs.declared.count.TheConstants.{MOST_PARTS}
use Rattle.low_stmt.specs.CodeBound.{count_items}
use Rattle.low_stmt.specs.DefinedOnce.{AreDefinedOnce}
use Rattle.low_stmt.specs.RegionEnds.{ends_in_functions, ends_in_text, with_ends}
use Rattle.low_stmt.specs.TextCode.{before_in, definitions_in, emitted, functions_code, label_of, labels_in_functions, names_in}
use Rattle.low_stmt.specs.TextReadiness.{AreReadyFuns}

-- the names are those of a text, and the labels of functions are the first ones
pub record AreNamesOf (text : List Item) (names : Labelled) : Type 0 where
  pub scope : scope_in (definitions_of text) names ≡ names_in text
  pub known : AreFunctionsOf text names
  pub functions : functions_in names ≡ label_of text

-- some of a text's functions are what their names are defined as
abbrev pub AreDefinedIn : (text left : List Item) → Type 0
AreDefinedIn text [] = Unit {0}
AreDefinedIn text (item.Vars keep ds ∷ left) = AreDefinedIn text left
AreDefinedIn text (item.Fun f ∷ left) =
    IfSome f.body (λ body. definition text f.name ≡ Some (record { function = f; body = body }))
    × AreDefinedIn text left

-- the code of the items that are left comes after what there is
abbrev pub IsRest : (text left : List Item) → (old new : Emission) → Type 0
IsRest text left old new =
    new ≡ lowered (labels_in_functions left) (functions_code text (length old.places) left) old

-- their ends are written after those that are
abbrev pub AreRestOfEnds : (left : List Item) → (old new : Emission) → (before after : List ℕ) → Type 0
AreRestOfEnds left old new before after =
    after ≡ with_ends (place_in new.places) (ends_in_functions (length old.places) left) before

-- the labels of functions that are defined are in the order of their definitions, from one on
pub record AreLabelledFrom (text : List Item) (left : List Item) : Type 0 where
  pub from : ℕ
  pub once : AreDefinedOnce left
  pub last : from + definitions_in left ≡ definitions_in text
  pub are : (name : List ℕ) → is_defined left name ≡ true
      → label_of text name ≡ from + before_in left name

-- what holds of the items that are left, of which the next function has the frame of this number
pub record AreLeft (text : List Item) (all : List Planned) (left : List Item) (number lines : ℕ)
    : Type 0 where
  pub labels : AreLabelledFrom text left
  pub ready : AreReadyFuns text left
  pub defined : AreDefinedIn text left
  pub framed : drop number all ≡ map planned (frames left)
  pub numbered : number + count_items left ≤ MOST_PARTS
  pub few : lines + 32 * count_items left ≤ CODE_WORDS

-- The code of a text is begun: with that of the items that are left it is the whole.
pub record IsBegun (text : List Item) (all : List Planned) (left : List Item) (number : ℕ)
    (names : Labelled) (e : Emission) (ends : List ℕ) : Type 0 where
  pub known : AreNamesOf text names
  pub labels : HasLabels names (length e.places)
  pub enough : definitions_in text ≤ length e.places
  pub items : AreLeft text all left number (length e.lines)
  pub code : (new : Emission) → IsRest text left e new → new ≡ emitted text
  pub written : (new : Emission) (after : List ℕ) → IsRest text left e new
      → AreRestOfEnds left e new ends after
      → after ≡ with_ends (place_in new.places) (ends_in_text text) (replicate 256 0)
