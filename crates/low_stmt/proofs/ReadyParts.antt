-- Readiness and the labels of functions, as names in scope change.
use Rattle.std.proofs.Common.{◌≡◌, ◌<◌, ◌≤◌, ℕ, ◌∙◌, List, Vec, Global, length, Option, refl, sym, subst, ap, arith}
use Rattle.std.specs.Prelude.{All}
use Rattle.c_resolve.specs.declared.numbers.Numbers.{Numbers}
use Rattle.c_tree.specs.Blocks.{entered}
use Rattle.c_resolve.proofs.BlockNamesLemmas.{names_entered}
use Rattle.c_semantics.specs.Names.{Definition, Names}
use Rattle.c_resolve.specs.DeclaredNames.{blocks_in, indexed_at, names_at}
use Rattle.c_resolve.specs.Routines.{definitions_of, AreNumbersOf}
use Rattle.low_expr.specs.declared.names.Names.{Names as Labelled}
use Rattle.low_expr.specs.LabelledNames.{label_at, functions_in, scope_in, HasLabels, HasSameFunctions}
use Rattle.low_stmt.specs.StmtCode.{Targets}
use Rattle.low_stmt.specs.private.Parts.{IsReadyHere, IsSameScope}
use Rattle.low_stmt.specs.private.StmtParts.{AreTargets}

-- the same functions
pub functions_same : (old new : Labelled) → HasSameFunctions old new
    → functions_in new ≡ functions_in old
functions_same old new same =
    λ i name. label_at (same.labels i).items (indexed_at (same.numbers i).numbers name)

pub functions_then : (old mid new : Labelled) → HasSameFunctions old mid
    → HasSameFunctions mid new → HasSameFunctions old new
functions_then old mid new h g =
    record { labels = g.labels ∙ h.labels; numbers = g.numbers ∙ h.numbers }

pub labels_as : (old new : Labelled) (n : ℕ) → HasSameFunctions old new → HasLabels old n
    → HasLabels new n
labels_as old new n same h = record {
  count = (λ i. length (same.labels i).items) ∙ (h.count ∙ sym (ap (λ (x : Numbers). x.count) same.numbers));
  below = subst (λ (ls : Vec ℕ Global). All (λ label. label < n) ls.items) (sym same.labels) h.below;
}

-- what is ready under some names is so under others, where this says that other parts are ready
pub ready_made : (A B : (List ℕ → Option Definition) → ℕ → ℕ → Names → Type 0)
    (old new : Labelled) → HasSameFunctions old new
    → ((defined : List ℕ → Option Definition) (room top : ℕ) (definitions : List Definition)
    → A defined room top (scope_in definitions old) → B defined room top (scope_in definitions new))
    → IsReadyHere old A → IsReadyHere new B
ready_made A B old new same made h = record {
  text = h.text;
  room = h.room;
  top = h.top;
  functions = subst (λ n. AreNumbersOf n (definitions_of h.text)) (sym same.numbers) h.functions;
  small = h.small;
  holds = made _ h.room h.top (definitions_of h.text) h.holds;
}

-- under the same names
pub ready_part : (A B : (List ℕ → Option Definition) → ℕ → ℕ → Names → Type 0) (names : Labelled)
    → ((defined : List ℕ → Option Definition) (room top : ℕ) (definitions : List Definition)
    → A defined room top (scope_in definitions names) → B defined room top (scope_in definitions names))
    → IsReadyHere names A → IsReadyHere names B
ready_part A B names made h =
    ready_made A B names names (record { labels = refl; numbers = refl }) made h

pub targets_more : (to : Targets) (n m : ℕ) → n ≤ m → AreTargets n to → AreTargets m to
targets_more to n m le h =
    let a = h.at_break in
    let b = h.at_continue in
    let c = h.at_return in
    record { at_break = omega arith; at_continue = omega arith; at_return = omega arith }

-- the same blocks have the same names
pub scope_same : (old new : Labelled) → IsSameScope old new → (definitions : List Definition)
    → scope_in definitions new ≡ scope_in definitions old
scope_same old new same definitions = ap (names_at definitions) same

-- a block that is entered has the names round it
pub scope_entered : (old new : Labelled) → blocks_in new.known ≡ entered (blocks_in old.known)
    → (definitions : List Definition) → scope_in definitions new ≡ scope_in definitions old
scope_entered old new is definitions =
    names_entered definitions (blocks_in old.known) (blocks_in new.known) is
