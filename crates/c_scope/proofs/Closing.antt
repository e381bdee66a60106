-- The names of a block are taken off an index one by one.
use Rattle.std.proofs.Common.{◌≡◌, ℕ, Bool, false, ◌||◌, List, [], ◌∷◌, is_some, Vec, Global, refl, ap, sym, subst, ◌∙◌}
use mathlib.Core.Logic.{⊎_elim}
use Rattle.std.specs.BTreeMap.{keys}
use Rattle.std.specs.Cmp.Lexicographic.{slice_cmp, bytes_decides, nat_list_eq_equiv}
use Rattle.std.specs.List.{list_any, AllByRecursion}
use Rattle.std.specs.List.Sorted.{IsStrictlySortedBy}
use Rattle.std.specs.Ordering.{is_eq, nat_cmp}
use Rattle.std.specs.declared.cmp.Ordering.TheVariants.{Less}
use Rattle.std.specs.Prelude.{bytes_eq}
use Rattle.std.proofs.lemmas.Bool.{cases_Bool}
use Rattle.std.proofs.lemmas.Map.Keys.{sorted_head}
use Rattle.std.proofs.lemmas.Map.Made.{is_some-lookup}
use Rattle.std.proofs.lemmas.Map.Text.{is_eq-slice_cmp}
use Rattle.c_scope.specs.BlockNames.{frame_of}
use Rattle.c_scope.specs.private.Index.{without_last_if}
use Rattle.c_scope.specs.declared.block.Block.{Block}
use Rattle.c_scope.proofs.Keys.{vec_cmp}

-- whether a name is among the keys
abbrev pub is_key : List ℕ → List (Vec ℕ Global) → Bool
is_key name ks = list_any (λ key. is_eq (slice_cmp nat_cmp name key.items)) ks

-- the names that a block declares are its keys
pub declares_keys : {A : Type 0} → (block : Block A) (name : List ℕ)
    → is_some (frame_of block name) ≡ is_key name (keys block.names)
declares_keys block name = is_some-lookup (λ key. is_eq (slice_cmp nat_cmp name key.items)) block.names.entries

none_above : (key : Vec ℕ Global) (ks : List (Vec ℕ Global))
    → AllByRecursion (λ other. vec_cmp key other ≡ Less) ks → is_key key.items ks ≡ false
none_above key [] h = refl
none_above key (k ∷ ks) h = ap (λ o. is_eq o || is_key key.items ks) h.0 ∙ none_above key ks h.1

-- one key after another
pub one_closed : (name : List ℕ) (key : Vec ℕ Global) (ks : List (Vec ℕ Global))
    → IsStrictlySortedBy vec_cmp (key ∷ ks)
    → (xs : List ℕ) → without_last_if (is_key name ks) (without_last_if (bytes_eq key.items name) xs) ≡ without_last_if (is_key name (key ∷ ks)) xs
one_closed name key ks sorted xs =
    let flipped : is_eq (slice_cmp nat_cmp name key.items) ≡ bytes_eq key.items name = is_eq-slice_cmp name key.items ∙ nat_list_eq_equiv.symm name key.items in
    ⊎_elim
    (λ y.
    let none : is_key name ks ≡ false = subst (λ n. is_key n ks ≡ false) ((bytes_decides key.items name).0 y) (none_above key ks (sorted_head vec_cmp key ks sorted)) in
    ap (λ b. without_last_if b (without_last_if (bytes_eq key.items name) xs)) none
    ∙ (ap (λ b. without_last_if b xs) y ∙ ap (λ b. without_last_if (b || is_key name ks) xs) (sym (flipped ∙ y))))
    (λ n. ap (λ b. without_last_if (is_key name ks) (without_last_if b xs)) n ∙ ap (λ b. without_last_if (b || is_key name ks) xs) (sym (flipped ∙ n)))
    (cases_Bool (bytes_eq key.items name))
