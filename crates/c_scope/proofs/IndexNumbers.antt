-- The numbers of an index after a change at one name.
use Rattle.std.proofs.Common.{◌≡◌, ℕ, Bool, true, false, List, [], Option, Vec, Global, ap, sym, subst, ◌∙◌}
use mathlib.Core.Logic.{⊎_elim}
use Rattle.std.specs.BTreeMap.{BTreeMap, UpdatesBy, get_by}
use Rattle.std.specs.Cmp.Lexicographic.{slice_cmp, bytes_decides}
use Rattle.std.specs.Option.{option_map_or}
use Rattle.std.specs.Ordering.{nat_cmp}
use Rattle.std.specs.Prelude.{bytes_eq}
use Rattle.std.proofs.lemmas.Bool.{cases_Bool, cond-true, cond-false}
use Rattle.c_scope.proofs.Keys.{vec_cmp, updates_bytes}

abbrev pub Numbers : Type 0
Numbers = BTreeMap (Vec ℕ Global) (Vec ℕ Global)

abbrev pub items_of : Option (Vec ℕ Global) → List ℕ
items_of numbers = option_map_or (λ some. some.items) numbers []

-- those that a map has for a name
abbrev pub at : Numbers → List ℕ → List ℕ
at numbers name = items_of (get_by (λ key. slice_cmp nat_cmp name key.items) numbers)

-- The bytes of the key are the name's. Of the numbers there it makes what `change` makes with `true`, and `change` with `false` leaves all.
pub numbers_changed : (name bytes : List ℕ) → bytes ≡ name
    → (old new : Numbers) (w : Option (Vec ℕ Global))
    → UpdatesBy vec_cmp (λ k. slice_cmp nat_cmp bytes k.items) old new w
    → (change : Bool → List ℕ → List ℕ) → ((xs : List ℕ) → change false xs ≡ xs) → items_of w ≡ change true (at old bytes)
    → (other : List ℕ) → at new other ≡ change (bytes_eq name other) (at old other)
numbers_changed name bytes same old new w u change keeps is other =
    subst (λ n. at new other ≡ change (bytes_eq n other) (at old other)) same
    (⊎_elim
    (λ y. ap items_of (updates_bytes bytes old new w u other ∙ cond-true (bytes_eq bytes other) w _ y)
    ∙ (is ∙ (ap (λ n. change true (at old n)) ((bytes_decides bytes other).0 y) ∙ ap (λ b. change b (at old other)) (sym y))))
    (λ e. ap items_of (updates_bytes bytes old new w u other ∙ cond-false (bytes_eq bytes other) w _ e)
    ∙ (sym (keeps (at old other)) ∙ ap (λ b. change b (at old other)) (sym e)))
    (cases_Bool (bytes_eq bytes other)))
