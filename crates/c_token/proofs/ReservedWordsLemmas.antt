-- Reserved words are words.
use Rattle.std.proofs.Common.{Bool, List, [], length, ltb-true, refl, subst, true, ℕ, ⊎_elim, ◌∷◌, ◌≡◌}
use Rattle.std.proofs.lemmas.Bool.{and_parts, or_cases}
use Rattle.std.proofs.lemmas.Slice.Eq.{bytes_eq-Decides}
use Rattle.std.specs.List.{list_all, list_any}
use Rattle.std.specs.Prelude.{nat_lt}
use Rattle.std.specs.Str.{bytes_eq}
use Rattle.c_token.specs.Bytes.{first, is_word}
use Rattle.c_token.specs.ReservedWords.{is_reserved, is_word_spelled, reserved_words}
use Rattle.c_token.proofs.TokenLists.{false_true}
use Rattle.c_token.proofs.ByteRuns.{first_passes}

pub any_all : (p : List ℕ → Bool) (ws : List (List ℕ)) (word : List ℕ) → list_all p ws ≡ true
    → list_any (λ w. bytes_eq w word) ws ≡ true → p word ≡ true
any_all p [] word all any = false_true any
any_all p (w ∷ ws) word all any =
    let parts = and_parts (p w) (list_all p ws) all in
    ⊎_elim (λ e. subst (λ x. p x ≡ true) ((bytes_eq-Decides w word).0 e) parts.0) (λ e. any_all p ws word parts.1 e) (or_cases (bytes_eq w word) (list_any (λ w. bytes_eq w word) ws) any)

pub reserved_spelled : (bytes : List ℕ) → is_reserved bytes ≡ true → is_word_spelled bytes ≡ true
reserved_spelled bytes r = any_all is_word_spelled reserved_words bytes refl r

pub word_first : (a : List ℕ) → is_word_spelled a ≡ true → is_word (first a) ≡ true
word_first a h = let w = and_parts (nat_lt 0 (length a)) _ h in first_passes is_word a (ltb-true 0 (length a) w.0) (and_parts (list_all is_word a) _ w.1).0
