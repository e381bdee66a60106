-- Options that are given, and their words.
use Rattle.std.proofs.Common.{◌≡◌, ◌≢◌, ℕ, Bool, true, false, nat_eq, bytes_eq, if◌then◌else◌, List, [], ◌∷◌, ◌++◌, drop, get_or, refl, sym, ap, ap₂, ◌∙◌, subst}
use mathlib.Core.Logic.{⊎_elim}
use Rattle.std.specs.List.{All}
use Rattle.std.specs.Str.Parse.{digits_value}
use Rattle.std.proofs.lemmas.Bool.{cases_Bool, cond-true, cond-false}
use Rattle.std.proofs.lemmas.List.{append_assoc}
use Rattle.std.proofs.lemmas.List.Elements.{All-head, All-tail}
use Rattle.std.proofs.lemmas.Slice.Eq.{bytes_eq-Decides}
use Rattle.bop_words.specs.declared.option_name.OptionName.{OptionName}
use Rattle.bop_words.specs.declared.option_name.OptionName.TheVariants.{Workers, Group, Budget, Journal, Confirm, Seed, Regions, Schedule}
use Rattle.bop_words.specs.OptionTable.{Alone, AnyName, Within, Kind, Absent, Named, Number, Present, Value, AreOnce, Given, IsWritten, found, row_of, spelled}
use Rattle.bop_words.specs.WordRequests.{IsRight}

-- the option whose name has this fifth letter
option_by : ℕ → OptionName
option_by letter =
    if nat_eq letter 114 then Workers
    else (if nat_eq letter 111 then Group
    else (if nat_eq letter 100 then Budget
    else (if nat_eq letter 117 then Journal
    else (if nat_eq letter 110 then Confirm
    else (if nat_eq letter 101 then Seed
    else (if nat_eq letter 103 then Regions else Schedule))))))

back : (option : OptionName) → option_by (get_or (row_of option).name 4 0) ≡ option
unfolding option_by
back Workers = refl
back Group = refl
back Budget = refl
back Journal = refl
back Confirm = refl
back Seed = refl
back Regions = refl
back Schedule = refl

-- no two have one name
pub one_option : (a b : OptionName) → (row_of a).name ≡ (row_of b).name → a ≡ b
one_option a b e = sym (back a) ∙ ap (λ (name : List ℕ). option_by (get_or name 4 0)) e ∙ back b

abbrev pub same : OptionName → OptionName → Bool
same a b = bytes_eq (row_of a).name (row_of b).name

pub same_itself : (a b : OptionName) → a ≡ b → same a b ≡ true
same_itself a b e = (bytes_eq-Decides (row_of a).name (row_of b).name).1 (ap (λ o. (row_of o).name) e)

pub same_is : (a b : OptionName) → same a b ≡ true → a ≡ b
same_is a b e = one_option a b ((bytes_eq-Decides (row_of a).name (row_of b).name).0 e)

-- what is given has a value
pub has_value : (kind : Kind) (behind : List (List ℕ)) (value : Value) → IsWritten kind behind value → value ≢ Absent
has_value (Within least most) (word ∷ []) (Number number) h = λ e. cc
has_value AnyName (word ∷ []) (Named name) h = λ e. cc
has_value Alone [] Present h = λ e. cc
has_value _ _ _ h = absurd h

-- the value of the first that is given, and of the others
pub found_first : (given : Given) (others : List Given) (option : OptionName) → given.option ≡ option
    → found (given ∷ others) option ≡ given.value
found_first given others option e =
    cond-true (same given.option option) given.value (found others option) (same_itself given.option option e)

pub found_other : (given : Given) (others : List Given) (option : OptionName)
    → same given.option option ≡ false → found (given ∷ others) option ≡ found others option
found_other given others option e =
    cond-false (same given.option option) given.value (found others option) e

-- what isn't found isn't the first, and isn't among the others
pub not_first : (given : Given) (others : List Given) (option : OptionName) → IsRight given
    → found (given ∷ others) option ≡ Absent → same given.option option ≡ false
not_first given others option right none =
    ⊎_elim
    (λ y. absurd (has_value _ _ _ right (sym (found_first given others option (same_is given.option option y)) ∙ none)))
    (λ n. n)
    (cases_Bool (same given.option option))

pub not_other : (given : Given) (others : List Given) (option : OptionName) → IsRight given
    → found (given ∷ others) option ≡ Absent → found others option ≡ Absent
not_other given others option right none =
    sym (found_other given others option (not_first given others option right none)) ∙ none

-- words that begin with the value of an option have one value, and one rest
pub written_once : (kind : Kind) (a b c d : List (List ℕ)) (v w : Value) → IsWritten kind a v → IsWritten kind b w
    → a ++ c ≡ b ++ d → (a ≡ b) × (v ≡ w) × (c ≡ d)
written_once (Within least most) (x ∷ []) (y ∷ []) c d (Number m) (Number n) h k e =
    let word : x ≡ y = ap (λ (l : List (List ℕ)). get_or l 0 []) e in
    (ap (λ z. z ∷ []) word, ap Number (h.value ∙ ap (digits_value 10) word ∙ sym k.value), ap (λ (l : List (List ℕ)). drop 1 l) e)
written_once (Within least most) (x ∷ []) _ c d (Number m) _ h k e = absurd k
written_once AnyName (x ∷ []) (y ∷ []) c d (Named m) (Named n) h k e =
    let word : x ≡ y = ap (λ (l : List (List ℕ)). get_or l 0 []) e in
    (ap (λ z. z ∷ []) word, ap Named (sym h.0 ∙ word ∙ k.0), ap (λ (l : List (List ℕ)). drop 1 l) e)
written_once AnyName (x ∷ []) _ c d (Named m) _ h k e = absurd k
written_once Alone [] [] c d Present Present h k e = (refl, refl, e)
written_once Alone [] _ c d Present _ h k e = absurd k
written_once _ _ _ _ _ _ _ h k e = absurd h

abbrev given_as : OptionName → List (List ℕ) → Value → Given
given_as option behind value = record { option = option; behind = behind; value = value }

given_is : (x y : Given) → x.option ≡ y.option → x.behind ≡ y.behind → x.value ≡ y.value → x ≡ y
given_is x y o b v =
    ap (λ z. given_as z x.behind x.value) o ∙ ap (λ z. given_as y.option z x.value) b
    ∙ ap (λ z. given_as y.option y.behind z) v

-- what is given behind a front of the words
pub record Cut (a b : List Given) (rest : List (List ℕ)) : Type 0 where
  pub others : List Given
  pub after : b ≡ a ++ others
  pub left : rest ≡ spelled others

pub cut : (a b : List Given) (rest : List (List ℕ)) → All IsRight a → All IsRight b
    → spelled a ++ rest ≡ spelled b → Cut a b rest
cut [] b rest p q e = record { others = b; after = refl; left = e }
cut (x ∷ xs) [] rest p q e = absurd (cc)
cut (x ∷ xs) (y ∷ ys) rest p q e =
    let option : x.option ≡ y.option = one_option x.option y.option (ap (λ (l : List (List ℕ)). get_or l 0 []) e) in
    let tails : x.behind ++ (spelled xs ++ rest) ≡ y.behind ++ spelled ys =
    sym (append_assoc x.behind (spelled xs) rest) ∙ ap (λ (l : List (List ℕ)). drop 1 l) e in
    let right : IsWritten (row_of x.option).kind y.behind y.value =
    subst (λ o. IsWritten (row_of o).kind y.behind y.value) (sym option) (All-head IsRight y ys q) in
    let once = written_once (row_of x.option).kind x.behind y.behind (spelled xs ++ rest) (spelled ys) x.value y.value (All-head IsRight x xs p) right tails in
    let inner = cut xs ys rest (All-tail IsRight x xs p) (All-tail IsRight y ys q) once.2 in
    record {
      others = inner.others;
      after = ap₂ (λ (z : Given) (zs : List Given). z ∷ zs) (sym (given_is x y option once.0 once.1)) inner.after;
      left = inner.left;
    }

-- one option more at the end
pub found_last : (given : List Given) (last : Given) (option : OptionName) → All IsRight given
    → found given last.option ≡ Absent
    → found (given ++ last ∷ []) option ≡ (if same last.option option then last.value else found given option)
found_last [] last option p none = refl
found_last (x ∷ xs) last option p none =
    let ih = found_last xs last option (All-tail IsRight x xs p) (not_other x xs last.option (All-head IsRight x xs p) none) in
    let apart : same x.option last.option ≡ false = not_first x xs last.option (All-head IsRight x xs p) none in
    ⊎_elim
    (λ y.
    let other : same last.option option ≡ false =
    ⊎_elim
    (λ z. let wrong : true ≡ false = sym (same_itself x.option last.option (same_is x.option option y ∙ sym (same_is last.option option z))) ∙ apart in cc)
    (λ n. n)
    (cases_Bool (same last.option option)) in
    cond-true (same x.option option) x.value (found (xs ++ last ∷ []) option) y
    ∙ sym (cond-true (same x.option option) x.value (found xs option) y)
    ∙ sym (cond-false (same last.option option) last.value (found (x ∷ xs) option) other))
    (λ n.
    cond-false (same x.option option) x.value (found (xs ++ last ∷ []) option) n ∙ ih
    ∙ ap (λ v. if same last.option option then last.value else v) (sym (cond-false (same x.option option) x.value (found xs option) n)))
    (cases_Bool (same x.option option))

pub once_last : (given : List Given) (last : Given) → All IsRight given → AreOnce given
    → found given last.option ≡ Absent → AreOnce (given ++ last ∷ [])
once_last [] last p once none = (refl, tt)
once_last (x ∷ xs) last p once none =
    let apart : same x.option last.option ≡ false = not_first x xs last.option (All-head IsRight x xs p) none in
    let others : found xs last.option ≡ Absent = not_other x xs last.option (All-head IsRight x xs p) none in
    let other : same last.option x.option ≡ false =
    ⊎_elim
    (λ z. let wrong : true ≡ false = sym (same_itself x.option last.option (sym (same_is last.option x.option z))) ∙ apart in cc)
    (λ n. n)
    (cases_Bool (same last.option x.option)) in (
      found_last xs last x.option (All-tail IsRight x xs p) others
          ∙ cond-false (same last.option x.option) last.value (found xs x.option) other
          ∙ once.0,
      once_last xs last (All-tail IsRight x xs p) once.1 others,
    )

-- one that is given among others is found
found_among : (given : List Given) (next : Given) (others : List Given)
    → found given next.option ≡ Absent → All IsRight given → found (given ++ next ∷ others) next.option ≡ next.value
found_among [] next others none p = found_first next others next.option refl
found_among (x ∷ xs) next others none p =
    found_other x (xs ++ next ∷ others) next.option (not_first x xs next.option (All-head IsRight x xs p) none)
    ∙ found_among xs next others (not_other x xs next.option (All-head IsRight x xs p) none) (All-tail IsRight x xs p)

-- what comes behind isn't given before
pub not_before : (given : List Given) (next : Given) (others : List Given) → All IsRight given → IsRight next
    → AreOnce (given ++ next ∷ others) → found given next.option ≡ Absent
not_before [] next others p right once = refl
not_before (x ∷ xs) next others p right once =
    let tail = All-tail IsRight x xs p in
    let ih = not_before xs next others tail right once.1 in
    ⊎_elim
    (λ y. absurd (has_value _ _ _ right
    (sym (found_among xs next others ih tail) ∙ ap (λ o. found (xs ++ next ∷ others) o) (sym (same_is x.option next.option y)) ∙ once.0)))
    (λ n. found_other x xs next.option n ∙ ih)
    (cases_Bool (same x.option next.option))
