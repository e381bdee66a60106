-- The parts of a define.
use Rattle.std.proofs.Common.{Bool, List, None, Option, Some, ap, ap₂, arith, cond, drop, drop_at, false, length, length-take-le, lt-ltb, ltb-true, refl, subst, sym, take, take-append-drop, take_at, true, ℕ, ◌++◌, ◌<◌, ◌∙◌, ◌≡◌}
use Rattle.std.proofs.lemmas.Bool.{and_from, and_parts, both_ways, cond-false, eqb-false, false_from_ne_true, ne_eqb, not-true, or_from, or_parts}
use Rattle.std.proofs.lemmas.List.Sums.{prefix_len-le-length}
use Rattle.std.specs.Char.{is_ascii_digit}
use Rattle.std.specs.List.{list_all, prefix_len}
use Rattle.std.specs.Prelude.{Err, Ok, nat_eq, nat_lt, not, ◌&&◌, ◌||◌}
use Rattle.c_token.specs.Bytes.{first, is_blank, is_word}
use Rattle.c_token.specs.Directives.{AreBlanks, IsDefine, IsTail}
use Rattle.c_token.specs.private.Fronts.{word_behind}
use Rattle.c_token.specs.Integers.{IsConstant, number_of}
use Rattle.c_token.specs.private.Numbers.{IsNumber}
use Rattle.c_token.specs.ReservedWords.{is_reserved}
use Rattle.c_token.specs.declared.number.Number.{Number}
use Rattle.c_token.specs.declared.number.NumberFault.{NumberFault}
use Rattle.c_token.proofs.ConstantWords.{constant_digit, constant_words}
use Rattle.c_token.proofs.ConstantTokens.{same_number, some_none}
use Rattle.c_token.proofs.Includes.{behind_blanks}
use Rattle.c_token.proofs.TokenLists.{first_front}
use Rattle.c_token.proofs.ByteRuns.{blanks_gone, first_passes, run_all, run_is}
use Rattle.c_token.proofs.Tails.{blank_apart, tail_apart}
use Rattle.c_token.specs.declared.number.NumberFault.TheVariants.{Malformed, Large}

pub word_no_blank : (b : ℕ) → is_word b ≡ true → is_blank b ≡ false
word_no_blank b h = false_from_ne_true _ (λ e. both_ways _ (blank_apart b e) h)

pub word_there : (between w r : List ℕ) → AreBlanks between → 0 < length between
    → list_all is_word w ≡ true → 0 < length w → is_word (first r) ≡ false
    → word_behind (between ++ (w ++ r)) ≡ Some (w, r)
word_there between w r blanks some words some_word stops =
    let text : List ℕ = between ++ (w ++ r) in
    let no_blank : is_blank (first (w ++ r)) ≡ false = ap is_blank (first_front w r some_word) ∙ word_no_blank (first w) (first_passes is_word w some_word words) in
    let gone : behind_blanks text ≡ w ++ r = blanks_gone between (w ++ r) blanks no_blank in
    let n : prefix_len is_blank text ≡ length between = run_is is_blank between (w ++ r) blanks no_blank in
    let m : prefix_len is_word (w ++ r) ≡ length w = run_is is_word w r words stops in
    cond-false _ _ _ (or_from (nat_eq (prefix_len is_blank text) 0) (nat_eq (prefix_len is_word (behind_blanks text)) 0) (ne_eqb _ 0 (λ z. omega (arith, z, n, some))) (ne_eqb _ 0 (λ z. omega (arith, z, ap (prefix_len is_word) gone, m, some_word))))
    ∙ ap (λ y. Some (take (prefix_len is_word y) y, drop (prefix_len is_word y) y)) gone
    ∙ ap (λ i. Some (take i (w ++ r), drop i (w ++ r))) m
    ∙ ap₂ (λ a b. Some (a, b)) (take_at w r (length w) refl) (drop_at w r (length w) refl)

pub define_name : (rest : List ℕ) (said : List ℕ × Number) → (d : IsDefine rest said)
    → word_behind rest ≡ Some (said.0, d.behind ++ (d.integer ++ d.tail))
define_name rest said d =
    let w = and_parts (nat_lt 0 (length said.0)) _ d.name in
    ap word_behind d.parts ∙ word_there d.between said.0 (d.behind ++ (d.integer ++ d.tail)) d.blanks d.some (and_parts (list_all is_word said.0) _ w.1).0 (ltb-true 0 (length said.0) w.0)
    (blank_apart (first (d.behind ++ (d.integer ++ d.tail))) (ap is_blank (first_front d.behind (d.integer ++ d.tail) d.some_more) ∙ first_passes is_blank d.behind d.some_more d.more_blanks))

pub define_integer : (rest : List ℕ) (said : List ℕ × Number) → (d : IsDefine rest said)
    → word_behind (d.behind ++ (d.integer ++ d.tail)) ≡ Some (d.integer, d.tail)
define_integer rest said d =
    word_there d.behind d.integer d.tail d.more_blanks d.some_more (constant_words d.integer d.constant d.spelled) (constant_digit d.integer d.constant d.spelled).0 (tail_apart true d.tail d.ends)

pub none_pair : (p : List ℕ × List ℕ) → ◌≡◌ {A = Option (List ℕ × List ℕ)} None (Some p) → ⊥
none_pair p h = cc

pub same_pair : (p q : List ℕ × List ℕ) → ◌≡◌ {A = Option (List ℕ × List ℕ)} (Some p) (Some q)
    → p ≡ q
same_pair p q h = cc

pub same_some : (p q : Number) → ◌≡◌ {A = Option Number} (Some p) (Some q) → p ≡ q
same_some p q h = cc

pub some_of : (t : Bool) (p q : List ℕ × List ℕ) → cond t None (Some p) ≡ Some q
    → (t ≡ false) × (p ≡ q)
some_of true p q h = absurd (none_pair q h)
some_of false p q h = (refl, same_pair p q h)

word_parts : (text w r : List ℕ) → word_behind text ≡ Some (w, r)
    → (b : List ℕ) × (text ≡ b ++ (w ++ r)) × AreBlanks b × (0 < length b) × (list_all is_word w ≡ true) × (0 < length w)
word_parts text w r h =
    let y : List ℕ = behind_blanks text in
    let n : ℕ = prefix_len is_blank text in
    let m : ℕ = prefix_len is_word y in
    let s = some_of (nat_eq n 0 || nat_eq m 0) (take m y, drop m y) (w, r) h in
    let t = or_parts (nat_eq n 0) (nat_eq m 0) s.0 in
    let w_is : take m y ≡ w = ap (λ p. p.0) s.1 in
    let r_is : drop m y ≡ r = ap (λ p. p.1) s.1 in
    let y_is : y ≡ w ++ r = sym (take-append-drop m y) ∙ ap₂ (λ a b. a ++ b) w_is r_is in (
      take n text,
      sym (take-append-drop n text) ∙ ap (λ l. take n text ++ l) y_is,
      run_all is_blank text,
      omega (arith, length-take-le n text (prefix_len-le-length is_blank text), eqb-false n 0 t.0),
      ap (list_all is_word) (sym w_is) ∙ run_all is_word y,
      omega (arith, ap length w_is, length-take-le m y (prefix_len-le-length is_word y), eqb-false m 0 t.1),
    )

module _ (rest w r : List ℕ) (first_word : Some (w, r) ≡ word_behind rest) where
  pub name_once : (said : List ℕ × Number) → (d : IsDefine rest said)
      → (said.0 ≡ w) × (d.behind ++ (d.integer ++ d.tail) ≡ r)
  name_once said d = let e = same_pair _ (w, r) (sym (define_name rest said d) ∙ sym first_word) in (ap (λ p. p.0) e, ap (λ p. p.1) e)

  pub integer_there : (said : List ℕ × Number) → (d : IsDefine rest said)
      → word_behind r ≡ Some (d.integer, d.tail)
  integer_there said d = ap word_behind (sym (name_once said d).1) ∙ define_integer rest said d

  module _ (i t : List ℕ) (second_word : Some (i, t) ≡ word_behind r) where
    pub define_once : (said : List ℕ × Number) → (d : IsDefine rest said)
        → (said.0 ≡ w) × (d.integer ≡ i) × (d.tail ≡ t)
    define_once said d =
        let e = same_pair _ (i, t) (sym (integer_there said d) ∙ sym second_word) in
        ((name_once said d).0, ap (λ p. p.0) e, ap (λ p. p.1) e)

    pub no_name : (not (is_ascii_digit (first w)) && not (is_reserved w)) ≡ false
        → (said : List ℕ × Number) → IsDefine rest said → ⊥
    no_name h said d =
        let e = (name_once said d).0 in
        let digit : not (is_ascii_digit (first w)) ≡ true = ap (λ l. not (is_ascii_digit (first l))) (sym e) ∙ (and_parts (list_all is_word said.0) _ (and_parts (nat_lt 0 (length said.0)) _ d.name).1).1 in
        let free : not (is_reserved w) ≡ true = ap (λ l. not (is_reserved l)) (sym e) ∙ ap not d.free in
        both_ways _ h (and_from _ _ digit free)

    pub no_tail : (IsTail true t → ⊥) → (said : List ℕ × Number) → IsDefine rest said → ⊥
    no_tail h said d = h (subst (IsTail true) (define_once said d).2 d.ends)

    pub no_number : (e : NumberFault) → IsNumber i (Err e) → (said : List ℕ × Number)
        → IsDefine rest said → ⊥
    no_number Large h said d = some_none said.1 _ d.number (same_number i d.constant h.0 (subst (λ l. IsConstant l d.constant) (define_once said d).1 d.spelled) h.1 ∙ h.2)
    no_number Malformed h said d = h d.constant (subst (λ l. IsConstant l d.constant) (define_once said d).1 d.spelled)

    pub define_only : (n : Number) → IsNumber i (Ok n) → (said : List ℕ × Number)
        → IsDefine rest said → said ≡ (w, n)
    define_only n h said d =
        let o = define_once said d in
        let k : number_of d.constant ≡ number_of h.0 = same_number i d.constant h.0 (subst (λ l. IsConstant l d.constant) o.1 d.spelled) h.1 in
        let e : said.1 ≡ n = same_some said.1 n (sym d.number ∙ k ∙ h.2) in
        λ j. (o.0 j, e j)

    pub define_made : (n : Number) → (not (is_ascii_digit (first w)) && not (is_reserved w)) ≡ true
        → IsTail true t → IsNumber i (Ok n) → IsDefine rest (w, n)
    define_made n h tail is =
        let p = word_parts rest w r (sym first_word) in
        let q = word_parts r i t (sym second_word) in
        let f = and_parts (not (is_ascii_digit (first w))) (not (is_reserved w)) h in
        record {
          between = p.0;
          behind = q.0;
          integer = i;
          tail = t;
          constant = is.0;
          parts = p.1 ∙ ap (λ l. p.0 ++ (w ++ l)) q.1;
          blanks = p.2;
          some = p.3;
          name = and_from (nat_lt 0 (length w)) _ (lt-ltb 0 (length w) p.5) (and_from (list_all is_word w) _ p.4 f.0);
          free = not-true (is_reserved w) f.1;
          more_blanks = q.2;
          some_more = q.3;
          spelled = is.1;
          number = is.2;
          ends = tail;
        }
