-- What is read is what the grammar has.
use Rattle.std.proofs.Common.{◌≡◌, ◌<◌, ◌≤◌, ◌+◌, ◌-◌, ℕ, zero, suc, List, [], ◌∷◌, ◌++◌, length, Ok, Err, refl, sym, ap, ◌∙◌, subst, arith, append_assoc, append-nil, drop, take, length-append}
use Rattle.std.proofs.lemmas.List.{take-append-drop, take_all, length-drop}
use Rattle.std.proofs.Math.Seq.{drop-append_seam}
use Rattle.c_tree.specs.declared.place.Place.{Place}
use Rattle.c_tree.specs.declared.tree.Expr.{Expr as ExprTree}
use Rattle.c_tree.specs.Expr.{Expr}
use Rattle.c_tree.specs.View.{expr_of}
use Rattle.c_token.specs.declared.token.Kind.TheVariants as k
use Rattle.c_token.specs.declared.token.Token.{Token}
use Rattle.c_expr.specs.declared.fault.ParseFault.{ParseFault}
use Rattle.c_expr.specs.declared.fault.ParseFault.TheVariants.{Unexpected, TooDeep, OutOfMemory}
use Rattle.c_expr.specs.declared.rule.Rule.{Rule}
use Rattle.c_expr.specs.declared.rule.Rule.TheVariants.{Assign, Cond, Unary as UnaryRule}
use Rattle.c_expr.specs.Leveled.{Leveled, tokens_of, AreBelow}
use Rattle.c_expr.specs.Next.{Outcome, kind_of, place_of, nowhere}
use Rattle.c_expr.specs.Reads.{Fails}
use Rattle.c_expr.specs.private.ExpressionReading.{rule, ruled}
use Rattle.c_expr.specs.private.ParserRules.{IsRule}
use Rattle.c_expr.specs.Parsing.{GoesNoFurther, IsRead, IsOutOfPlace, IsUnexpected, IsTooDeep, Parsed, ParsedAt, IsEnded}
use Rattle.c_expr.proofs.Law.{Exceeds, Law, Looks, plain, AreLow}
use Rattle.c_expr.proofs.ParserRulesLemmas.{rule_law}
use Rattle.c_expr.proofs.Through.{Follows, follows_itself, through, through_all}
use Rattle.c_expr.proofs.Complete.{complete_assign, complete_cond, complete_unary}

-- above each level
pub limit_of : List Leveled → ℕ
limit_of [] = 0
limit_of (x ∷ a) = suc x.level + limit_of a

pub below_limit : (a : List Leveled) (k : ℕ) → AreBelow (limit_of a + k) a
unfolding limit_of
below_limit [] k = tt
below_limit (x ∷ a) k =
    let same : limit_of a + (suc x.level + k) ≡ suc x.level + limit_of a + k = omega arith in
    (omega arith, subst (λ m. AreBelow m a) same (below_limit a (suc x.level + k)))

ok_not_err : {X : Type 0} (x : X × List Token) (e : ParseFault)
    → ◌≡◌ {A = Outcome X} (Ok x) (Err e) → ⊥
ok_not_err x e h = cc

list_of : {X : Type 0} (x y : X × List Token) → ◌≡◌ {A = Outcome X} (Ok x) (Ok y) → x.1 ≡ y.1
list_of x y h = let same : x ≡ y = cc in ap (λ p. p.1) same

pub below_of : (m : ℕ) (a : List Leveled) → AreLow m a → AreBelow m a
below_of m [] h = tt
below_of m (x ∷ a) h = (h.0.0, below_of m a h.1)

-- the end of the text is not read
tail_of : List Token → List Token
tail_of [] = []
tail_of (x ∷ xs) = xs

not_last : (m : ℕ) (before : List Token) (t : Token) (read : List Leveled) → AreLow m read
    → before ++ t ∷ [] ≡ tokens_of read → t.kind ≡ k.End → ⊥
unfolding tail_of
not_last m [] t [] low e h = cc
not_last m [] t (x ∷ read) low e h = low.0.1 (sym (ap kind_of e) ∙ h)
not_last m (y ∷ before) t [] low e h = cc
not_last m (y ∷ before) t (x ∷ read) low e h = not_last m before t read low.1 (ap tail_of e) h

pub not_all : (m : ℕ) (ts : List Token) (read : List Leveled) → IsEnded ts → AreLow m read
    → ts ≡ tokens_of read ++ [] → ⊥
not_all m ts read h low e = not_last m h.before (record { kind = k.End; place = h.place }) read low (sym h.ended ∙ e ∙ append-nil (tokens_of read)) refl

-- what is answered for tokens whose last is the end of the text
abbrev pub Answered : {X : Type 0} → (List Leveled → X → Type 0) → List Token → Outcome X → Type 0
Answered P ts (Ok x) = (0 < length x.1) × IsRead P ts x.0 x.1
Answered P ts (Err e) = Parsed P ts (Err e)

-- A reader that meets its law, and reads what is spelled where there is enough room, answers what the grammar says.
module _ {X : Type 0} (P : List Leveled → X → Type 0) (wider : List Leveled → List Token → Outcome X)
    (complete : (c : List Leveled) (x : X) → P c x → wider c (tokens_of c ++ []) ≡ Ok (x, [])) where
  regrouped : (c read : List Leveled) (next : Token) (more : List Token)
      → tokens_of c ≡ (tokens_of read ++ next ∷ []) ++ more
      → tokens_of c ++ [] ≡ tokens_of read ++ next ∷ more
  regrouped c read next more e = append-nil (tokens_of c) ∙ e ∙ append_assoc (tokens_of read) (next ∷ []) more

  pub read_ends : (x : X) (read : List Leveled) (rest : List Token)
      → ((c : List Leveled) (b : List Token) → Looks rest b
      → wider c (tokens_of read ++ b) ≡ Ok (x, b)) → GoesNoFurther P read rest
  read_ends x read [] again = tt
  read_ends x read (next ∷ rest) again = λ b.
      let lists : [] ≡ next ∷ b.more = list_of (b.tree, []) (x, next ∷ b.more)
      (sym (complete b.all b.tree b.spelled) ∙ ap (wider b.all) (regrouped b.all read next b.more b.splits) ∙ again b.all (next ∷ b.more) refl) in cc

  pub refused_ends : (read : List Leveled) (rest : List Token)
      → ((c : List Leveled) (b : List Token) → Looks rest b
      → wider c (tokens_of read ++ b) ≡ Err (Unexpected (place_of b))) → GoesNoFurther P read rest
  refused_ends read [] again = tt
  refused_ends read (next ∷ rest) again = λ b.
      ok_not_err (b.tree, []) (Unexpected next.place) (sym (complete b.all b.tree b.spelled) ∙ ap (wider b.all) (regrouped b.all read next b.more b.splits) ∙ again b.all (next ∷ b.more) refl)

  refused_unfinished : (read : List Leveled) (rest : List Token)
      → ((c : List Leveled) (b : List Token) → Looks rest b
      → wider c (tokens_of read ++ b) ≡ Err (Unexpected (place_of b)))
      → (all : List Leveled) (tree : X) → P all tree → tokens_of all ≡ tokens_of read → ⊥
  refused_unfinished read rest again all tree h e =
      ok_not_err (tree, []) (Unexpected nowhere) (sym (complete all tree h) ∙ ap (λ us. wider all (us ++ [])) e ∙ again all [] tt)

  read_by : (ts : List Token) (x : X) (rest : List Token) (read : List Leveled) → IsEnded ts
      → ts ≡ tokens_of read ++ rest → P read x → AreLow 201 read
      → ((c : List Leveled) (b : List Token) → Looks rest b → wider c (tokens_of read ++ b) ≡ Ok (x, b)) → (0 < length rest) × IsRead P ts x rest
  read_by ts x [] read ended splits holds low again = absurd (not_all 201 ts read ended low splits)
  read_by ts x (next ∷ rest) read ended splits holds low again =
      (omega arith, record { read = read; splits = splits; spelled = holds; low = below_of 201 read low; no_further = read_ends x read (next ∷ rest) again })

  -- what stands where the tokens can't go on
  abbrev pub out_of_place_by : (ts : List Token) (p : Place) (read : List Leveled) (next : Token) (rest : List Token)
      (more : List Leveled) (x : X) → ts ≡ tokens_of read ++ next ∷ rest → p ≡ next.place
      → AreLow 201 read → P (read ++ more) x
      → GoesNoFurther P read (next ∷ rest) → IsOutOfPlace P ts p
  out_of_place_by ts p read next rest more x splits at low holds no_further = record {
    read = read;
    next = next;
    rest = rest;
    splits = splits;
    is_at = at;
    low = below_of 201 read low;
    more = more;
    tree = x;
    begins = holds;
    no_further = no_further;
  }

  pub refused_by : (ts : List Token) (p : Place) (read : List Leveled) (rest : List Token)
      (more : List Leveled) (x : X) → IsEnded ts → ts ≡ tokens_of read ++ rest → place_of rest ≡ p
      → AreLow 201 read → P (read ++ more) x
      → ((c : List Leveled) (b : List Token) → Looks rest b → wider c (tokens_of read ++ b) ≡ Err (Unexpected (place_of b))) → IsUnexpected P ts p
  refused_by ts p read [] more x ended splits at low holds again = absurd (not_all 201 ts read ended low splits)
  refused_by ts p read (next ∷ rest) more x ended splits at low holds again = record {
    stop = out_of_place_by ts p read next rest more x splits (sym at) low holds (refused_ends read (next ∷ rest) again);
    unfinished = refused_unfinished read (next ∷ rest) again;
  }

  pub deep_by : (ts : List Token) (p : Place) → Exceeds 201 (plain P) ts p → IsTooDeep P ts p
  deep_by ts p h = record {
    read = h.read;
    deep = h.high;
    rest = h.rest;
    splits = h.splits;
    is_at = sym h.place;
    low = below_of 201 h.read h.low;
    is_deep = let high = h.is_high in omega arith;
    more = h.more;
    tree = h.value;
    begins = h.holds;
  }

  pub parsed_by : (ts : List Token) (o : Outcome X) → IsEnded ts → Law 201 (plain P) wider ts o
      → Answered P ts o
  parsed_by ts (Ok x) ended h = read_by ts x.0 x.1 h.read ended h.splits h.holds h.low h.again
  parsed_by ts (Err (Unexpected p)) ended h = refused_by ts p h.read h.rest h.more h.value ended h.splits h.place h.low h.holds h.again
  parsed_by ts (Err (TooDeep p)) ended h = deep_by ts p h
  parsed_by ts (Err OutOfMemory) ended h = tt

-- room for a spelling
abbrev pub wide : ℕ → List Leveled → ℕ
wide l c = limit_of c + 201 - l

pub complete_rule : (which : Rule) (l : ℕ) (a : List Leveled) (x : Expr) → IsRule which l a x
    → (m f r : ℕ) → r ≡ m - l → r ≤ f → (ts : List Token) → Follows m a [] ts
    → rule f which r ts ≡ through m a (Ok (x, []))
complete_rule Assign l a x h m f r room deep ts i = complete_assign h m f r [] ts room deep i (omega arith)
complete_rule Cond l a x h m f r room deep ts i = complete_cond h m f r [] ts room deep i (omega arith)
complete_rule UnaryRule l a x h m f r room deep ts i = complete_unary h m f r [] ts room deep i (omega arith)

pub read_whole : (which : Rule) (l r : ℕ) (c : List Leveled) (x : Expr) → IsRule which l c x
    → rule (r + wide l c) which (wide l c) (tokens_of c ++ []) ≡ Ok (x, [])
read_whole which l r c x h =
    complete_rule which l c x h (limit_of c + 201) (r + wide l c) (wide l c) refl (omega arith) (tokens_of c ++ []) (follows_itself (limit_of c + 201) c [])
    ∙ through_all (limit_of c + 201) c (Ok (x, [])) (below_limit c 201)

pub parsed : (which : Rule) (l r : ℕ) (ts : List Token) → r ≡ 201 - l → IsEnded ts
    → Answered (IsRule which l) ts (ruled which r ts)
parsed which l r ts room ended =
    parsed_by (IsRule which l) (λ c. rule (r + wide l c) which (wide l c)) (read_whole which l r) ts (ruled which r ts) ended
    (rule_law (List Leveled) r (λ c. r + wide l c) 201 which l r (wide l) ts room (omega arith) (λ c. (omega arith, omega arith))).law

ended_from : (at : ℕ) (before : List Token) (t : Token) → at < length (before ++ t ∷ [])
    → drop at (before ++ t ∷ []) ≡ drop at before ++ t ∷ []
ended_from zero before t h = refl
ended_from (suc at) [] t h = absurd (omega arith)
ended_from (suc at) (y ∷ before) t h = ended_from at before t (omega arith)

ended_at : (tokens : List Token) (at : ℕ) → IsEnded tokens → at < length tokens
    → IsEnded (drop at tokens)
ended_at tokens at h below = record {
  before = drop at h.before;
  place = h.place;
  ended = ap (drop at) h.ended ∙ ended_from at h.before (record { kind = k.End; place = h.place }) (omega (arith, ap length h.ended));
}

rest_is : (tokens before rest : List Token) (n : ℕ) → tokens ≡ before ++ rest
    → n ≡ length tokens - length rest → drop n tokens ≡ rest
rest_is tokens before rest n e is =
    let count : n ≡ length before = omega (arith, ap length e, length-append before rest) in
    ap (λ k. drop k tokens) count ∙ ap (drop (length before)) e ∙ drop-append_seam before rest

-- a slice from a place on
abbrev pub from : List Token → ℕ → List Token
from tokens at = take (length tokens - at) (drop at tokens)

pub from_is : (tokens : List Token) (at : ℕ) → from tokens at ≡ drop at tokens
from_is tokens at = take_all (length tokens - at) (drop at tokens) (omega (arith, length-drop at tokens))

-- the same with the place behind what was read
module _ (which : Rule) (l r : ℕ) (room : r ≡ 201 - l) (tokens : List Token) (at : ℕ) (below : at < length tokens) (ended : IsEnded tokens) where
  answered : (o : Outcome Expr) → ruled which r (from tokens at) ≡ o
      → Answered (IsRule which l) (drop at tokens) o
  answered o e = subst (Answered (IsRule which l) (drop at tokens)) (ap (ruled which r) (sym (from_is tokens at)) ∙ e) (parsed which l r (drop at tokens) room (ended_at tokens at ended below))

  pub ok_at : (n : ℕ) (x : ExprTree) (rest : List Token)
      → ruled which r (from tokens at) ≡ Ok (expr_of x, rest) → n ≡ length tokens - length rest
      → (n < length tokens) × IsRead (IsRule which l) (drop at tokens) (expr_of x) (drop n tokens)
  ok_at n x rest e is =
      let w = answered (Ok (expr_of x, rest)) e in
      let some : 0 < length rest = w.0 in
      let h : IsRead (IsRule which l) (drop at tokens) (expr_of x) rest = w.1 in
      let split : tokens ≡ (take at tokens ++ tokens_of h.read) ++ rest =
      sym (take-append-drop at tokens) ∙ ap (λ us. take at tokens ++ us) h.splits ∙ sym (append_assoc (take at tokens) (tokens_of h.read) rest) in
      (omega (arith, ap length split, length-append (take at tokens ++ tokens_of h.read) rest), subst (IsRead (IsRule which l) (drop at tokens) (expr_of x)) (sym (rest_is tokens (take at tokens ++ tokens_of h.read) rest n split is)) h)

  pub err_at : (e : ParseFault) → Fails e (ruled which r (from tokens at))
      → ParsedAt (IsRule which l) tokens at (Err e)
  err_at (Unexpected p) h = answered (Err (Unexpected p)) h
  err_at (TooDeep p) h = answered (Err (TooDeep p)) h
  err_at OutOfMemory h = tt
