-- What holds of a reader that chooses by the next token, of one that takes turns, and of one that answers the place of its first token.
use Rattle.std.proofs.Common.{◌≡◌, ◌<◌, ◌≤◌, ◌-◌, ℕ, List, [], ◌∷◌, ◌++◌, length, Ok, Err, refl, sym, ap, ◌∙◌, subst, arith, length-append, inl, ◌⊎◌, Bool, true, false}
use Rattle.c_token.specs.declared.token.Token.{Token}
use Rattle.c_token.specs.declared.token.Kind.{Kind}
use Rattle.c_token.specs.declared.token.Kind.TheVariants as k
use Rattle.c_tree.specs.declared.place.Place.{Place}
use Rattle.c_tree.specs.Ty.{Ty}
use Rattle.c_expr.specs.declared.fault.ParseFault.TheVariants.{Unexpected, TooDeep, OutOfMemory}
use Rattle.c_expr.specs.private.ParserRules.{Rule}
use Rattle.c_expr.specs.Leveled.{Leveled, at, tokens_of}
use Rattle.c_expr.specs.Spelled.{same}
use Rattle.c_expr.specs.Grammar as e
use Rattle.c_expr.specs.Grammar.{IsBase}
use Rattle.c_expr.specs.private.ParserRules.{IsRule}
use Rattle.c_expr.specs.Next.{Outcome, ◌>>=◌, kind_of, place_of, refuse, take}
use Rattle.c_expr.specs.private.ExpressionReading.{turns, ruled}
use Rattle.c_expr.proofs.Law.{Law, Lawful, Some_of, refuses_as, exceeds_as, plain, weaken, take_law, look_law}
use Rattle.c_expr.proofs.ParserTurns.{Turn, turns_law, tokens_length}
use Rattle.c_expr.proofs.ParserRulesLemmas.{rule_law}
use Rattle.c_expr.proofs.ExpressionFronts.{Expected}
use Rattle.c_expr.proofs.KindWords.{same_is, not_end}
use Rattle.c_decl.specs.private.DeclarationReading.{is_next}

pub bind_bind : {X Y Z : Type 0} (o : Outcome X) (f : X × List Token → Outcome Y)
    (g : Y × List Token → Outcome Z) → ((o >>= f) >>= g) ≡ (o >>= λ x. f x >>= g)
bind_bind (Ok x) f g = refl
bind_bind (Err e) f g = refl

pub bind_bind_law : {X Y Z I : Type 0} {m : ℕ} {S : List Leveled → Z → List Token → Type 0}
    (q : I → List Token → Outcome X) (h' : I → X × List Token → Outcome Y)
    (g' : I → Y × List Token → Outcome Z)
    (o : Outcome X) (h : X × List Token → Outcome Y) (g : Y × List Token → Outcome Z) (ts : List Token)
    → Lawful m S (λ i b. q i b >>= λ x. h' i x >>= g' i) ts (o >>= λ x. h x >>= g) → Lawful m S (λ i b. (q i b >>= h' i) >>= g' i) ts ((o >>= h) >>= g)
bind_bind_law {m = m} {S = S} q h' g' o h g ts law = subst (λ o. Lawful m S (λ i b. (q i b >>= h' i) >>= g' i) ts o) (sym (bind_bind o h g))
    (weaken S (λ i b. (q i b >>= h' i) >>= g' i) (λ b y us h. h) (λ i b. sym (bind_bind (q i b) (h' i) (g' i))) law)

-- a reader that takes its room, at each room that is enough
abbrev pub Sound : {X : Type 0} → (I : Type 0) → ℕ → (ℕ → List Leveled → X → List Token → Type 0)
    → (ℕ → List Token → Outcome X) → Type 0
Sound I m P reader = (l r : ℕ) (r' : I → ℕ) (ts : List Token) → r ≡ m - l → ((i : I) → r ≤ r' i) → Lawful m (P l) (λ i. reader (r' i)) ts (reader r ts)

pub ruled_sound : (I : Type 0) (m : ℕ) (which : Rule)
    → Sound I m (λ l. plain (IsRule which l)) (ruled which)
ruled_sound I m which l r r' ts room wide = rule_law I r r' m which l r r' ts room (omega arith) (λ i. (wide i, omega arith))

-- A choice by the next token.
pub choose_by : {Y I : Type 0} {m : ℕ} {S : List Leveled → Y → List Token → Type 0}
    (is : Kind → Bool) (body : I → Bool → List Token → Outcome Y) (out : Bool → Outcome Y)
    (ts : List Token)
    → ((i : I) (c : Bool) → body i (is k.End) [] ≡ body i c []) → ((c : Bool) → is (kind_of ts) ≡ c → Lawful m S (λ i. body i c) ts (out c))
    → Lawful m S (λ i b. body i (is (kind_of b)) b) ts (out (is (kind_of ts)))
choose_by {S = S} is body out ts at_end law =
    look_law S (λ i c b. body i (is c) b) (kind_of ts) ts (out (is (kind_of ts))) refl (law (is (kind_of ts)) refl) (λ i. at_end i (is (kind_of ts)))

-- A choice by whether a sign or word is next.
pub choose : {Y I : Type 0} {m : ℕ} {S : List Leveled → Y → List Token → Type 0}
    (body : I → Bool → List Token → Outcome Y) (out : Bool → Outcome Y) (kind : Kind)
    (ts : List Token) → same k.End kind ≡ false
    → (kind_of ts ≡ kind → Lawful m S (λ i b. body i (is_next kind b) b) ts (out true)) → (same (kind_of ts) kind ≡ false → Lawful m S (λ i. body i false) ts (out false))
    → Lawful m S (λ i b. body i (is_next kind b) b) ts (out (is_next kind ts))
choose {m = m} {S = S} body out kind ts known is_there not_there = go (same (kind_of ts) kind) refl
  where
    go : (b : Bool) → same (kind_of ts) kind ≡ b
        → Lawful m S (λ i b. body i (is_next kind b) b) ts (out b)
    go true e = is_there (same_is (kind_of ts) kind e)
    go false e = look_law S (λ i c b. body i (same c kind) b) (kind_of ts) ts (out false) refl
        (weaken S (λ i b. body i (same (kind_of ts) kind) b) (λ b y us h. h) (λ i b. sym (ap (λ c. body i c b) e)) (not_there e)) (λ i. ap (λ c. body i c []) (known ∙ sym e))

-- The sign or word is taken, at this level, where it is next.
pub choose_taken : {Y I : Type 0} {S : List Leveled → Y → List Token → Type 0}
    (body : I → Bool → List Token → Outcome Y) (out : Bool → Outcome Y)
    (g : I → Token × List Token → Outcome Y) (f : Token × List Token → Outcome Y)
    (m l r : ℕ) (r' : I → ℕ) (kind : Kind) (ts : List Token) → r ≡ m - l → ((i : I) → r ≤ r' i) → Expected kind
    → ((i : I) (b : List Token) → body i true b ≡ (take (r' i) b >>= g i)) → out true ≡ (take r ts >>= f)
    → ((p : Place) (rest : List Token) → Lawful m (λ b y us. S (at l kind p ∷ b) y us) (λ i b. g i (record { kind = kind; place = p }, b)) rest (f (record { kind = kind; place = p }, rest)))
    → (same (kind_of ts) kind ≡ false → Lawful m S (λ i. body i false) ts (out false))
    → Lawful m S (λ i b. body i (is_next kind b) b) ts (out (is_next kind ts))
choose_taken {S = S} body out g f m l r r' kind ts room wide known takes is_out taken not_there = choose body out kind ts known.1 (λ is.
    subst (λ o. Lawful m S (λ i b. body i (is_next kind b) b) ts o) (sym is_out)
    (take_law (λ i b. body i (is_next kind b) b) g f m l r r' kind ts room wide is (not_end kind known.0)
    (λ i p b. ap (λ c. body i c (record { kind = kind; place = p } ∷ b)) known.0 ∙ takes i (record { kind = kind; place = p } ∷ b)) taken)) not_there

-- the same for a reader by its room alone
pub chosen : {Y I : Type 0} {S : List Leveled → Y → List Token → Type 0}
    (body : ℕ → Bool → List Token → Outcome Y) (g : ℕ → Token × List Token → Outcome Y)
    (m l r : ℕ) (r' : I → ℕ) (kind : Kind) (ts : List Token) → r ≡ m - l → ((i : I) → r ≤ r' i) → Expected kind
    → ((s : ℕ) (b : List Token) → body s true b ≡ (take s b >>= g s))
    → ((p : Place) (rest : List Token) → Lawful m (λ b y us. S (at l kind p ∷ b) y us) (λ i b. g (r' i) (record { kind = kind; place = p }, b)) rest (g r (record { kind = kind; place = p }, rest)))
    → (same (kind_of ts) kind ≡ false → Lawful m S (λ i. body (r' i) false) ts (body r false ts))
    → Lawful m S (λ i b. body (r' i) (is_next kind b) b) ts (body r (is_next kind ts) ts)
chosen body g m l r r' kind ts room wide known takes taken not_there =
    choose_taken (λ i c b. body (r' i) c b) (λ c. body r c ts) (λ i. g (r' i)) (g r) m l r r' kind ts room wide known (λ i b. takes (r' i) b) (takes r ts) taken not_there

-- Turns, of which each that is not the last reads something.
pub shorter_by : {A B I : Type 0} {m : ℕ} (T : A → List Leveled → B → List Token → Type 0)
    (q : I → List Token → Outcome (A ⊎ B)) (x y : A) (ts us : List Token) (o : Outcome (A ⊎ B))
    → Lawful m (Turn T x) q ts o → o ≡ Ok (inl y, us) → length us < length ts
shorter_by {m = m} T q x y ts us o law e =
    let h = (subst (λ o. Lawful m (Turn T x) q ts o) e law).law in
    let some = h.holds.0 in omega (arith, ap length h.splits, length-append (tokens_of h.read) us, tokens_length h.read)

pub turned : {A B I : Type 0} {m : ℕ} (T : A → List Leveled → B → List Token → Type 0)
    (some : (x : A) → Some_of (T x)) (step' : I → A → List Token → Outcome (A ⊎ B))
    (step : A → List Token → Outcome (A ⊎ B)) (n : I → ℕ) (x : A) (ts : List Token)
    → ((i : I) (x : A) → step' i x [] ≡ refuse [])
    → ((i : I) (x : A) (ts : List Token) → Lawful {I = Unit {0}} (n i) (Turn T x) (λ u. step' i x) ts (step' i x ts))
    → ((x : A) (ts : List Token) → Lawful m (Turn T x) (λ i. step' i x) ts (step x ts))
    → Lawful m (T x) (λ i b. turns (step' i) (length b) x b) ts (turns step (length ts) x ts)
turned {m = m} T some step' step n x ts empty single law =
    turns_law m T some step' step empty (λ i x y ts us e. shorter_by T (λ (u : Unit {0}). step' i x) x y ts us (step' i x ts) (single i x ts) e) law (length ts) x ts (omega arith)

-- The place of the first token.
abbrev pub FirstAt : Place → List Leveled → Type 0
FirstAt place [] = ⊥
FirstAt place (x ∷ a) = x.token.place ≡ place

first_of_read : (place : Place) (a : List Leveled) (rest ts : List Token) → place_of ts ≡ place
    → ts ≡ tokens_of a ++ rest → (a ≡ [] → ⊥) → FirstAt place a
first_of_read place [] rest ts is e some = some refl
first_of_read place (x ∷ a) rest ts is e some = sym (ap place_of e) ∙ is

first_of_high : (place : Place) (a : List Leveled) (high : Leveled) (more : List Leveled)
    (rest ts : List Token) → place_of ts ≡ place → ts ≡ tokens_of a ++ high.token ∷ rest
    → FirstAt place (a ++ high ∷ more)
first_of_high place [] high more rest ts is e = sym (ap place_of e) ∙ is
first_of_high place (x ∷ a) high more rest ts is e = sym (ap place_of e) ∙ is

completed : {X : Type 0} (P : List Leveled → X → Type 0) (place : Place) (a more : List Leveled)
    (x : X) (rest ts : List Token) → place_of ts ≡ place → ts ≡ tokens_of a ++ rest
    → P (a ++ more) x
    → Some_of (λ b y us. P b y × FirstAt place b) → Some_of (λ b y us. P (a ++ b) y × FirstAt place (a ++ b))
completed P place [] more x rest ts is e h some = some
completed P place (y ∷ a) more x rest ts is e h some = record { spelling = more; value = x; holds = (h, sym (ap place_of e) ∙ is) }

pub front_law : {X I : Type 0} {m : ℕ}
    (P : List Leveled → X → Type 0) {q : I → List Token → Outcome X} {o : Outcome X}
    (place : Place) (ts : List Token) → place_of ts ≡ place
    → Some_of (λ a x us. P a x × FirstAt place a) → ((x : X) → P [] x → ⊥) → Lawful m (plain P) q ts o → Lawful m (λ a x us. P a x × FirstAt place a) q ts o
front_law {m = m} P {q = q} {o = o} place ts is some none h = record { law = go o h.law }
  where
    go : (o : Outcome _) → Law m (plain P) q ts o → Law m (λ a x us. P a x × FirstAt place a) q ts o
    go (Ok x) h = record {
      read = h.read;
      splits = h.splits;
      low = h.low;
      holds = (h.holds, first_of_read place h.read x.1 ts is h.splits (λ e. none x.0 (subst (λ a. P a x.0) e h.holds)));
      again = h.again;
    }
    go (Err (Unexpected p)) h = refuses_as q h (completed P place h.read h.more h.value h.rest ts is h.splits h.holds some) h.again
    go (Err (TooDeep p)) h = exceeds_as h (record { spelling = h.more; value = h.value; holds = (h.holds, first_of_high place h.read h.high h.more h.rest ts is h.splits) })
    go (Err OutOfMemory) h = absurd h

pub base_some : {l : ℕ} {a : List Leveled} {to : Ty} → IsBase l a to → 0 < length a
base_some (e.plain h) = omega arith
base_some e.unsigned = omega arith
base_some e.unsigned_int = omega arith
base_some e.unsigned_char = omega arith
