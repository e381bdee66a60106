-- What a reader answers where the tokens follow a spelling, up to its first token whose level is too high, and anything behind that.
use Rattle.std.proofs.Common.{◌≡◌, ◌<◌, ◌≤◌, ◌-◌, ℕ, zero, suc, List, [], ◌∷◌, ◌++◌, Ok, Err, refl, sym, ap, ap₂, ◌∙◌, subst, arith, inl, inr, ◌⊎◌, Bool, true}
use Rattle.std.specs.Prelude.{if◌then◌else◌}
use Rattle.c_tree.specs.Expr.{Expr}
use Rattle.c_tree.specs.declared.place.Place.{Place}
use Rattle.c_token.specs.declared.token.Token.{Token}
use Rattle.c_expr.specs.declared.fault.ParseFault.TheVariants.{Unexpected, TooDeep}
use Rattle.c_expr.specs.declared.rule.Rule.{Rule}
use Rattle.c_expr.specs.Leveled.{Leveled, tokens_of, AreBelow}
use Rattle.c_expr.specs.Next.{Outcome, ◌>>=◌, kind_of, take, begins, fault_at_start}
use Rattle.c_expr.specs.private.ExpressionReading.{rule, inside}
use Rattle.c_expr.proofs.Opens as open_

abbrev pub Follows : ℕ → List Leveled → List Token → List Token → Type 0
Follows m [] rest ts = ts ≡ rest
Follows m (x ∷ a) rest [] = ⊥
Follows m (x ∷ a) rest (t ∷ ts) = (t ≡ x.token) × (x.level < m → Follows m a rest ts)

-- the outcome, if there is room
abbrev pub allowed : {X : Type 0} → ℕ → Place → Outcome X → Outcome X
allowed zero p o = Err (TooDeep p)
allowed (suc r) p o = o

abbrev pub through : {X : Type 0} → ℕ → List Leveled → Outcome X → Outcome X
through m [] o = o
through m (x ∷ a) o = allowed (m - x.level) x.token.place (through m a o)

pub follows_itself : (m : ℕ) (a : List Leveled) (rest : List Token)
    → Follows m a rest (tokens_of a ++ rest)
follows_itself m [] rest = refl
follows_itself m (x ∷ a) rest = (refl, λ low. follows_itself m a rest)

less_or : (a b : ℕ) → (a < b) ⊎ (b ≤ a)
less_or zero zero = inr (omega arith)
less_or zero (suc b) = inl (omega arith)
less_or (suc a) zero = inr (omega arith)
less_or (suc a) (suc b) = elim (less_or a b) [ inl h ↦ inl (omega arith) | inr h ↦ inr (omega arith) ]

-- where a spelling is cut
pub record Parts (m : ℕ) (a b : List Leveled) (rest ts : List Token) : Type 0 where
  pub behind : List Token
  pub front : Follows m a behind ts
  pub onward : Follows m b rest behind

pub parts : (m : ℕ) (a b : List Leveled) (rest ts : List Token) → Follows m (a ++ b) rest ts
    → Parts m a b rest ts
parts m [] b rest ts h = record { behind = ts; front = refl; onward = h }
parts m (x ∷ a) b rest [] h = absurd h
parts m (x ∷ a) b rest (t ∷ ts) h = go (less_or x.level m) (λ low. parts m a b rest ts (h.1 low))
  where
    go : (x.level < m) ⊎ (m ≤ x.level) → (x.level < m → Parts m a b rest ts)
        → Parts m (x ∷ a) b rest (t ∷ ts)
    go (inl low) later = let w = later low in record { behind = w.behind; front = (h.0, λ l. w.front); onward = w.onward }
    go (inr high) later = record { behind = tokens_of b ++ rest; front = (h.0, λ l. absurd (omega arith)); onward = follows_itself m b rest }

-- the same at a token
pub record Cut (m : ℕ) (a : List Leveled) (x : Leveled) (b : List Leveled) (rest ts : List Token) : Type 0 where
  pub behind : List Token
  pub front : Follows m a (x.token ∷ behind) ts
  pub onward : x.level < m → Follows m b rest behind

cut_here : (m : ℕ) (a : List Leveled) (x : Leveled) (b : List Leveled) (rest ts us : List Token)
    → Follows m a us ts → Follows m (x ∷ b) rest us → Cut m a x b rest ts
cut_here m a x b rest ts [] h i = absurd i
cut_here m a x b rest ts (u ∷ us) h i = record { behind = us; front = subst (λ t. Follows m a (t ∷ us) ts) i.0 h; onward = i.1 }

pub cut : (m : ℕ) (a : List Leveled) (x : Leveled) (b : List Leveled) (rest ts : List Token)
    → Follows m (a ++ x ∷ b) rest ts → Cut m a x b rest ts
cut m a x b rest ts h = let w = parts m a (x ∷ b) rest ts h in cut_here m a x b rest ts w.behind w.front w.onward

allowed_bind : {X Y : Type 0} (r : ℕ) (p : Place) (o : Outcome X) (f : X × List Token → Outcome Y)
    → (allowed r p o >>= f) ≡ allowed r p (o >>= f)
allowed_bind zero p o f = refl
allowed_bind (suc r) p o f = refl

through_bind : {X Y : Type 0} (m : ℕ) (a : List Leveled) (o : Outcome X)
    (f : X × List Token → Outcome Y) → (through m a o >>= f) ≡ through m a (o >>= f)
through_bind m [] o f = refl
through_bind m (x ∷ a) o f = allowed_bind (m - x.level) x.token.place (through m a o) f ∙ ap (allowed (m - x.level) x.token.place) (through_bind m a o f)

pub join : {X : Type 0} (m : ℕ) (a b : List Leveled) (o : Outcome X)
    → through m a (through m b o) ≡ through m (a ++ b) o
join m [] b o = refl
join m (x ∷ a) b o = ap (allowed (m - x.level) x.token.place) (join m a b o)

pub follow : {X Y : Type 0} {q : Outcome X} {x : X} {us : List Token} {y : Outcome Y} (m : ℕ)
    (a : List Leveled) (f : X × List Token → Outcome Y) → q ≡ through m a (Ok (x, us))
    → f (x, us) ≡ y → (q >>= f) ≡ through m a y
follow {x = x} {us = us} m a f e g = ap (λ o. o >>= f) e ∙ through_bind m a (Ok (x, us)) f ∙ ap (through m a) g

pub follow_on : {X Y : Type 0} {q : Outcome X} {x : X} {us : List Token} (m : ℕ)
    (a b : List Leveled) (f : X × List Token → Outcome Y) (o : Outcome Y)
    → q ≡ through m a (Ok (x, us)) → f (x, us) ≡ through m b o → (q >>= f) ≡ through m (a ++ b) o
follow_on m a b f o e g = follow m a f e g ∙ join m a b o

pub take_goes : {Y : Type 0} (r m : ℕ) (x : Leveled) (b : List Leveled) (us : List Token)
    (f : Token × List Token → Outcome Y) (o : Outcome Y) → r ≡ m - x.level
    → (x.level < m → f (x.token, us) ≡ through m b o)
    → (take r (x.token ∷ us) >>= f) ≡ through m (x ∷ b) o
take_goes zero m x b us f o e h = ap (λ r. allowed r x.token.place (through m b o)) e
take_goes (suc r) m x b us f o e h = h (omega arith) ∙ ap (λ r. allowed r x.token.place (through m b o)) e

-- behind the last token of what was read, if there was room for it
pub allowed_under : {X : Type 0} (r : ℕ) (p : Place) (o o' : Outcome X) → (0 < r → o ≡ o')
    → allowed r p o ≡ allowed r p o'
allowed_under zero p o o' h = refl
allowed_under (suc r) p o o' h = h (omega arith)

pub under : {X : Type 0} (m : ℕ) (a : List Leveled) (x : Leveled) (o o' : Outcome X)
    → (AreBelow m a → x.level < m → o ≡ o') → through m (a ++ x ∷ []) o ≡ through m (a ++ x ∷ []) o'
under m [] x o o' h = allowed_under (m - x.level) x.token.place o o' (λ some. h tt (omega arith))
under m (y ∷ a) x o o' h = allowed_under (m - y.level) y.token.place _ _ (λ some. under m a x o o' (λ low. h (omega arith, low)))

pub all_of : (m : ℕ) (a : List Leveled) (us ts : List Token) → AreBelow m a → Follows m a us ts
    → ts ≡ tokens_of a ++ us
all_of m [] us ts low h = h
all_of m (x ∷ a) us [] low h = absurd h
all_of m (x ∷ a) us (t ∷ ts) low h = ap₂ ◌∷◌ h.0 (all_of m a us ts low.1 (h.1 low.0))

pub through_all : {X : Type 0} (m : ℕ) (a : List Leveled) (o : Outcome X) → AreBelow m a
    → through m a o ≡ o
through_all m [] o h = refl
through_all m (x ∷ a) o h =
    let below : x.level < m = h.0 in
    let some : m - x.level ≡ suc (m - x.level - 1) = omega arith in
    ap (λ r. allowed r x.token.place (through m a o)) some ∙ through_all m a o h.1

-- the first token of a rule is above the level of what is open outside, and begins an expression
pub record Raised (l : ℕ) (a : List Leveled) : Type 0 where
  pub head : Leveled
  pub tail : List Leveled
  pub splits : a ≡ head ∷ tail
  pub above : l ≤ head.level
  pub starts : begins head.token.kind ≡ true

pub raised_append : {l : ℕ} {a : List Leveled} (b : List Leveled) → Raised l a → Raised l (a ++ b)
raised_append b h = record { head = h.head; tail = h.tail ++ b; splits = ap (λ c. c ++ b) h.splits; above = h.above; starts = h.starts }

pub raised_less : {l : ℕ} {a : List Leveled} → Raised (suc l) a → Raised l a
raised_less h = record { head = h.head; tail = h.tail; splits = h.splits; above = let above = h.above in omega arith; starts = h.starts }

pub first_is : (m : ℕ) (x : Leveled) (a : List Leveled) (rest ts : List Token)
    → Follows m (x ∷ a) rest ts → (us : List Token) × (ts ≡ x.token ∷ us)
first_is m x a rest [] h = absurd h
first_is m x a rest (t ∷ ts) h = (ts, ap (λ u. u ∷ ts) h.0)

pub raised_kind : {l : ℕ} {a : List Leveled} (m : ℕ) (rest ts : List Token) → Raised l a
    → Follows m a rest ts → begins (kind_of ts) ≡ true
raised_kind m rest ts h i =
    let w = first_is m h.head h.tail rest ts (subst (λ c. Follows m c rest ts) h.splits i) in
    ap (λ us. begins (kind_of us)) w.1 ∙ h.starts

no_room : {X : Type 0} (m l : ℕ) (a : List Leveled) (rest ts : List Token) (o : Outcome X)
    → Raised (suc l) a → Follows m a rest ts → m ≤ l → Err (fault_at_start ts) ≡ through m a o
no_room {X = X} m l a rest ts o h i none =
    let w = first_is m h.head h.tail rest ts (subst (λ c. Follows m c rest ts) h.splits i) in
    let above = h.above in
    let zero_room : 0 ≡ m - h.head.level = omega arith in
    let at_start : ◌≡◌ {A = Outcome X} (Err (fault_at_start ts)) (Err (TooDeep h.head.token.place)) =
    ap (λ us. Err (fault_at_start us)) w.1 ∙ ap (λ (b : Bool). Err (if b then TooDeep h.head.token.place else Unexpected h.head.token.place)) h.starts in
    at_start ∙ ap (λ r. allowed r h.head.token.place (through m h.tail o)) zero_room ∙ ap (λ c. through m c o) (sym h.splits)

-- a rule that has room is open
pub enter : {a : List Leveled} (m l f r : ℕ) (which : Rule) (rest ts : List Token)
    (o : Outcome Expr) → Raised (suc l) a → r ≡ m - l → r ≤ f → Follows m a rest ts
    → (0 < r → inside (rule (f - 1)) which (r - 1) ts ≡ through m a o) → rule f which r ts ≡ through m a o
enter {a = a} m l f zero which rest ts o h room deep i onward = open_.stops f which zero ts (inr refl) ∙ no_room m l a rest ts o h i (omega arith)
enter m l f (suc r) which rest ts o h room deep i onward = open_.opens f which (suc r) ts (omega arith) (omega arith) ∙ onward (omega arith)
