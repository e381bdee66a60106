-- A reader takes what is spelled, up to its first token whose level is too high, and goes on as another, where what follows is fit.
use Rattle.std.proofs.Common.{◌≡◌, ◌<◌, ◌≤◌, ◌+◌, ◌-◌, ℕ, suc, List, [], ◌∷◌, ◌++◌, length, Ok, refl, sym, ap, ◌∙◌, subst, arith, append_assoc, length-append, inl, inr, ◌⊎◌}
use Rattle.c_tree.specs.declared.place.Place.{Place}
use Rattle.c_token.specs.declared.token.Token.{Token}
use Rattle.c_expr.specs.Leveled.{Leveled, tokens_of, AreBelow}
use Rattle.c_expr.specs.Next.{Outcome, ◌>>=◌, place_of, take}
use Rattle.c_expr.specs.private.ExpressionReading.{turn, turns}
use Rattle.c_expr.proofs.Through.{Follows, through, allowed_under, parts, join, follow, take_goes, all_of, first_is}
use Rattle.c_expr.proofs.Complete.{pred_suc}

pub record Takes {X : Type 0} (m : ℕ) (Fit : List Token → Type 0) (a : List Leveled) (reader onward : List Token → Outcome X) : Type 0 where
  pub goes : (rest ts : List Token) → Fit rest → Follows m a rest ts
      → reader ts ≡ through m a (onward rest)

-- whatever follows
abbrev pub Any : List Token → Type 0
Any ts = Unit {0}

-- Nothing more is spelled
pub here : {X : Type 0} {m : ℕ} {C : List Token → Type 0} {q o : List Token → Outcome X}
    → ((us : List Token) → C us → q us ≡ o us) → Takes m C [] q o
here {q = q} h = record { goes = λ rest ts fit e. ap q e ∙ h rest fit }

-- What is fit in front of a spelling
pub record Fits (m : ℕ) (D : List Token → Type 0) (b : List Leveled) (C : List Token → Type 0) : Type 0 where
  pub fit : (us ts : List Token) → D us → Follows m b us ts → C ts

pub free : {m : ℕ} {D : List Token → Type 0} {b : List Leveled} → Fits m D b Any
free = record { fit = λ us ts fit i. tt }

-- one spelling and then another
pub and_then : {X : Type 0} {m : ℕ} {C D : List Token → Type 0} {a b : List Leveled}
    {q p o : List Token → Outcome X} → Takes m C a q p → Fits m D b C → Takes m D b p o
    → Takes m D (a ++ b) q o
and_then {m = m} {a = a} {b = b} {o = o} h fits i = record {
  goes = λ rest ts fit f.
      let w = parts m a b rest ts f in
      h.goes w.behind ts (fits.fit rest w.behind fit w.onward) w.front ∙ ap (through m a) (i.goes rest w.behind fit w.onward) ∙ join m a b (o rest);
}

-- a reader, and what is done with its value
bound : {X Y : Type 0} {m : ℕ} {C : List Token → Type 0} {a : List Leveled} {x : X}
    {q : List Token → Outcome X} (f : X × List Token → Outcome Y)
    → Takes m C a q (λ us. Ok (x, us)) → Takes m C a (λ ts. q ts >>= f) (λ us. f (x, us))
bound {m = m} {a = a} f h = record { goes = λ rest ts fit i. follow m a f (h.goes rest ts fit i) refl }

pub bind : {X Y : Type 0} {m : ℕ} {C D : List Token → Type 0} {a b : List Leveled} {x : X}
    {q : List Token → Outcome X} {o : List Token → Outcome Y} (f : X × List Token → Outcome Y)
    → Takes m C a q (λ us. Ok (x, us)) → Fits m D b C → Takes m D b (λ us. f (x, us)) o → Takes m D (a ++ b) (λ ts. q ts >>= f) o
bind f h fits i = and_then (bound f h) fits i

-- A token in front
pub next_fits : {m : ℕ} {C D : List Token → Type 0} {b : List Leveled} (x : Leveled)
    → ((us : List Token) → C (x.token ∷ us)) → Fits m D (x ∷ b) C
next_fits {m = m} {C = C} {b = b} x h = record { fit = λ us ts fit i. let w = first_is m x b us ts i in subst C (sym w.1) (h w.0) }

-- up to a token
pub before : {X Y : Type 0} {m : ℕ} {C D : List Token → Type 0} {a b : List Leveled} {x : X}
    {q : List Token → Outcome X} {o : List Token → Outcome Y} (f : X × List Token → Outcome Y)
    (t : Leveled)
    → Takes m C a q (λ us. Ok (x, us)) → ((us : List Token) → C (t.token ∷ us)) → Takes m D (t ∷ b) (λ us. f (x, us)) o → Takes m D (a ++ t ∷ b) (λ ts. q ts >>= f) o
before f t h fits i = bind f h (next_fits t fits) i

-- a reader that also takes the token that closes what it reads
pub past : {X Y : Type 0} {m : ℕ} {D : List Token → Type 0} {b : List Leveled} {x : X}
    {q : List Token → Outcome X} {o : List Token → Outcome Y} (f : X × List Token → Outcome Y)
    (a : List Leveled) (t : Leveled)
    → Takes m Any (a ++ t ∷ []) q (λ us. Ok (x, us)) → Takes m D b (λ us. f (x, us)) o → Takes m D (a ++ t ∷ b) (λ ts. q ts >>= f) o
past {m = m} {D = D} {b = b} {q = q} {o = o} f a t h i = subst (λ c. Takes m D c (λ ts. q ts >>= f) o) (append_assoc a (t ∷ []) b) (bind f h free i)

-- a reader that is the last
pub last : {X Y : Type 0} {m : ℕ} {C D : List Token → Type 0} {a : List Leveled} {x : X}
    {q : List Token → Outcome X} {o : List Token → Outcome Y} (f : X × List Token → Outcome Y)
    → Takes m C a q (λ us. Ok (x, us)) → ((us : List Token) → D us → C us) → ((us : List Token) → D us → f (x, us) ≡ o us) → Takes m D a (λ ts. q ts >>= f) o
last {m = m} {a = a} f h fits e = record { goes = λ rest ts fit i. follow m a f (h.goes rest ts (fits rest fit) i) (e rest fit) }

-- a token that the room bounds
pub token : {X : Type 0} {m : ℕ} {D : List Token → Type 0} {b : List Leveled}
    {o : List Token → Outcome X} (x : Leveled) (r : ℕ) (q : List Token → Outcome X)
    (f : Token × List Token → Outcome X)
    → r ≡ m - x.level → ((us : List Token) → q (x.token ∷ us) ≡ (take r (x.token ∷ us) >>= f)) → Takes m D b (λ us. f (x.token, us)) o → Takes m D (x ∷ b) q o
token {X = X} {m = m} {D = D} {b = b} {o = o} x r q f room opens i = record { goes = go }
  where
    go : (rest ts : List Token) → D rest → Follows m (x ∷ b) rest ts
        → q ts ≡ through m (x ∷ b) (o rest)
    go rest [] fit h = absurd h
    go rest (t ∷ ts) fit h = ap (λ t. q (t ∷ ts)) h.0 ∙ opens ts ∙ take_goes r m x b ts f (o rest) room (λ low. i.goes rest ts fit (h.1 low))

pub regroup : {X : Type 0} {m : ℕ} {D : List Token → Type 0} {a b : List Leveled}
    {q o : List Token → Outcome X} → a ≡ b → Takes m D a q o → Takes m D b q o
regroup {m = m} {D = D} {q = q} {o = o} e h = subst (λ c. Takes m D c q o) e h

-- goes on as another where what follows is fit
pub settle : {X : Type 0} {m : ℕ} {C D : List Token → Type 0} {a : List Leveled}
    {q p o : List Token → Outcome X} → Takes m C a q p → ((us : List Token) → D us → C us)
    → ((us : List Token) → D us → p us ≡ o us) → Takes m D a q o
settle {m = m} {a = a} h fits e = record { goes = λ rest ts fit i. h.goes rest ts (fits rest fit) i ∙ ap (through m a) (e rest fit) }

-- two readers that are the same on what is so spelled
pub read_as : {X : Type 0} {m : ℕ} {D : List Token → Type 0} {a : List Leveled}
    {q p o : List Token → Outcome X}
    → ((rest ts : List Token) → D rest → Follows m a rest ts → q ts ≡ p ts) → Takes m D a p o
    → Takes m D a q o
read_as e h = record { goes = λ rest ts fit i. e rest ts fit i ∙ h.goes rest ts fit i }

-- by the place of the first token
pub placed : {X : Type 0} {m : ℕ} {D : List Token → Type 0} {a : List Leveled}
    {o : List Token → Outcome X} (x : Leveled) (q : Place → List Token → Outcome X)
    → Takes m D (x ∷ a) (q x.token.place) o → Takes m D (x ∷ a) (λ ts. q (place_of ts) ts) o
placed {m = m} {a = a} x q h = read_as (λ rest ts fit i. let w = first_is m x a rest ts i in ap (λ us. q (place_of us) ts) w.1) h

-- by any place
pub anywhere : {X : Type 0} {m : ℕ} {D : List Token → Type 0} {a : List Leveled}
    {o : List Token → Outcome X} (q : Place → List Token → Outcome X)
    → ((p : Place) → Takes m D a (q p) o) → Takes m D a (λ ts. q (place_of ts) ts) o
anywhere q h = record { goes = λ rest ts fit i. (h (place_of ts)).goes rest ts fit i }

-- where the first token is known
pub at_token : {X : Type 0} {m : ℕ} {D : List Token → Type 0} {a : List Leveled}
    {q p o : List Token → Outcome X} (x : Leveled)
    → ((us : List Token) → q (x.token ∷ us) ≡ p (x.token ∷ us)) → Takes m D (x ∷ a) p o
    → Takes m D (x ∷ a) q o
at_token {m = m} {a = a} {q = q} {p = p} x e h = read_as (λ rest ts fit i. let w = first_is m x a rest ts i in ap q w.1 ∙ e w.0 ∙ ap p (sym w.1)) h

-- What holds of tokens that are so spelled
pub record Starts (m : ℕ) (a : List Leveled) (C : List Token → Type 0) : Type 0 where
  pub start : (us ts : List Token) → Follows m a us ts → C ts

pub starts_append : {m : ℕ} {a : List Leveled} {C : List Token → Type 0} (b : List Leveled)
    → Starts m a C → Starts m (a ++ b) C
starts_append {m = m} {a = a} b h = record { start = λ us ts i. let w = parts m a b us ts i in h.start w.behind ts w.front }

pub starts_token : {m : ℕ} {C : List Token → Type 0} {a : List Leveled} (x : Leveled)
    → ((us : List Token) → C (x.token ∷ us)) → Starts m (x ∷ a) C
starts_token {m = m} {C = C} {a = a} x h = record { start = λ us ts i. let w = first_is m x a us ts i in subst C (sym w.1) (h w.0) }

-- in front of nothing
pub no_more : {m : ℕ} {C D : List Token → Type 0} → ((us : List Token) → D us → C us)
    → Fits m D [] C
no_more {C = C} h = record { fit = λ us ts fit e. subst C (sym e) (h us fit) }

-- A loop that has as many turns as tokens, or more
pub record TakesTurns {X : Type 0} (m : ℕ) (Fit : List Token → Type 0) (a : List Leveled) (reader : ℕ → List Token → Outcome X) (onward : List Token → Outcome X) : Type 0 where
  pub goes : (n : ℕ) (rest ts : List Token) → length ts ≤ n → Fit rest → Follows m a rest ts
      → reader n ts ≡ through m a (onward rest)

pub looped : {X : Type 0} {m : ℕ} {D : List Token → Type 0} {a : List Leveled}
    {o : List Token → Outcome X} (q : ℕ → List Token → Outcome X) → TakesTurns m D a q o
    → Takes m D a (λ ts. q (length ts) ts) o
looped q h = record { goes = λ rest ts fit i. h.goes (length ts) rest ts (omega arith) fit i }

pub regroup_turns : {X : Type 0} {m : ℕ} {D : List Token → Type 0} {a b : List Leveled}
    {q : ℕ → List Token → Outcome X} {o : List Token → Outcome X} → a ≡ b → TakesTurns m D a q o
    → TakesTurns m D b q o
regroup_turns {m = m} {D = D} {q = q} {o = o} e h = subst (λ c. TakesTurns m D c q o) e h

-- the same list found, grouped otherwise
pub regather : {A : Type 0} {m : ℕ} {D : List Token → Type 0} {a : List Leveled}
    {q : ℕ → List Token → Outcome (List A)} {xs ys : List A} → xs ≡ ys
    → TakesTurns m D a q (λ us. Ok (xs, us)) → TakesTurns m D a q (λ us. Ok (ys, us))
regather {m = m} {D = D} {a = a} {q = q} e h = subst (λ zs. TakesTurns m D a q (λ us. Ok (zs, us))) e h

-- behind what was read, if there was room for it
beneath : {X : Type 0} (m : ℕ) (a : List Leveled) (o o' : Outcome X) → (AreBelow m a → o ≡ o')
    → through m a o ≡ through m a o'
beneath m [] o o' h = h tt
beneath m (x ∷ a) o o' h = allowed_under (m - x.level) x.token.place _ _ (λ some. beneath m a o o' (λ low. h (omega arith, low)))

length_tokens : (a : List Leveled) → length (tokens_of a) ≡ length a
length_tokens [] = refl
length_tokens (x ∷ a) = ap suc (length_tokens a)

some_tokens : (m : ℕ) (a : List Leveled) (rest ts : List Token) → 0 < length a
    → Follows m a rest ts → 0 < length ts
some_tokens m [] rest ts some h = absurd (omega arith)
some_tokens m (x ∷ a) rest [] some h = absurd h
some_tokens m (x ∷ a) rest (t ∷ ts) some h = omega arith

shorter : (m : ℕ) (a : List Leveled) (rest ts : List Token) (n : ℕ) → 0 < length a → AreBelow m a
    → Follows m a rest ts → length ts ≤ n → length rest ≤ n - 1
shorter m a rest ts n some low h most =
    let whole : length ts ≡ length (tokens_of a) + length rest = ap length (all_of m a rest ts low h) ∙ length-append (tokens_of a) rest in
    let same = length_tokens a in
    omega arith

-- one turn that goes on, and the others
pub turn_more : {A B : Type 0} {m : ℕ} {C D : List Token → Type 0} {a b : List Leveled} {next : A}
    {o : List Token → Outcome B} (step : A → List Token → Outcome (A ⊎ B)) (found : A)
    → 0 < length a → Takes m C a (step found) (λ us. Ok (inl next, us)) → Fits m D b C → TakesTurns m D b (λ n. turns step n next) o → TakesTurns m D (a ++ b) (λ n. turns step n found) o
turn_more {m = m} {a = a} {b = b} {next = next} {o = o} step found some h fits i = record {
  goes = λ n rest ts most fit f.
      let w = parts m a b rest ts f in
      let many = some_tokens m a w.behind ts some w.front in
      ap (λ n. turns step n found ts) (pred_suc n (omega arith))
      ∙ follow m a (turn (turns step (n - 1))) (h.goes w.behind ts (fits.fit rest w.behind fit w.onward) w.front) refl
      ∙ beneath m a (turns step (n - 1) next w.behind) (through m b (o rest)) (λ low. i.goes (n - 1) rest w.behind (shorter m a w.behind ts n some low w.front most) fit w.onward)
      ∙ join m a b (o rest);
}

-- the last turn
pub turn_last : {A B : Type 0} {m : ℕ} {D : List Token → Type 0} {a : List Leveled} {x : B}
    (step : A → List Token → Outcome (A ⊎ B)) (found : A)
    → 0 < length a → Takes m D a (step found) (λ us. Ok (inr x, us)) → TakesTurns m D a (λ n. turns step n found) (λ us. Ok (x, us))
turn_last {m = m} {a = a} step found some h = record {
  goes = λ n rest ts most fit f.
      let many = some_tokens m a rest ts some f in
      ap (λ n. turns step n found ts) (pred_suc n (omega arith))
      ∙ follow m a (turn (turns step (n - 1))) (h.goes rest ts fit f) refl;
}
