-- What holds of a reader: what it reads is so spelled, where it refuses what was read can be completed, and what it answers hangs on
-- what it read and on the next token alone, also with more room.
use Rattle.std.proofs.Common.{◌≡◌, ◌<◌, ◌≤◌, ◌-◌, ℕ, zero, suc, List, [], ◌∷◌, ◌++◌, Ok, Err, refl, sym, ap, ◌∙◌, subst, arith, append_assoc, append-nil, inl, inr, ◌⊎◌, Bool, true, false}
use Rattle.std.specs.Prelude.{if◌then◌else◌}
use Rattle.c_expr.specs.declared.fault.ParseFault.TheVariants.{Unexpected, TooDeep, OutOfMemory}
use Rattle.c_token.specs.declared.token.Token.{Token}
use Rattle.c_token.specs.declared.token.Kind.{Kind}
use Rattle.c_token.specs.declared.token.Kind.TheVariants as k
use Rattle.c_tree.specs.declared.place.Place.{Place}
use Rattle.c_expr.specs.Leveled.{Leveled, at, tokens_of}
use Rattle.c_expr.specs.Next.{Outcome, ◌>>=◌, kind_of, place_of, nowhere, refuse, take}

pub tokens_append : (a b : List Leveled) → tokens_of (a ++ b) ≡ tokens_of a ++ tokens_of b
tokens_append [] b = refl
tokens_append (x ∷ a) b = ap (λ us. x.token ∷ us) (tokens_append a b)

-- below the limit, and not the end of the text
abbrev pub AreLow : ℕ → List Leveled → Type 0
AreLow limit [] = Unit {0}
AreLow limit (x ∷ xs) = ((x.level < limit) × (x.token.kind ≡ k.End → ⊥)) × AreLow limit xs

pub low_append : (m : ℕ) (a b : List Leveled) → AreLow m a → AreLow m b → AreLow m (a ++ b)
low_append m [] b h g = g
low_append m (x ∷ a) b h g = (h.0, low_append m a b h.1 g)

-- the second list may stand in the place of the first behind what was read: it is empty, or begins with the same token
abbrev pub Looks : List Token → List Token → Type 0
Looks xs [] = Unit {0}
Looks [] (y ∷ ys) = ⊥
Looks (x ∷ xs) (y ∷ ys) = x ≡ y

pub looks_append : (c : List Token) (xs ys : List Token) → Looks xs ys → Looks (c ++ xs) (c ++ ys)
looks_append [] xs ys h = h
looks_append (x ∷ c) xs ys h = refl

pub record Reads {X I : Type 0} (m : ℕ) (P : List Leveled → X → List Token → Type 0) (q : I → List Token → Outcome X) (ts : List Token) (x : X) (rest : List Token) : Type 0 where
  pub read : List Leveled
  pub splits : ts ≡ tokens_of read ++ rest
  pub low : AreLow m read
  pub holds : P read x rest
  pub again : (i : I) (b : List Token) → Looks rest b → q i (tokens_of read ++ b) ≡ Ok (x, b)

pub record Refuses {X I : Type 0} (m : ℕ) (P : List Leveled → X → List Token → Type 0) (q : I → List Token → Outcome X) (ts : List Token) (p : Place) : Type 0 where
  pub read : List Leveled
  pub rest : List Token
  pub splits : ts ≡ tokens_of read ++ rest
  pub place : place_of rest ≡ p
  pub low : AreLow m read
  pub more : List Leveled
  pub value : X
  pub holds : P (read ++ more) value []
  pub again : (i : I) (b : List Token) → Looks rest b
      → q i (tokens_of read ++ b) ≡ Err (Unexpected (place_of b))

pub record Exceeds {X : Type 0} (m : ℕ) (P : List Leveled → X → List Token → Type 0) (ts : List Token) (p : Place) : Type 0 where
  pub read : List Leveled
  pub high : Leveled
  pub rest : List Token
  pub splits : ts ≡ tokens_of read ++ high.token ∷ rest
  pub place : high.token.place ≡ p
  pub low : AreLow m read
  pub is_high : m ≤ high.level
  pub more : List Leveled
  pub value : X
  pub holds : P (read ++ high ∷ more) value []

abbrev pub Law : {X I : Type 0} → ℕ → (List Leveled → X → List Token → Type 0)
    → (I → List Token → Outcome X) → List Token → Outcome X → Type 0
Law m P q ts (Ok x) = Reads m P q ts x.0 x.1
Law m P q ts (Err (Unexpected p)) = Refuses m P q ts p
Law m P q ts (Err (TooDeep p)) = Exceeds m P ts p
Law m P q ts (Err OutOfMemory) = ⊥

pub record Lawful {X I : Type 0} (m : ℕ) (P : List Leveled → X → List Token → Type 0) (q : I → List Token → Outcome X) (ts : List Token) (o : Outcome X) : Type 0 where
  pub law : Law m P q ts o

-- something is so spelled
pub record Some_of {X : Type 0} (P : List Leveled → X → List Token → Type 0) : Type 0 where
  pub spelling : List Leveled
  pub value : X
  pub holds : P spelling value []

-- What was refused, or stands too deep, is as well completed to another rule.
pub refuses_as : {X Y I : Type 0} {m : ℕ} {P : List Leveled → X → List Token → Type 0}
    {S : List Leveled → Y → List Token → Type 0} {q : I → List Token → Outcome X}
    (q' : I → List Token → Outcome Y) {ts : List Token} {p : Place} (h : Refuses m P q ts p)
    → Some_of (λ b y us. S (h.read ++ b) y us)
    → ((i : I) (b : List Token) → Looks h.rest b → q' i (tokens_of h.read ++ b) ≡ Err (Unexpected (place_of b)))
    → Refuses m S q' ts p
refuses_as q' h some again = record {
  read = h.read;
  rest = h.rest;
  splits = h.splits;
  place = h.place;
  low = h.low;
  more = some.spelling;
  value = some.value;
  holds = some.holds;
  again = again;
}

pub exceeds_as : {X Y : Type 0} {m : ℕ} {P : List Leveled → X → List Token → Type 0}
    {S : List Leveled → Y → List Token → Type 0} {ts : List Token} {p : Place}
    (h : Exceeds m P ts p) → Some_of (λ b y us. S (h.read ++ h.high ∷ b) y us) → Exceeds m S ts p
exceeds_as h some = record {
  read = h.read;
  high = h.high;
  rest = h.rest;
  splits = h.splits;
  place = h.place;
  low = h.low;
  is_high = h.is_high;
  more = some.spelling;
  value = some.value;
  holds = some.holds;
}

nothing_left : (xs ys : List Token) → [] ≡ xs ++ ys → ys ≡ []
nothing_left [] ys e = sym e
nothing_left (x ∷ xs) ys e = cc

some_by : {X I : Type 0} (m : ℕ) (P : List Leveled → X → List Token → Type 0)
    (q : I → List Token → Outcome X) (o : Outcome X) → Law m P q [] o → Some_of P
some_by m P q (Ok x) h = record { spelling = h.read; value = x.0; holds = subst (P h.read x.0) (nothing_left (tokens_of h.read) x.1 h.splits) h.holds }
some_by m P q (Err (Unexpected p)) h = record { spelling = h.read ++ h.more; value = h.value; holds = h.holds }
some_by m P q (Err (TooDeep p)) h = record { spelling = h.read ++ h.high ∷ h.more; value = h.value; holds = h.holds }
some_by m P q (Err OutOfMemory) h = absurd h

pub some_of : {X I : Type 0} {m : ℕ} {P : List Leveled → X → List Token → Type 0}
    {q : I → List Token → Outcome X} {o : Outcome X} → Lawful m P q [] o → Some_of P
some_of {m = m} {P = P} {q = q} {o = o} h = some_by m P q o h.law

-- where what follows does not matter
abbrev pub plain : {X : Type 0} → (List Leveled → X → Type 0) → List Leveled → X → List Token
    → Type 0
plain P a x us = P a x

pub joined : (a c : List Leveled) (b : List Token)
    → tokens_of (a ++ c) ++ b ≡ tokens_of a ++ (tokens_of c ++ b)
joined a c b = ap (λ us. us ++ b) (tokens_append a c) ∙ append_assoc (tokens_of a) (tokens_of c) b

-- what was read before
module _ {X I : Type 0} (m : ℕ) (S : List Leveled → X → List Token → Type 0) (q g : I → List Token → Outcome X) (a : List Leveled) (ts rest : List Token)
    (splits : ts ≡ tokens_of a ++ rest) (low : AreLow m a) (onward : (i : I) (b : List Token) → Looks rest b → q i (tokens_of a ++ b) ≡ g i b) where
  pub goes : (i : I) (c : List Leveled) (us b : List Token) → rest ≡ tokens_of c ++ us → Looks us b
      → q i (tokens_of (a ++ c) ++ b) ≡ g i (tokens_of c ++ b)
  goes i c us b e h = ap (q i) (joined a c b) ∙ onward i (tokens_of c ++ b) (subst (λ vs. Looks vs (tokens_of c ++ b)) (sym e) (looks_append (tokens_of c) us b h))

  pub whole : (c : List Leveled) (us : List Token) → rest ≡ tokens_of c ++ us
      → ts ≡ tokens_of (a ++ c) ++ us
  whole c us e = splits ∙ ap (λ vs. tokens_of a ++ vs) e ∙ sym (joined a c us)

  pub after : (o : Outcome X) → Law m (λ b y us. S (a ++ b) y us) g rest o → Law m S q ts o
  after (Ok x) h = record {
    read = a ++ h.read;
    splits = whole h.read x.1 h.splits;
    low = low_append m a h.read low h.low;
    holds = h.holds;
    again = λ i b l. goes i h.read x.1 b h.splits l ∙ h.again i b l;
  }
  after (Err (Unexpected p)) h = record {
    read = a ++ h.read;
    rest = h.rest;
    splits = whole h.read h.rest h.splits;
    place = h.place;
    low = low_append m a h.read low h.low;
    more = h.more;
    value = h.value;
    holds = subst (λ c. S c h.value []) (sym (append_assoc a h.read h.more)) h.holds;
    again = λ i b l. goes i h.read h.rest b h.splits l ∙ h.again i b l;
  }
  after (Err (TooDeep p)) h = record {
    read = a ++ h.read;
    high = h.high;
    rest = h.rest;
    splits = whole h.read (h.high.token ∷ h.rest) h.splits;
    place = h.place;
    low = low_append m a h.read low h.low;
    is_high = h.is_high;
    more = h.more;
    value = h.value;
    holds = subst (λ c. S c h.value []) (sym (append_assoc a h.read (h.high ∷ h.more))) h.holds;
  }
  after (Err OutOfMemory) h = absurd h

-- the tokens are cut there, or what follows is missing
abbrev pub Cut : List Token → List Leveled → List Token → Type 0
Cut ts a rest = (rest ≡ []) ⊎ (ts ≡ tokens_of a ++ rest)

pub bind_law : {X Y I : Type 0} {m : ℕ} {P : List Leveled → X → List Token → Type 0}
    {S : List Leveled → Y → List Token → Type 0} {q : I → List Token → Outcome X} {ts : List Token}
    {o : Outcome X} (g : I → X × List Token → Outcome Y) (f : X × List Token → Outcome Y)
    → Lawful m P q ts o → ((x : X) (rest : List Token) (a : List Leveled) → P a x rest → Cut ts a rest → Lawful m (λ b y us. S (a ++ b) y us) (λ i b. g i (x, b)) rest (f (x, rest)))
    → Lawful m S (λ i b. q i b >>= g i) ts (o >>= f)
bind_law {m = m} {P = P} {S = S} {q = q} {ts = ts} {o = o} g f h next = record { law = go o h.law }
  where
    go : (o : Outcome _) → Law m P q ts o → Law m S (λ i b. q i b >>= g i) ts (o >>= f)
    go (Ok x) h = after m S (λ i b. q i b >>= g i) (λ i b. g i (x.0, b)) h.read ts x.1 h.splits h.low (λ i b l. ap (λ r. r >>= g i) (h.again i b l)) (f x) (next x.0 x.1 h.read h.holds (inr h.splits)).law
    go (Err (Unexpected p)) h = let more = some_of (next h.value [] (h.read ++ h.more) h.holds (inl refl)) in refuses_as (λ i b. q i b >>= g i) h (record {
      spelling = h.more ++ more.spelling;
      value = more.value;
      holds = subst (λ c. S c more.value []) (append_assoc h.read h.more more.spelling) more.holds;
    }) (λ i b l. ap (λ r. r >>= g i) (h.again i b l))
    go (Err (TooDeep p)) h = let more = some_of (next h.value [] (h.read ++ h.high ∷ h.more) h.holds (inl refl)) in exceeds_as h (record {
      spelling = h.more ++ more.spelling;
      value = more.value;
      holds = subst (λ c. S c more.value []) (append_assoc h.read (h.high ∷ h.more) more.spelling) more.holds;
    })
    go (Err OutOfMemory) h = absurd h

-- A reader that answers as another does on what that has read, by a rule that has what that one's has.
pub carry : {X I : Type 0} {m : ℕ} {P : List Leveled → X → List Token → Type 0}
    (Q : List Leveled → X → List Token → Type 0) {q : I → List Token → Outcome X}
    (q' : I → List Token → Outcome X) {ts : List Token} {o : Outcome X}
    → ((b : List Leveled) (y : X) (us : List Token) → P b y us → Q b y us)
    → ((i : I) (a : List Leveled) (rest b : List Token) → ts ≡ tokens_of a ++ rest → Looks rest b → q' i (tokens_of a ++ b) ≡ q i (tokens_of a ++ b))
    → Lawful m P q ts o → Lawful m Q q' ts o
carry {m = m} {P = P} Q {q = q} q' {ts = ts} {o = o} into same h = record { law = go o h.law }
  where
    go : (o : Outcome _) → Law m P q ts o → Law m Q q' ts o
    go (Ok x) h = record { read = h.read; splits = h.splits; low = h.low; holds = into h.read x.0 x.1 h.holds; again = λ i b l. same i h.read x.1 b h.splits l ∙ h.again i b l }
    go (Err (Unexpected p)) h = refuses_as q' h (record { spelling = h.more; value = h.value; holds = into (h.read ++ h.more) h.value [] h.holds }) (λ i b l. same i h.read h.rest b h.splits l ∙ h.again i b l)
    go (Err (TooDeep p)) h = exceeds_as h (record { spelling = h.more; value = h.value; holds = into (h.read ++ h.high ∷ h.more) h.value [] h.holds })
    go (Err OutOfMemory) h = absurd h

pub weaken : {X I : Type 0} {m : ℕ} {P : List Leveled → X → List Token → Type 0}
    (Q : List Leveled → X → List Token → Type 0) {q : I → List Token → Outcome X}
    (q' : I → List Token → Outcome X) {ts : List Token} {o : Outcome X}
    → ((b : List Leveled) (y : X) (us : List Token) → P b y us → Q b y us) → ((i : I) (b : List Token) → q i b ≡ q' i b) → Lawful m P q ts o → Lawful m Q q' ts o
weaken Q q' into same h = carry Q q' into (λ i a rest b e l. sym (same i (tokens_of a ++ b))) h

pub pure_law : {Y I : Type 0} {m : ℕ} {S : List Leveled → Y → List Token → Type 0} (y : Y)
    (ts : List Token) → S [] y ts → Lawful {I = I} m S (λ i b. Ok (y, b)) ts (Ok (y, ts))
pure_law y ts holds = record { law = record { read = []; splits = refl; low = tt; holds = holds; again = λ i b l. refl } }

pub ended : {Y : Type 0} (S : List Leveled → Y → Type 0) {b : List Leveled} {y : Y} → S b y
    → S (b ++ []) y
ended S {b = b} {y = y} h = subst (λ c. S c y) (sym (append-nil b)) h

-- Nothing more is read.
pub stop_law : {Y I : Type 0} {m : ℕ} {S : List Leveled → Y → List Token → Type 0}
    (body : I → Kind → List Token → Outcome Y) (kind : Kind) (ts : List Token) (y : Y)
    → kind_of ts ≡ kind → S [] y ts → ((i : I) (b : List Token) → body i kind b ≡ Ok (y, b)) → ((i : I) → body i k.End [] ≡ Ok (y, []))
    → Lawful m S (λ i b. body i (kind_of b) b) ts (Ok (y, ts))
stop_law {S = S} body kind ts y is holds here at_end = record {
  law = record {
    read = [];
    splits = refl;
    low = tt;
    holds = holds;
    again = λ i b l. go i ts b l is;
  };
}
  where
    go : (i : _) (ts b : List Token) → Looks ts b → kind_of ts ≡ kind
        → body i (kind_of b) b ≡ Ok (y, b)
    go i ts [] l is = at_end i
    go i [] (x ∷ b) l is = absurd l
    go i (t ∷ ts) (x ∷ b) l is = subst (λ c. body i c (x ∷ b) ≡ Ok (y, x ∷ b)) (sym is ∙ ap (λ (u : Token). u.kind) l) (here i (x ∷ b))

-- The next token is refused, whatever is left.
refused_here : {Y I : Type 0} {m : ℕ} {S : List Leveled → Y → List Token → Type 0}
    (q : I → List Token → Outcome Y) (ts : List Token) → Some_of S
    → ((i : I) (b : List Token) → Looks ts b → q i b ≡ refuse b) → Lawful m S q ts (refuse ts)
refused_here q ts some again = record {
  law = record {
    read = [];
    rest = ts;
    splits = refl;
    place = refl;
    low = tt;
    more = some.spelling;
    value = some.value;
    holds = some.holds;
    again = again;
  };
}

-- The next token is refused.
pub refuse_law : {Y I : Type 0} {m : ℕ} {S : List Leveled → Y → List Token → Type 0}
    (body : I → Kind → List Token → Outcome Y) (kind : Kind) (ts : List Token)
    → kind_of ts ≡ kind → Some_of S → ((i : I) (b : List Token) → body i kind b ≡ refuse b) → ((i : I) → body i k.End [] ≡ refuse [])
    → Lawful m S (λ i b. body i (kind_of b) b) ts (refuse ts)
refuse_law {S = S} body kind ts is some here at_end = refused_here (λ i b. body i (kind_of b) b) ts some (λ i b l. go i ts b l is)
  where
    go : (i : _) (ts b : List Token) → Looks ts b → kind_of ts ≡ kind
        → body i (kind_of b) b ≡ refuse b
    go i ts [] l is = at_end i
    go i [] (x ∷ b) l is = absurd l
    go i (t ∷ ts) (x ∷ b) l is = subst (λ c. body i c (x ∷ b) ≡ refuse (x ∷ b)) (sym is ∙ ap (λ (u : Token). u.kind) l) (here i (x ∷ b))

-- Nothing may be opened any more: the next token is too deep where it begins something, and else refused.
pub unopened_law : {Y I : Type 0} {m : ℕ} {S : List Leveled → Y → List Token → Type 0}
    (q : I → List Token → Outcome Y) (begins : Kind → Bool) (l : ℕ) (ts : List Token) (b : Bool)
    → begins (kind_of ts) ≡ b → begins k.End ≡ false → 0 ≡ m - l
    → ((p : Place) (kind : Kind) → begins kind ≡ true → (high : ℕ) × (l < high) × Some_of (λ c y us. S (at high kind p ∷ c) y us))
    → Some_of S
    → ((i : I) (b : List Token) → begins (kind_of b) ≡ false → q i b ≡ refuse b)
    → Lawful m S q ts (Err (if b then TooDeep (place_of ts) else Unexpected (place_of ts)))
unopened_law q begins l [] true e none room begin some refuses = absurd (let no : false ≡ true = sym none ∙ e in cc)
unopened_law q begins l (t ∷ ts) true e none room begin some refuses =
    let w = begin t.place t.kind e in
    record {
      law = record {
        read = [];
        high = at w.0 t.kind t.place;
        rest = ts;
        splits = refl;
        place = refl;
        low = tt;
        is_high = let less = w.1 in omega arith;
        more = w.2.spelling;
        value = w.2.value;
        holds = w.2.holds;
      };
    }
unopened_law {I = I} q begins l ts false e none room begin some refuses =
    refused_here q ts some (λ i. go i ts e)
  where
    go : (i : I) (ts : List Token) → begins (kind_of ts) ≡ false → (b : List Token) → Looks ts b
        → q i b ≡ Err (Unexpected (place_of b))
    go i ts e [] l = refuses i [] none
    go i [] e (y ∷ b) l = absurd l
    go i (t ∷ ts) e (y ∷ b) l = refuses i (y ∷ b) (ap (λ (u : Token). begins u.kind) (sym l) ∙ e)

-- A token is taken, but its level is too high.
pub deep_law : {Y I : Type 0} {S : List Leveled → Y → List Token → Type 0}
    {q : I → List Token → Outcome Y} (f : Token × List Token → Outcome Y) (m l : ℕ) (kind : Kind)
    (ts : List Token)
    → 0 ≡ m - l → kind_of ts ≡ kind → (kind ≡ k.End → ⊥) → ((p : Place) → Some_of (λ b y us. S (at l kind p ∷ b) y us))
    → Lawful m S q ts (take zero ts >>= f)
deep_law f m l kind [] room is some next = absurd (some (sym is))
deep_law {S = S} f m l kind (t ∷ ts) room is some next =
    let w = next t.place in
    record {
      law = record {
        read = [];
        high = at l kind t.place;
        rest = ts;
        splits = ap (λ c. record { kind = c; place = t.place } ∷ ts) is;
        place = refl;
        low = tt;
        is_high = omega arith;
        more = w.spelling;
        value = w.value;
        holds = w.holds;
      };
    }

pub take_some : (r : ℕ) (t : Token) (b : List Token) → 0 < r → take r (t ∷ b) ≡ Ok (t, b)
take_some zero t b h = absurd (omega arith)
take_some (suc r) t b h = refl

-- A token is taken, at this level.
pub take_law : {Y I : Type 0} {S : List Leveled → Y → List Token → Type 0}
    (q : I → List Token → Outcome Y) (g : I → Token × List Token → Outcome Y)
    (f : Token × List Token → Outcome Y) (m l r : ℕ) (r' : I → ℕ) (kind : Kind)
    (ts : List Token)
    → r ≡ m - l → ((i : I) → r ≤ r' i) → kind_of ts ≡ kind → (kind ≡ k.End → ⊥)
    → ((i : I) (p : Place) (b : List Token) → q i (record { kind = kind; place = p } ∷ b) ≡ (take (r' i) (record { kind = kind; place = p } ∷ b) >>= g i))
    → ((p : Place) (rest : List Token) → Lawful m (λ b y us. S (at l kind p ∷ b) y us) (λ i b. g i (record { kind = kind; place = p }, b)) rest (f (record { kind = kind; place = p }, rest)))
    → Lawful m S q ts (take r ts >>= f)
take_law q g f m l r r' kind [] room more is some same next = absurd (some (sym is))
take_law {S = S} q g f m l zero r' kind (t ∷ ts) room more is some same next = deep_law f m l kind (t ∷ ts) room is some (λ p. some_of (next p []))
take_law {S = S} q g f m l (suc r) r' kind (t ∷ ts) room more is some same next =
    let token : Token = record { kind = kind; place = t.place } in
    let e : t ≡ token = ap (λ c. record { kind = c; place = t.place }) is in
    record {
      law = after m S q (λ i b. g i (token, b)) (at l kind t.place ∷ []) (t ∷ ts) ts (ap (λ u. u ∷ ts) e) ((omega arith, some), tt)
          (λ i b h. same i t.place b ∙ ap (λ o. o >>= g i) (take_some (r' i) token b (let w = more i in omega arith)))
          (f (t, ts)) (subst (λ u. Law m (λ b y. S (at l kind t.place ∷ b) y) (λ i b. g i (token, b)) ts (f (u, ts))) (sym e) (next t.place ts).law);
    }

-- Nothing is left, and something is missing.
pub end_law : {Y I : Type 0} {m : ℕ} {S : List Leveled → Y → List Token → Type 0}
    (q : I → List Token → Outcome Y) → Some_of S → ((i : I) → q i [] ≡ refuse [])
    → Lawful m S q [] (refuse [])
end_law {I = I} q some at_end = refused_here q [] some go
  where
    go : (i : I) (b : List Token) → Looks [] b → q i b ≡ refuse b
    go i [] l = at_end i
    go i (y ∷ b) l = absurd l

-- A reader that takes what another takes at what it sees of the next token.
seen_law : {V Y I : Type 0} {m : ℕ} (S : List Leveled → Y → List Token → Type 0)
    (see : List Token → V) (of : Token → V)
    → ((t : Token) (us : List Token) → see (t ∷ us) ≡ of t)
    → (body : I → V → List Token → Outcome Y) (v : V) (ts : List Token) (o : Outcome Y)
    → see ts ≡ v → Lawful m S (λ i. body i v) ts o → ((i : I) → body i (see []) [] ≡ body i v [])
    → Lawful m S (λ i b. body i (see b) b) ts o
seen_law {I = I} S see of front body v ts o is h at_end = carry S (λ i b. body i (see b) b) (λ b y us h. h) same h
  where
    same : (i : I) (a : List Leveled) (rest b : List Token) → ts ≡ tokens_of a ++ rest
        → Looks rest b → body i (see (tokens_of a ++ b)) (tokens_of a ++ b)
        ≡ body i v (tokens_of a ++ b)
    same i [] rest [] e l = at_end i
    same i [] [] (y ∷ b) e l = absurd l
    same i [] (t ∷ rest) (y ∷ b) e l = ap (λ c. body i c (y ∷ b)) (front y b ∙ sym (ap of l) ∙ sym (front t rest) ∙ sym (ap see e) ∙ is)
    same i (x ∷ a) rest b e l = ap (λ c. body i c (x.token ∷ (tokens_of a ++ b))) (front x.token (tokens_of a ++ b) ∙ sym (front x.token (tokens_of a ++ rest)) ∙ sym (ap see e) ∙ is)

-- at its kind
pub look_law : {Y I : Type 0} {m : ℕ} (S : List Leveled → Y → List Token → Type 0)
    (body : I → Kind → List Token → Outcome Y) (kind : Kind) (ts : List Token) (o : Outcome Y)
    → kind_of ts ≡ kind → Lawful m S (λ i. body i kind) ts o → ((i : I) → body i k.End [] ≡ body i kind [])
    → Lawful m S (λ i b. body i (kind_of b) b) ts o
look_law S body kind ts o is h at_end = seen_law S kind_of (λ t. t.kind) (λ t us. refl) body kind ts o is h at_end

-- at its place
pub place_law : {Y I : Type 0} {m : ℕ} (S : List Leveled → Y → List Token → Type 0)
    (body : I → Place → List Token → Outcome Y) (place : Place) (ts : List Token) (o : Outcome Y)
    → place_of ts ≡ place → Lawful m S (λ i. body i place) ts o → ((i : I) → body i nowhere [] ≡ body i place [])
    → Lawful m S (λ i b. body i (place_of b) b) ts o
place_law S body place ts o is h at_end = seen_law S place_of (λ t. t.place) (λ t us. refl) body place ts o is h at_end
