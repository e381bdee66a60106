-- A list has one tree, and at most one answer fits, where a reader takes what is spelled and places do not matter.
use Rattle.std.proofs.Common.{◌≡◌, ◌<◌, ◌≤◌, ◌+◌, ◌-◌, ℕ, zero, suc, List, [], ◌∷◌, ◌++◌, Ok, Err, refl, sym, ap, ap₂, ◌∙◌, subst, arith, append_assoc, append-nil}
use Rattle.c_tree.specs.declared.place.Place.{Place}
use Rattle.c_token.specs.declared.token.Token.{Token}
use Rattle.c_expr.specs.declared.fault.ParseFault.{ParseFault}
use Rattle.c_expr.specs.declared.fault.ParseFault.TheVariants.{TooDeep}
use Rattle.c_expr.specs.Leveled.{Leveled, tokens_of, AreBelow}
use Rattle.c_expr.specs.Next.{Outcome, place_of}
use Rattle.c_expr.specs.Parsing.{GoesNoFurther, IsRead, IsOutOfPlace, IsTooDeep, Begins}
use Rattle.c_expr.proofs.Law.{tokens_append}
use Rattle.c_expr.proofs.Through.{Follows, follows_itself, through, through_all, allowed, join}
use Rattle.c_expr.proofs.PlacedExpressions.{Similar, Tree, placed, similar_placed}
use Rattle.c_expr.proofs.ExactExpressions.{limit_of, below_limit}

-- two fronts of one list
data Compared (a b after_a after_b : List Token) : Type 0 where
  equal : a ≡ b → after_a ≡ after_b → Compared a b after_a after_b
  longer : (n : Token) (more : List Token) → b ≡ a ++ n ∷ more → after_a ≡ n ∷ (more ++ after_b)
      → Compared a b after_a after_b
  shorter : (n : Token) (more : List Token) → a ≡ b ++ n ∷ more → after_b ≡ n ∷ (more ++ after_a)
      → Compared a b after_a after_b

lifted : (x y : Token) (a b c d : List Token) → x ≡ y → Compared a b c d
    → Compared (x ∷ a) (y ∷ b) c d
lifted x y a b c d e (equal h i) = equal (ap₂ ◌∷◌ e h) i
lifted x y a b c d e (longer n more h i) = longer n more (ap₂ ◌∷◌ (sym e) h) i
lifted x y a b c d e (shorter n more h i) = shorter n more (ap₂ ◌∷◌ e h) i

compare : (a b c d : List Token) → a ++ c ≡ b ++ d → Compared a b c d
compare [] [] c d e = equal refl e
compare [] (y ∷ b) c d e = longer y b refl e
compare (x ∷ a) [] c d e = shorter x a refl (sym e)
compare (x ∷ a) (y ∷ b) c d e = let head : x ≡ y = cc in let tail : a ++ c ≡ b ++ d = cc in lifted x y a b c d head (compare a b c d tail)

follows_deep : (m : ℕ) (a : List Leveled) (d : Leveled) (c : List Leveled) (rest us : List Token)
    → AreBelow m a → m ≤ d.level → Follows m (a ++ d ∷ c) rest (tokens_of a ++ d.token ∷ us)
follows_deep m [] d c rest us low high = (refl, λ l. absurd (omega arith))
follows_deep m (x ∷ a) d c rest us low high = (refl, λ l. follows_deep m a d c rest us low.1 high)

through_deep : {X : Type 0} (m : ℕ) (a : List Leveled) (d : Leveled) (c : List Leveled)
    (o : Outcome X) → AreBelow m a → m ≤ d.level
    → through m (a ++ d ∷ c) o ≡ Err (TooDeep d.token.place)
through_deep m [] d c o low high = let none : 0 ≡ m - d.level = omega arith in sym (ap (λ r. allowed r d.token.place (through m c o)) none)
through_deep m (x ∷ a) d c o low high =
    let below : x.level < m = low.0 in
    let some : m - x.level ≡ suc (m - x.level - 1) = omega arith in
    ap (λ r. allowed r x.token.place (through m (a ++ d ∷ c) o)) some ∙ through_deep m a d c o low.1 high

tree_of : {X : Type 0} (x y : X) → ◌≡◌ {A = Outcome X} (Ok (x, [])) (Ok (y, [])) → x ≡ y
tree_of {X = X} x y h = let pairs : ◌≡◌ {A = X × List Token} (x, []) (y, []) = cc in ap (λ (p : X × List Token). p.0) pairs

ok_not_err : {X : Type 0} (x : X × List Token) (e : ParseFault)
    → ◌≡◌ {A = Outcome X} (Ok x) (Err e) → ⊥
ok_not_err x e h = cc

place_is : (X : Type 0) (p q : Place) → ◌≡◌ {A = Outcome X} (Err (TooDeep p)) (Err (TooDeep q))
    → p ≡ q
place_is X p q h = cc

pair : {X : Type 0} → X → List Token → X × List Token
pair x us = (x, us)

pair_is : {X : Type 0} (x y : X) (us vs : List Token) → x ≡ y → us ≡ vs
    → ◌≡◌ {A = X × List Token} (x, us) (y, vs)
unfolding pair
pair_is x y us vs e f = ap₂ pair e f

elsewhere : Place → Place
elsewhere p = record { line = suc p.line; column = 0 }

not_elsewhere : (p : Place) → elsewhere p ≡ p → ⊥
unfolding elsewhere
not_elsewhere p e = let lines : suc p.line ≡ p.line = ap (λ (q : Place). q.line) e in omega arith

allowed_elsewhere : {X : Type 0} (q p : Place) (r : ℕ) (o : Outcome X) → (q ≡ p → ⊥)
    → (o ≡ Err (TooDeep p) → ⊥) → allowed r q o ≡ Err (TooDeep p) → ⊥
allowed_elsewhere {X = X} q p zero o h i e = h (place_is X q p e)
allowed_elsewhere q p (suc r) o h i e = i e

through_elsewhere : {X : Type 0} (m : ℕ) (q p : Place) (c : List Leveled) (x : X × List Token)
    → (q ≡ p → ⊥) → through m (placed q c) (Ok x) ≡ Err (TooDeep p) → ⊥
through_elsewhere m q p [] x h e = ok_not_err x (TooDeep p) e
through_elsewhere m q p (y ∷ c) x h e = allowed_elsewhere q p (m - y.level) (through m (placed q c) (Ok x)) h (through_elsewhere m q p c x h) e

-- A reader at each limit takes what is spelled, and what is spelled is so at other places too.
pub record Reader {X : Type 0} (P : List Leveled → X → Type 0) : Type 0 where
  pub reads : ℕ → List Token → Outcome X
  pub complete : (m : ℕ) (a : List Leveled) (x : X) → P a x → (ts : List Token) → Follows m a [] ts
      → reads m ts ≡ through m a (Ok (x, []))
  pub moved : (a : List Leveled) (x : X) → P a x → (b : List Leveled) → Similar a b → Tree P b

module _ {X : Type 0} (P : List Leveled → X → Type 0) (reader : Reader P) where
  pub reads_all : (m : ℕ) (a : List Leveled) (x : X) → P a x → AreBelow m a
      → reader.reads m (tokens_of a ++ []) ≡ Ok (x, [])
  reads_all m a x h low = reader.complete m a x h (tokens_of a ++ []) (follows_itself m a []) ∙ through_all m a (Ok (x, [])) low

  pub one_tree : (a b : List Leveled) (x y : X) → P a x → P b y → tokens_of a ≡ tokens_of b → x ≡ y
  one_tree a b x y h i e =
      let m : ℕ = limit_of a + (limit_of b + 201) in
      let other : limit_of b + (limit_of a + 201) ≡ m = omega arith in
      let low : AreBelow m b = subst (λ k. AreBelow k b) other (below_limit b (limit_of a + 201)) in
      tree_of x y (sym (reads_all m a x h (below_limit a (limit_of b + 201))) ∙ ap (λ us. reader.reads m (us ++ [])) e ∙ reads_all m b y i low)

  -- nothing of the rule goes on with the next token
  stops : (read : List Leveled) (rest : List Token) (n : Token) (after more : List Token)
      (all : List Leveled) (x : X) → GoesNoFurther P read rest → rest ≡ n ∷ after → P all x
      → tokens_of all ≡ tokens_of read ++ n ∷ more → ⊥
  stops read rest n after more all x h e i splits =
      let none : Begins P (tokens_of read ++ n ∷ []) → ⊥ = subst (GoesNoFurther P read) e h in
      none (record { all = all; tree = x; spelled = i; more = more; splits = splits ∙ sym (append_assoc (tokens_of read) (n ∷ []) more) })

  going_on : (a c : List Leveled) (front : List Token) (n : Token) (more : List Token)
      → tokens_of a ≡ front ++ n ∷ more → tokens_of (a ++ c) ≡ front ++ n ∷ (more ++ tokens_of c)
  going_on a c front n more e = tokens_append a c ∙ ap (λ us. us ++ tokens_of c) e ∙ append_assoc front (n ∷ more) (tokens_of c)

  pub read_read : (ts rest rest' : List Token) (x y : X) → IsRead P ts x rest → IsRead P ts y rest'
      → ◌≡◌ {A = X × List Token} (x, rest) (y, rest')
  read_read ts rest rest' x y h i = go (compare (tokens_of h.read) (tokens_of i.read) rest rest' (sym h.splits ∙ i.splits))
    where
      go : Compared (tokens_of h.read) (tokens_of i.read) rest rest'
          → ◌≡◌ {A = X × List Token} (x, rest) (y, rest')
      go (equal e f) = pair_is x y rest rest' (one_tree h.read i.read x y h.spelled i.spelled e) f
      go (longer n more e f) = absurd (stops h.read rest n (more ++ rest') more i.read y h.no_further f i.spelled e)
      go (shorter n more e f) = absurd (stops i.read rest' n (more ++ rest) more h.read x i.no_further f h.spelled e)

  -- one that is read whole, where that is told from what is not
  pub read_stops : (ts rest : List Token) (x : X) (p : Place) (h : IsRead P ts x rest)
      (i : IsOutOfPlace P ts p) → (tokens_of h.read ≡ tokens_of i.read → rest ≡ i.next ∷ i.rest → ⊥) → ⊥
  read_stops ts rest x p h i apart = go (compare (tokens_of h.read) (tokens_of i.read) rest (i.next ∷ i.rest) (sym h.splits ∙ i.splits))
    where
      go : Compared (tokens_of h.read) (tokens_of i.read) rest (i.next ∷ i.rest) → ⊥
      go (equal e f) = apart e f
      go (longer n more e f) = stops h.read rest n (more ++ i.next ∷ i.rest) (more ++ tokens_of i.more) (i.read ++ i.more) i.tree h.no_further f i.begins (going_on i.read i.more (tokens_of h.read) n more e)
      go (shorter n more e f) = stops i.read (i.next ∷ i.rest) n (more ++ rest) more h.read x i.no_further f h.spelled e

  pub stops_stops : (ts : List Token) (p q : Place) → IsOutOfPlace P ts p → IsOutOfPlace P ts q → p ≡ q
  stops_stops ts p q h i = go (compare (tokens_of h.read) (tokens_of i.read) (h.next ∷ h.rest) (i.next ∷ i.rest) (sym h.splits ∙ i.splits))
    where
      go : Compared (tokens_of h.read) (tokens_of i.read) (h.next ∷ h.rest) (i.next ∷ i.rest)
          → p ≡ q
      go (equal e f) = h.is_at ∙ ap place_of f ∙ sym i.is_at
      go (longer n more e f) = absurd (stops h.read (h.next ∷ h.rest) n (more ++ i.next ∷ i.rest) (more ++ tokens_of i.more) (i.read ++ i.more) i.tree h.no_further f i.begins (going_on i.read i.more (tokens_of h.read) n more e))
      go (shorter n more e f) = absurd (stops i.read (i.next ∷ i.rest) n (more ++ h.next ∷ h.rest) (more ++ tokens_of h.more) (h.read ++ h.more) h.tree i.no_further f h.begins (going_on h.read h.more (tokens_of i.read) n more e))

  deep_reads : (ts : List Token) (p : Place) (h : IsTooDeep P ts p) (us : List Token)
      → reader.reads 201 (tokens_of h.read ++ h.deep.token ∷ us) ≡ Err (TooDeep h.deep.token.place)
  deep_reads ts p h us =
      let high : 201 ≤ h.deep.level = (let deep = h.is_deep in omega arith) in
      reader.complete 201 (h.read ++ h.deep ∷ h.more) h.tree h.begins (tokens_of h.read ++ h.deep.token ∷ us) (follows_deep 201 h.read h.deep h.more [] us h.low high)
      ∙ through_deep 201 h.read h.deep h.more (Ok (h.tree, [])) h.low high

  pub deep_deep : (ts : List Token) (p q : Place) → IsTooDeep P ts p → IsTooDeep P ts q → p ≡ q
  deep_deep ts p q h i = h.is_at ∙ place_is X h.deep.token.place i.deep.token.place (sym (deep_reads ts p h h.rest) ∙ ap (reader.reads 201) (sym h.splits ∙ i.splits) ∙ deep_reads ts q i i.rest) ∙ sym i.is_at

  -- what stops before the deep token or at it
  not_before : (ts : List Token) (p : Place) (h : IsTooDeep P ts p) (read : List Leveled)
      (rest : List Token) → GoesNoFurther P read rest
      → Compared (tokens_of read) (tokens_of h.read) rest (h.deep.token ∷ h.rest) → (more : List Token) × (tokens_of read ≡ tokens_of h.read ++ h.deep.token ∷ more)
  not_before ts p h read rest stop (equal e f) =
      absurd (stops read rest h.deep.token h.rest (tokens_of h.more) (h.read ++ h.deep ∷ h.more) h.tree stop f h.begins (tokens_append h.read (h.deep ∷ h.more) ∙ ap (λ us. us ++ h.deep.token ∷ tokens_of h.more) (sym e)))
  not_before ts p h read rest stop (longer n more e f) =
      absurd (stops read rest n (more ++ h.deep.token ∷ h.rest) (more ++ h.deep.token ∷ tokens_of h.more) (h.read ++ h.deep ∷ h.more) h.tree stop f h.begins (going_on h.read (h.deep ∷ h.more) (tokens_of read) n more e))
  not_before ts p h read rest stop (shorter n more e f) = let like : h.deep.token ≡ n = cc in (more, e ∙ ap (λ t. tokens_of h.read ++ t ∷ more) (sym like))

  pub read_deep : (ts rest : List Token) (x : X) (p : Place) → IsRead P ts x rest
      → IsTooDeep P ts p → ⊥
  read_deep ts rest x p h i =
      let w = not_before ts p i h.read rest h.no_further (compare (tokens_of h.read) (tokens_of i.read) rest (i.deep.token ∷ i.rest) (sym h.splits ∙ i.splits)) in
      ok_not_err (x, []) (TooDeep i.deep.token.place)
      (sym (reads_all 201 h.read x h.spelled h.low) ∙ ap (reader.reads 201) (append-nil (tokens_of h.read) ∙ w.1) ∙ deep_reads ts p i w.0)

  pub stops_deep : (ts : List Token) (p q : Place) → IsOutOfPlace P ts p → IsTooDeep P ts q → ⊥
  stops_deep ts p q h i =
      let w = not_before ts q i h.read (h.next ∷ h.rest) h.no_further (compare (tokens_of h.read) (tokens_of i.read) (h.next ∷ h.rest) (i.deep.token ∷ i.rest) (sym h.splits ∙ i.splits)) in
      let other : Place = elsewhere i.deep.token.place in
      let moved = placed other h.more in
      let v = reader.moved (h.read ++ h.more) h.tree h.begins (h.read ++ moved) (similar_placed other h.read h.more) in
      let ends : X × List Token = (v.tree, []) in
      let all = tokens_of (h.read ++ moved) ++ [] in
      let same : all ≡ tokens_of i.read ++ i.deep.token ∷ (w.0 ++ tokens_of moved) =
      append-nil (tokens_of (h.read ++ moved)) ∙ going_on h.read moved (tokens_of i.read) i.deep.token w.0 w.1 in
      through_elsewhere 201 other i.deep.token.place h.more ends (not_elsewhere i.deep.token.place)
      (sym (through_all 201 h.read (through 201 moved (Ok ends)) h.low) ∙ join 201 h.read moved (Ok ends)
      ∙ sym (reader.complete 201 (h.read ++ moved) v.tree v.holds all (follows_itself 201 (h.read ++ moved) [])) ∙ ap (reader.reads 201) same ∙ deep_reads ts q i (w.0 ++ tokens_of moved))
