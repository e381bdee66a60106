-- The law of declarators (C11 6.7.6).
use Rattle.std.proofs.Common.{◌≡◌, ◌≤◌, ◌+◌, ◌-◌, ℕ, zero, suc, List, [], ◌∷◌, ◌++◌, Option, Some, None, Ok, refl, sym, ap, ◌∙◌, subst, arith, append_assoc, append-nil, Bool, true, false}
use Rattle.c_token.specs.declared.token.Token.{Token}
use Rattle.c_token.specs.declared.token.Kind.{Kind}
use Rattle.c_token.specs.declared.token.Kind.TheVariants as k
use Rattle.c_tree.specs.declared.place.Place.{Place}
use Rattle.c_tree.specs.Ty.{Ty}
use Rattle.c_tree.specs.Expr.{Expr}
use Rattle.c_tree.specs.Init.{Init}
use Rattle.c_tree.specs.Init as initial
use Rattle.c_tree.specs.Var.{Var}
use Rattle.c_tree.specs.View.{exprs_list}
use Rattle.c_expr.specs.private.ParserRules.{Assign, Cond}
use Rattle.c_expr.specs.Leveled.{Leveled, at}
use Rattle.c_expr.specs.Grammar as e
use Rattle.c_expr.specs.Grammar.{IsBase, IsAssign, IsCond, IsListed}
use Rattle.c_expr.specs.Next.{Outcome, ◌>>=◌, kind_of, nowhere, take, expect, base}
use Rattle.c_expr.specs.private.ExpressionReading.{ruled}
use Rattle.c_expr.proofs.Law.{Lawful, Some_of, some_of, bind_law, weaken, pure_law, ended, refuse_law, take_law, deep_law, plain}
use Rattle.c_expr.proofs.ParserTurns.{Turn}
use Rattle.c_expr.proofs.ParserRulesLemmas.{refuses}
use Rattle.c_expr.proofs.Sound.{longer}
use Rattle.c_expr.proofs.ExpressionFronts.{expect_law, some_assign, unary_cond, letter_unary}
use Rattle.c_decl.specs.Declarations as g
use Rattle.c_decl.specs.Declarations.{IsStars, IsSizes, IsInit, IsDecl, IsDecls, IsVars}
use Rattle.c_decl.specs.private.DeclarationReading.{is_next, star_step, stars_from, name_by, name as name_reader, size_step, sizes_from, after_comma, value_end_by, value_end, listed, value_turn, values, init_by, init, initialised_by, initialised, behind_name, declarator}
use Rattle.c_decl.proofs.SoundParts.{bind_bind, bind_bind_law, Sound, ruled_sound, choose, choose_taken, chosen, turned}
use Rattle.c_expr.specs.declared.punctuator.TheConstants.{BRACKET_OPEN, BRACKET_CLOSE, BRACE_OPEN, BRACE_CLOSE, COMMA, EQUALS, STAR}

-- stars
stars_any : (onward onward' : List Token → Outcome (ℕ × ℕ)) (here : Bool) (n : ℕ) (ts : List Token)
    → star_step onward here zero n ts ≡ star_step onward' here zero n ts
stars_any onward onward' false n ts = refl
stars_any onward onward' true n [] = refl
stars_any onward onward' true n (t ∷ ts) = refl

stars_open : (r n : ℕ) (ts : List Token)
    → stars_from r n ts ≡ star_step (stars_from (r - 1) (suc n))
    (is_next (k.Sign STAR) ts) r n ts
stars_open zero n ts = stars_any (λ us. Ok ((n, zero), us)) (stars_from (zero - 1) (suc n)) (is_next (k.Sign STAR) ts) n ts
stars_open (suc r) n ts = let one : r ≡ suc r - 1 = omega arith in ap (λ s. star_step (stars_from s (suc n)) (is_next (k.Sign STAR) ts) (suc r) n ts) one

fewer : {r r' : ℕ} → suc r ≤ r' → r ≤ r' - 1
fewer h = omega arith

-- by whether a star is next
abbrev by_star : {Y : Type 0} → ((ℕ × ℕ) × List Token → Outcome Y) → ℕ → ℕ → Bool → List Token
    → Outcome Y
by_star g r n c b = star_step (stars_from (r - 1) (suc n)) c r n b >>= g

-- Stars, and then what is read with the room behind them.
module _ {Y I : Type 0} (m : ℕ) (S : List Leveled → Y → List Token → Type 0) (g' : I → (ℕ × ℕ) × List Token → Outcome Y) (f : (ℕ × ℕ) × List Token → Outcome Y) (l : ℕ)
    (next : (n s : ℕ) (s' : I → ℕ) (a : List Leveled) (rest : List Token) → IsStars l n a → s ≡ m - (l + n) → ((i : I) → s ≤ s' i)
    → Lawful m (λ b y us. S (a ++ b) y us) (λ i b. g' i ((n, s' i), b)) rest (f ((n, s), rest))) where
  with_star : (n : ℕ) (r' : I → ℕ) (a : List Leveled) (ts : List Token) (o : Outcome Y)
      → Lawful m (λ b y us. S (a ++ b) y us)
      (λ i b. by_star (g' i) (r' i) n (is_next (k.Sign STAR) b) b) ts o
      → Lawful m (λ b y us. S (a ++ b) y us) (λ i b. stars_from (r' i) n b >>= g' i) ts o
  with_star n r' a ts o h = weaken (λ b y us. S (a ++ b) y us) (λ i b. stars_from (r' i) n b >>= g' i) (λ b y us h. h) (λ i b. sym (ap (λ o. o >>= g' i) (stars_open (r' i) n b))) h

  pub stars_law : (r n : ℕ) (r' : I → ℕ) (a : List Leveled) (ts : List Token) → IsStars l n a
      → r ≡ m - (l + n) → ((i : I) → r ≤ r' i)
      → Lawful m (λ b y us. S (a ++ b) y us) (λ i b. stars_from (r' i) n b >>= g' i) ts (stars_from r n ts >>= f)
  stars_law zero n r' a ts h room wide = with_star n r' a ts _ (choose (λ i. by_star (g' i) (r' i) n) (λ c. star_step (λ us. Ok ((n, zero), us)) c zero n ts >>= f) (k.Sign STAR) ts refl
      (λ is. subst (λ o. Lawful m (λ b y us. S (a ++ b) y us) (λ i b. by_star (g' i) (r' i) n (is_next (k.Sign STAR) b) b) ts o) (sym (bind_bind (take zero ts) (λ u. Ok ((n, zero), u.1)) f))
      (deep_law (λ u. f ((n, zero), u.1)) m (l + n) (k.Sign STAR) ts room is (λ e. cc) (λ p.
      let w = some_of (next (suc n) zero (λ i. zero) (a ++ at (l + n) (k.Sign STAR) p ∷ []) [] (g.more p h) (omega arith) (λ i. omega arith)) in
      record { spelling = w.spelling; value = w.value; holds = subst (λ d. S d w.value []) (append_assoc a (at (l + n) (k.Sign STAR) p ∷ []) w.spelling) w.holds })))
      (λ other. next n zero r' a ts h room wide))
  stars_law (suc r) n r' a ts h room wide = with_star n r' a ts _ (choose_taken (λ i. by_star (g' i) (r' i) n) (λ c. star_step (stars_from r (suc n)) c (suc r) n ts >>= f)
      (λ i u. stars_from (r' i - 1) (suc n) u.1 >>= g' i) (λ u. stars_from r (suc n) u.1 >>= f) m (l + n) (suc r) r' (k.Sign STAR) ts room wide (refl, refl)
      (λ i b. bind_bind (take (r' i) b) (λ u. stars_from (r' i - 1) (suc n) u.1) (g' i)) (bind_bind (take (suc r) ts) (λ u. stars_from r (suc n) u.1) f)
      (λ p rest. weaken (λ b y us. S (a ++ at (l + n) (k.Sign STAR) p ∷ b) y us) (λ i b. stars_from (r' i - 1) (suc n) b >>= g' i)
      (λ b y us j. subst (λ d. S d y us) (append_assoc a (at (l + n) (k.Sign STAR) p ∷ []) b) j) (λ i b. refl)
      (stars_law r (suc n) (λ i. r' i - 1) (a ++ at (l + n) (k.Sign STAR) p ∷ []) rest (g.more p h) (omega arith) (λ i. fewer (wide i))))
      (λ other. next n (suc r) r' a ts h room wide))

-- a name
pub data IsName (l : ℕ) : List Leveled → List ℕ × Place → Type 0 where
  name : {n : List ℕ} (p : Place) → IsName l (at l (k.Name n) p ∷ []) (n, p)

name_by_law : (I : Type 0) (m l r : ℕ) (r' : I → ℕ) (kind : Kind) (ts : List Token) → r ≡ m - l
    → ((i : I) → r ≤ r' i) → kind_of ts ≡ kind
    → Lawful m (plain (IsName l)) (λ i. name_reader (r' i)) ts (name_by kind r ts)
name_by_law I m l r r' (k.Name n) ts room wide is = take_law (λ i. name_reader (r' i)) _ _ m l r r' (k.Name n) ts room wide is (λ e. cc) (λ i p b. refl) (λ p rest. pure_law (n, p) rest (name p))
name_by_law I m l r r' kind ts room wide is = refuse_law (λ i c b. name_by c (r' i) b) kind ts is (record { spelling = _; value = _; holds = name {n = []} nowhere }) (λ i b. refl) (λ i. refl)

pub name_law : (I : Type 0) (m : ℕ) → Sound I m (λ l. plain (IsName l)) name_reader
name_law I m l r r' ts room wide = name_by_law I m l r r' (kind_of ts) ts room wide refl

-- sizes
size_any : (onward onward' : List Expr → List Token → Outcome (List Expr × ℕ)) (here : Bool)
    (found : List Expr) (ts : List Token)
    → size_step onward here zero zero found ts ≡ size_step onward' here zero zero found ts
size_any onward onward' false found ts = refl
size_any onward onward' true found [] = refl
size_any onward onward' true found (t ∷ ts) = refl

sizes_open : (r : ℕ) (found : List Expr) (ts : List Token)
    → sizes_from r found ts ≡ size_step (sizes_from (r - 1)) (is_next (k.Sign BRACKET_OPEN) ts) r
    (r - 1) found ts
sizes_open zero found ts = size_any (λ xs us. Ok ((xs, zero), us)) (sizes_from (zero - 1)) (is_next (k.Sign BRACKET_OPEN) ts) found ts
sizes_open (suc r) found ts = let one : r ≡ suc r - 1 = omega arith in ap (λ s. size_step (sizes_from s) (is_next (k.Sign BRACKET_OPEN) ts) (suc r) s found ts) one

-- by whether a bracket is next
abbrev by_size : {Y : Type 0} → ((List Expr × ℕ) × List Token → Outcome Y) → ℕ → List Expr → Bool
    → List Token → Outcome Y
by_size g r found c b = size_step (sizes_from (r - 1)) c r (r - 1) found b >>= g

-- what is read in the brackets, and what follows
abbrev in_size : ℕ → ℕ → List Expr → Token × List Token → Outcome (List Expr × ℕ)
in_size s inner found u = ruled Cond inner u.1 >>= λ x. expect (k.Sign BRACKET_CLOSE) inner x.1 >>= λ c. sizes_from s (found ++ x.0 ∷ []) c.1

abbrev size : ℕ → Place → List Leveled → Place → List Leveled → List Leveled
size l p b q c = at l (k.Sign BRACKET_OPEN) p ∷ (b ++ at (suc l) (k.Sign BRACKET_CLOSE) q ∷ c)

grouped_size : (l : ℕ) (a : List Leveled) (p : Place) (b : List Leveled) (q : Place)
    (c : List Leveled) → (a ++ size l p b q []) ++ c ≡ a ++ size l p b q c
grouped_size l a p b q c = append_assoc a (size l p b q []) c ∙ ap (λ d. a ++ at l (k.Sign BRACKET_OPEN) p ∷ d) (append_assoc b (at (suc l) (k.Sign BRACKET_CLOSE) q ∷ []) c)

some_cond : (l : ℕ) → Some_of (plain (IsCond l))
some_cond l = record { spelling = _; value = _; holds = unary_cond l _ _ (letter_unary (suc l)) }

-- Sizes, and then what is read with the room behind them.
module _ {Y I : Type 0} (m : ℕ) (S : List Leveled → Y → List Token → Type 0) (g' : I → (List Expr × ℕ) × List Token → Outcome Y) (f : (List Expr × ℕ) × List Token → Outcome Y) (l : ℕ)
    (next : (n s : ℕ) (s' : I → ℕ) (a : List Leveled) (xs : List Expr) (rest : List Token) → IsSizes l n a xs → s ≡ m - (l + n) → ((i : I) → s ≤ s' i)
    → Lawful m (λ b y us. S (a ++ b) y us) (λ i b. g' i ((xs, s' i), b)) rest (f ((xs, s), rest))) where
  with_size : (r' : I → ℕ) (a : List Leveled) (xs : List Expr) (ts : List Token) (o : Outcome Y)
      → Lawful m (λ b y us. S (a ++ b) y us)
      (λ i b. by_size (g' i) (r' i) xs (is_next (k.Sign BRACKET_OPEN) b) b) ts o
      → Lawful m (λ b y us. S (a ++ b) y us) (λ i b. sizes_from (r' i) xs b >>= g' i) ts o
  with_size r' a xs ts o h = weaken (λ b y us. S (a ++ b) y us) (λ i b. sizes_from (r' i) xs b >>= g' i) (λ b y us h. h) (λ i b. sym (ap (λ o. o >>= g' i) (sizes_open (r' i) xs b))) h

  pub sizes_law : (r n : ℕ) (r' : I → ℕ) (a : List Leveled) (xs : List Expr) (ts : List Token)
      → IsSizes l n a xs → r ≡ m - (l + n) → ((i : I) → r ≤ r' i)
      → Lawful m (λ b y us. S (a ++ b) y us) (λ i b. sizes_from (r' i) xs b >>= g' i) ts (sizes_from r xs ts >>= f)
  sizes_law zero n r' a xs ts h room wide = with_size r' a xs ts _ (choose (λ i. by_size (g' i) (r' i) xs) (λ c. size_step (λ xs us. Ok ((xs, zero), us)) c zero zero xs ts >>= f) (k.Sign BRACKET_OPEN) ts refl
      (λ is. subst (λ o. Lawful m (λ b y us. S (a ++ b) y us) (λ i b. by_size (g' i) (r' i) xs (is_next (k.Sign BRACKET_OPEN) b) b) ts o)
      (sym (bind_bind (take zero ts) (λ u. ruled Cond zero u.1 >>= λ x. expect (k.Sign BRACKET_CLOSE) zero x.1 >>= λ c. Ok ((xs ++ x.0 ∷ [], zero), c.1)) f))
      (deep_law (λ u. (ruled Cond zero u.1 >>= λ x. expect (k.Sign BRACKET_CLOSE) zero x.1 >>= λ c. Ok ((xs ++ x.0 ∷ [], zero), c.1)) >>= f) m (l + n) (k.Sign BRACKET_OPEN) ts room is (λ e. cc) (λ p.
      let x = some_cond (suc (l + n)) in
      let w = some_of (next (suc n) zero (λ i. zero) (a ++ size (l + n) p x.spelling nowhere []) (xs ++ x.value ∷ []) [] (g.more p nowhere h x.holds) (omega arith) (λ i. omega arith)) in
      record { spelling = _; value = w.value; holds = subst (λ d. S d w.value []) (grouped_size (l + n) a p x.spelling nowhere w.spelling) w.holds })))
      (λ other. next n zero r' a xs ts h room wide))
  sizes_law (suc r) n r' a xs ts h room wide = with_size r' a xs ts _ (choose_taken (λ i. by_size (g' i) (r' i) xs) (λ c. size_step (sizes_from r) c (suc r) r xs ts >>= f)
      (λ i u. in_size (r' i - 1) (r' i - 1) xs u >>= g' i) (λ u. in_size r r xs u >>= f) m (l + n) (suc r) r' (k.Sign BRACKET_OPEN) ts room wide (refl, refl)
      (λ i b. bind_bind (take (r' i) b) (in_size (r' i - 1) (r' i - 1) xs) (g' i)) (bind_bind (take (suc r) ts) (in_size r r xs) f)
      (λ p rest. bind_bind_law (λ i b. ruled Cond (r' i - 1) b) (λ i x. expect (k.Sign BRACKET_CLOSE) (r' i - 1) x.1 >>= λ c. sizes_from (r' i - 1) (xs ++ x.0 ∷ []) c.1) g' (ruled Cond r rest) (λ x. expect (k.Sign BRACKET_CLOSE) r x.1 >>= λ c. sizes_from r (xs ++ x.0 ∷ []) c.1) f rest
      (bind_law _ _ (ruled_sound I m Cond (suc (l + n)) r (λ i. r' i - 1) rest (omega arith) (λ i. fewer (wide i))) (λ x us b j cut.
      bind_bind_law (λ i c. expect (k.Sign BRACKET_CLOSE) (r' i - 1) c) (λ i c. sizes_from (r' i - 1) (xs ++ x ∷ []) c.1) g' (expect (k.Sign BRACKET_CLOSE) r us) (λ c. sizes_from r (xs ++ x ∷ []) c.1) f us
      (expect_law (λ i c. sizes_from (r' i - 1) (xs ++ x ∷ []) c.1 >>= g' i) (λ c. sizes_from r (xs ++ x ∷ []) c.1 >>= f) m (suc (l + n)) r (λ i. r' i - 1) (k.Sign BRACKET_CLOSE) us (omega arith) (λ i. fewer (wide i)) (refl, refl) (λ q vs.
      weaken _ (λ i b. sizes_from (r' i - 1) (xs ++ x ∷ []) b >>= g' i)
      (λ c y us j. subst (λ d. S d y us) (grouped_size (l + n) a p b q c) j) (λ i b. refl)
      (sizes_law r (suc n) (λ i. r' i - 1) (a ++ size (l + n) p b q []) (xs ++ x ∷ []) vs (g.more p q h j) (omega arith) (λ i. fewer (wide i))))))))
      (λ other. next n (suc r) r' a xs ts h room wide))

-- the end of a value in a list, and whether it ends the list
data IsValueEnd (l : ℕ) : List Leveled → Bool → Type 0 where
  next : (p : Place) → IsValueEnd l (at l (k.Sign COMMA) p ∷ []) false
  comma_last : (p q : Place)
      → IsValueEnd l (at l (k.Sign COMMA) p ∷ (at l (k.Sign BRACE_CLOSE) q ∷ [])) true
  last : (p : Place) → IsValueEnd l (at l (k.Sign BRACE_CLOSE) p ∷ []) true

value_end_law : (I : Type 0) (m : ℕ) → Sound I m (λ l. plain (IsValueEnd l)) value_end
value_end_law I m l r r' ts room wide = chosen (λ s c b. value_end_by c s b) _ m l r r' (k.Sign COMMA) ts room wide (refl, refl) (λ s b. refl)
    (λ p rest. chosen (λ s c b. after_comma c s b) _ m l r r' (k.Sign BRACE_CLOSE) rest room wide (refl, refl) (λ s b. refl) (λ q us. pure_law true us (comma_last p q)) (λ other. pure_law false rest (next p)))
    (λ other. expect_law _ _ m l r r' (k.Sign BRACE_CLOSE) ts room wide (refl, refl) (λ p rest. pure_law true rest (last p)))

-- what is left of a list of values, with the closing brace
data ValuesLeft (l : ℕ) (found : List Expr) : List Leveled → List Expr → Type 0 where
  closed : {c : List Leveled} {zs : List Expr} (q : Place) → IsListed l c zs
      → ValuesLeft l found (c ++ at l (k.Sign BRACE_CLOSE) q ∷ []) (found ++ zs)
  comma_closed : {c : List Leveled} {zs : List Expr} (p q : Place) → IsListed l c zs
      → ValuesLeft l found (c ++ at l (k.Sign COMMA) p ∷ (at l (k.Sign BRACE_CLOSE) q ∷ []))
      (found ++ zs)

-- an item, its comma, and what follows
pub grouped_item : (a : List Leveled) (comma : Leveled) (c d : List Leveled)
    → (a ++ comma ∷ c) ++ d ≡ (a ++ comma ∷ []) ++ (c ++ d)
grouped_item a comma c d = append_assoc a (comma ∷ c) d ∙ sym (append_assoc a (comma ∷ []) (c ++ d))

pub moved : {X : Type 0} (P : List Leveled → List X → Type 0) {a b : List Leveled} (found : List X)
    (x : X) (zs : List X) → a ≡ b → P a (found ++ x ∷ zs) → P b ((found ++ x ∷ []) ++ zs)
moved P {a = a} {b = b} found x zs e h = subst (λ d. P d ((found ++ x ∷ []) ++ zs)) e (subst (λ y. P a y) (sym (append_assoc found (x ∷ []) zs)) h)

value_goes : (l : ℕ) (p : Place) (found : List Expr) (x : Expr) (a c : List Leveled)
    (y : List Expr) → IsAssign l a x → ValuesLeft l (found ++ x ∷ []) c y
    → ValuesLeft l found ((a ++ at l (k.Sign COMMA) p ∷ []) ++ c) y
value_goes l p found x a _ _ h (closed {c = c} {zs = zs} q i) =
    moved (ValuesLeft l found) found x zs (grouped_item a (at l (k.Sign COMMA) p) c (at l (k.Sign BRACE_CLOSE) q ∷ [])) (closed q (e.more p h i))
value_goes l p found x a _ _ h (comma_closed {c = c} {zs = zs} w q i) =
    moved (ValuesLeft l found) found x zs (grouped_item a (at l (k.Sign COMMA) p) c (at l (k.Sign COMMA) w ∷ (at l (k.Sign BRACE_CLOSE) q ∷ []))) (comma_closed w q (e.more p h i))

value_ends : (l : ℕ) (found : List Expr) (x : Expr) (a b : List Leveled) (over : Bool)
    (us : List Token) → IsAssign l a x → IsValueEnd l b over
    → Turn (λ found. plain (ValuesLeft l found)) found (a ++ (b ++ [])) (listed over (found ++ x ∷ [])) us
value_ends l found x a _ _ us h (next p) = (longer a (at l (k.Sign COMMA) p), λ c y vs i. value_goes l p found x a c y h i)
value_ends l found x a _ _ us h (comma_last p q) = comma_closed p q (e.one h)
value_ends l found x a _ _ us h (last p) = closed p (e.one h)

value_turn_law : (I : Type 0) (m l r : ℕ) (r' : I → ℕ) (found : List Expr) (ts : List Token)
    → r ≡ m - l → ((i : I) → r ≤ r' i)
    → Lawful m (Turn (λ found. plain (ValuesLeft l found)) found) (λ i. value_turn (r' i) found) ts
    (value_turn r found ts)
value_turn_law I m l r r' found ts room wide =
    bind_law _ _ (ruled_sound I m Assign l r r' ts room wide) (λ x rest a h cut.
    bind_law (λ i over. Ok (listed over.0 (found ++ x ∷ []), over.1)) (λ over. Ok (listed over.0 (found ++ x ∷ []), over.1)) (value_end_law I m l r r' rest room wide) (λ over us b j cut.
    pure_law (listed over (found ++ x ∷ [])) us (value_ends l found x a b over us h j)))

values_law : (I : Type 0) (m : ℕ) → Sound I m (λ l. plain (ValuesLeft l [])) values
values_law I m l r r' ts room wide =
    turned (λ found. plain (ValuesLeft l found)) (λ found. record { spelling = _; value = _; holds = closed nowhere (e.one (some_assign l).holds) }) (λ i. value_turn (r' i)) (value_turn r) (λ i. r' i + l) [] ts
    (λ i found. ap (λ o. o >>= λ x. value_end (r' i) x.1 >>= λ over. Ok (listed over.0 (found ++ x.0 ∷ []), over.1)) (refuses (r' i) Assign (r' i) [] refl))
    (λ i found us. value_turn_law (Unit {0}) (r' i + l) l (r' i) (λ u. r' i) found us (omega arith) (λ u. omega arith))
    (λ found us. value_turn_law I m l r r' found us room wide)

init_values : (l : ℕ) (p : Place) (a : List Leveled) (xs : List Expr) → ValuesLeft l [] a xs
    → IsInit l (at l (k.Sign BRACE_OPEN) p ∷ a) (initial.Many (exprs_list xs))
init_values l p _ _ (closed q h) = g.values p q h
init_values l p _ _ (comma_closed q s h) = g.values_and_comma p q s h

init_law : (I : Type 0) (m : ℕ) → Sound I m (λ l. plain (IsInit l)) init
init_law I m l r r' ts room wide = chosen (λ s c b. init_by c s b) _ m l r r' (k.Sign BRACE_OPEN) ts room wide (refl, refl) (λ s b. refl)
    (λ p rest. bind_law _ _ (values_law I m l r r' rest room wide) (λ xs us b j cut. pure_law (initial.Many (exprs_list xs)) us (ended (λ c y. IsInit l (at l (k.Sign BRACE_OPEN) p ∷ c) y) (init_values l p b xs j))))
    (λ other. bind_law _ _ (ruled_sound I m Assign l r r' ts room wide) (λ x us a h cut. pure_law (initial.One x) us (ended (IsInit l) (g.value h))))

pub data IsInitialised (l : ℕ) : List Leveled → Option Init → Type 0 where
  none : IsInitialised l [] None
  some : {a : List Leveled} {i : Init} (p : Place) → IsInit l a i
      → IsInitialised l (at l (k.Sign EQUALS) p ∷ a) (Some i)

initialised_law : (I : Type 0) (m : ℕ) → Sound I m (λ l. plain (IsInitialised l)) initialised
initialised_law I m l r r' ts room wide = chosen (λ s c b. initialised_by c s b) _ m l r r' (k.Sign EQUALS) ts room wide (refl, refl) (λ s b. refl)
    (λ p rest. bind_law _ _ (init_law I m l r r' rest room wide) (λ i us b j cut. pure_law (Some i) us (ended (λ c y. IsInitialised l (at l (k.Sign EQUALS) p ∷ c) y) (some p j))))
    (λ other. pure_law None ts none)

-- what stands behind a declarator's name
pub data IsBehind (l : ℕ) (base : Ty) (stars : ℕ) (name : List ℕ) (place : Place) : List Leveled → Var → Type 0 where
  behind : {m : ℕ} {a b : List Leveled} {xs : List Expr} {i : Option Init} → IsSizes l m a xs
      → IsInitialised (l + m) b i
      → IsBehind l base stars name place (a ++ b) (record { base = base; stars = stars; name = name; place = place; sizes = exprs_list xs; init = i })

pub behind_law : (I : Type 0) (m : ℕ) (base : Ty) (stars : ℕ) (n : List ℕ) (place : Place)
    → Sound I m (λ l. plain (IsBehind l base stars n place)) (behind_name base stars n place)
behind_law I m base stars n place l r r' ts room wide =
    sizes_law m (plain (IsBehind l base stars n place)) (λ i sizes. initialised sizes.0.1 sizes.1 >>= λ i. Ok (record { base = base; stars = stars; name = n; place = place; sizes = exprs_list sizes.0.0; init = i.0 }, i.1))
    (λ sizes. initialised sizes.0.1 sizes.1 >>= λ i. Ok (record { base = base; stars = stars; name = n; place = place; sizes = exprs_list sizes.0.0; init = i.0 }, i.1)) l
    (λ k s s' a xs rest h room wide. bind_law _ _ (initialised_law I m (l + k) s s' rest room wide) (λ i us b j cut.
    pure_law (record { base = base; stars = stars; name = n; place = place; sizes = exprs_list xs; init = i }) us (ended (λ c y. IsBehind l base stars n place (a ++ c) y) (behind h j))))
    r zero r' [] [] ts g.none (omega arith) wide

declared : (l n m : ℕ) (base : Ty) (own : List ℕ) (p : Place) (a b c : List Leveled)
    (xs : List Expr) (i : Option Init) → IsStars l n a → IsSizes (l + n) m b xs
    → IsInitialised (l + n + m) c i
    → IsDecl l base (a ++ at (l + n) (k.Name own) p ∷ (b ++ c)) (record { base = base; stars = n; name = own; place = p; sizes = exprs_list xs; init = i })
declared l n m base own p a b _ xs _ h i none =
    subst (λ d. IsDecl l base (a ++ at (l + n) (k.Name own) p ∷ d) (record { base = base; stars = n; name = own; place = p; sizes = exprs_list xs; init = None })) (sym (append-nil b)) (g.plain p h i)
declared l n m base own p a b _ xs _ h i (some q j) = g.initialised p q h i j

pub declarator_of : (l n : ℕ) (base : Ty) (own : List ℕ) (p : Place) (a b : List Leveled) (d : Var)
    → IsStars l n a → IsBehind (l + n) base n own p b d
    → IsDecl l base (a ++ at (l + n) (k.Name own) p ∷ b) d
declarator_of l n base own p a _ _ h (behind {m = m} {a = b} {b = c} {xs = xs} {i = i} j w) = declared l n m base own p a b c xs i h j w

named_declarator : (l n : ℕ) (base : Ty) (a b c : List Leveled) (named : List ℕ × Place) (d : Var)
    → IsStars l n a → IsName (l + n) b named → IsBehind (l + n) base n named.0 named.1 c d
    → IsDecl l base (a ++ (b ++ c)) d
named_declarator l n base a _ c _ d h (name {n = w} p) j = declarator_of l n base w p a c d h j

pub declarator_law : (I : Type 0) (m : ℕ) (base : Ty)
    → Sound I m (λ l. plain (IsDecl l base)) (declarator base)
declarator_law I m base l r r' ts room wide =
    stars_law m (plain (IsDecl l base)) (λ i stars. name_reader stars.0.1 stars.1 >>= λ n. behind_name base stars.0.0 n.0.0 n.0.1 stars.0.1 n.1) (λ stars. name_reader stars.0.1 stars.1 >>= λ n. behind_name base stars.0.0 n.0.0 n.0.1 stars.0.1 n.1) l
    (λ n s s' a rest h room wide. bind_law _ _ (name_law I m (l + n) s s' rest room wide) (λ named us b i cut.
    weaken _ (λ i b. behind_name base n named.0 named.1 (s' i) b) (λ c d us j. named_declarator l n base a b c named d h i j) (λ i b. refl)
    (behind_law I m base n named.0 named.1 (l + n) s s' us room wide)))
    r zero r' [] ts g.none (omega arith) wide
