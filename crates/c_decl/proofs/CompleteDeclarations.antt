-- What the grammar of declarations has is read, up to its first token whose level is too high.
use Rattle.std.proofs.Common.{◌≡◌, ◌<◌, ◌≤◌, ◌+◌, ◌-◌, ℕ, zero, suc, List, [], ◌∷◌, ◌++◌, length, Some, None, Ok, refl, sym, ap, ap₂, ◌∙◌, subst, arith, append_assoc, append-nil, Bool, true, false}
use Rattle.c_tree.specs.Ty.{Ty}
use Rattle.c_tree.specs.Expr.{Expr}
use Rattle.c_tree.specs.Init.{Init}
use Rattle.c_tree.specs.Var.{Var}
use Rattle.c_tree.specs.Fun.{Param}
use Rattle.c_tree.specs.View.{exprs_list}
use Rattle.c_tree.specs.declared.place.Place.{Place}
use Rattle.c_token.specs.declared.token.Token.{Token}
use Rattle.c_token.specs.declared.token.Kind.{Kind}
use Rattle.c_token.specs.declared.token.Kind.TheVariants as k
use Rattle.c_expr.specs.private.ParserRules.{Assign, Cond}
use Rattle.c_expr.specs.Leveled.{Leveled, at}
use Rattle.c_expr.specs.Spelled.{same, plain_base}
use Rattle.c_expr.specs.Grammar.{IsBase, IsAssign, IsCond, IsListed}
use Rattle.c_expr.specs.Next.{◌>>=◌, kind_of, take, expect, begins, base, is_base}
use Rattle.c_expr.specs.private.ExpressionReading.{ruled, turns}
use Rattle.c_expr.specs.Grammar as e
use Rattle.c_expr.proofs.KindWords.{same_is}
use Rattle.c_expr.proofs.Binds.{binds}
use Rattle.c_expr.proofs.Through.{Raised, raised_append, raised_kind}
use Rattle.c_expr.proofs.Raised.{raised_assign, raised_listed}
use Rattle.c_expr.proofs.Sound.{longer}
use Rattle.c_expr.proofs.Complete.{base_kind, complete_base, complete_assign, complete_cond}
use Rattle.c_decl.specs.GrammarWords.{word}
use Rattle.c_decl.specs.Declarations as d
use Rattle.c_decl.specs.Declarations.{IsStars, IsSizes, IsInit, IsDecl, IsDecls, IsVars, IsParam, IsParamList, IsParams}
use Rattle.c_decl.specs.private.DeclarationReading.{is_next, star_step, stars_from, name, size_step, sizes_from, after_comma, value_end, value_turn, init_by, init, initialised_by, initialised, behind_name, declarator, declarator_turn, vars, brackets_by, brackets, own_name, behind_stars, parameter, parameter_turn, parameters_by, parameters}
use Rattle.c_decl.proofs.Takes.{Takes, TakesTurns, Fits, free, Any, here, and_then, settle, bind, before, last, token, regroup, read_as, placed, looped, regroup_turns, regather, turn_more, turn_last, next_fits, anywhere, at_token, Starts, starts_append, no_more}
use Rattle.c_expr.specs.declared.punctuator.TheConstants.{PARENTHESIS_OPEN, PARENTHESIS_CLOSE, BRACKET_OPEN, BRACKET_CLOSE, BRACE_OPEN, BRACE_CLOSE, COMMA, SEMICOLON, EQUALS, STAR}
use Rattle.c_decl.specs.declared.reserved.TheConstants.{VOID}

-- a token of one kind is none of another
pub unlike : (f : Kind → Bool) (other kind : Kind) → f other ≡ false → f kind ≡ true
    → same kind other ≡ false
unlike f other kind none h = go (same kind other) refl
  where
    go : (b : Bool) → same kind other ≡ b → b ≡ false
    go false e = refl
    go true e = let no : true ≡ false = sym h ∙ ap f (same_is kind other e) ∙ none in cc

-- behind an expression
abbrev pub Ends : List Token → Type 0
Ends ts = 12 < binds (kind_of ts)

pub takes_assign : {l : ℕ} {a : List Leveled} {x : Expr} → IsAssign l a x → (m r : ℕ) → r ≡ m - l
    → Takes m Ends a (ruled Assign r) (λ us. Ok (x, us))
takes_assign h m r room = record { goes = λ rest ts fit i. complete_assign h m r r rest ts room (omega arith) i fit }

takes_cond : {l : ℕ} {a : List Leveled} {x : Expr} → IsCond l a x → (m r : ℕ) → r ≡ m - l
    → Takes m (λ us. 11 < binds (kind_of us)) a (ruled Cond r) (λ us. Ok (x, us))
takes_cond h m r room = record { goes = λ rest ts fit i. complete_cond h m r r rest ts room (omega arith) i fit }

pub takes_base : {l : ℕ} {a : List Leveled} {to : Ty} → IsBase l a to → (m r : ℕ) → r ≡ m - l
    → Takes m (λ us. plain_base (kind_of us) ≡ None) a (base r) (λ us. Ok (to, us))
takes_base h m r room = record { goes = λ rest ts fit i. complete_base h m r rest ts room i fit }

-- stars
star_next : (s n : ℕ) (p : Place) (b : List Token)
    → stars_from s n (record { kind = k.Sign STAR; place = p } ∷ b)
    ≡ (take s (record { kind = k.Sign STAR; place = p } ∷ b)
    >>= λ u. stars_from (s - 1) (suc n) u.1)
star_next zero n p b = refl
star_next (suc s) n p b = let one : s ≡ suc s - 1 = omega arith in ap (λ s. stars_from s (suc n) b) one

stars_stop : (r n : ℕ) (ts : List Token) → is_next (k.Sign STAR) ts ≡ false
    → stars_from r n ts ≡ Ok ((n, r), ts)
stars_stop zero n ts e = ap (λ b. star_step (λ us. Ok ((n, zero), us)) b zero n ts) e
stars_stop (suc r) n ts e = ap (λ b. star_step (stars_from r (suc n)) b (suc r) n ts) e

some_stars : {l n : ℕ} {a : List Leveled} → IsStars l n a → (m r : ℕ) → r ≡ m - l
    → Takes m Any a (stars_from r 0) (stars_from (r - n) n)
some_stars d.none m r room = here (λ us fit. ap (λ s. stars_from s 0 us) (let same : r ≡ r - 0 = omega arith in same))
some_stars (d.more {l = l} {n = n} {a = a} p h) m r room =
    let one : r - n - 1 ≡ r - suc n = omega arith in
    and_then (some_stars h m r room) free
    (token (at (l + n) (k.Sign STAR) p) (r - n) (stars_from (r - n) n) _ (omega arith) (star_next (r - n) n p) (here (λ us fit. ap (λ s. stars_from s (suc n) us) one)))

pub takes_stars : {l n : ℕ} {a : List Leveled} → IsStars l n a → (m r : ℕ) → r ≡ m - l
    → Takes m (λ us. is_next (k.Sign STAR) us ≡ false) a (stars_from r 0)
    (λ us. Ok ((n, r - n), us))
takes_stars {n = n} h m r room = settle (some_stars h m r room) (λ us fit. tt) (λ us fit. stars_stop (r - n) n us fit)

-- sizes of arrays
size_next : (s : ℕ) (found : List Expr) (p : Place) (b : List Token)
    → sizes_from s found (record { kind = k.Sign BRACKET_OPEN; place = p } ∷ b)
    ≡ (take s (record { kind = k.Sign BRACKET_OPEN; place = p } ∷ b) >>= λ u. ruled Cond (s - 1) u.1 >>= λ x. expect (k.Sign BRACKET_CLOSE) (s - 1) x.1 >>= λ c. sizes_from (s - 1) (found ++ x.0 ∷ []) c.1)
size_next zero found p b = refl
size_next (suc s) found p b =
    let one : s ≡ suc s - 1 = omega arith in ap (λ s. ruled Cond s b >>= λ x. expect (k.Sign BRACKET_CLOSE) s x.1 >>= λ c. sizes_from s (found ++ x.0 ∷ []) c.1) one

sizes_stop : (r : ℕ) (found : List Expr) (ts : List Token) → is_next (k.Sign BRACKET_OPEN) ts ≡ false
    → sizes_from r found ts ≡ Ok ((found, r), ts)
sizes_stop zero found ts e = ap (λ b. size_step (λ xs us. Ok ((xs, zero), us)) b zero zero found ts) e
sizes_stop (suc r) found ts e = ap (λ b. size_step (sizes_from r) b (suc r) r found ts) e

some_sizes : {l n : ℕ} {a : List Leveled} {xs : List Expr} → IsSizes l n a xs → (m r : ℕ)
    → r ≡ m - l → Takes m Any a (sizes_from r []) (sizes_from (r - n) xs)
some_sizes d.none m r room = here (λ us fit. ap (λ s. sizes_from s [] us) (let same : r ≡ r - 0 = omega arith in same))
some_sizes (d.more {l = l} {n = n} {a = a} {b = b} {xs = xs} {x = x} p q h j) m r room =
    let one : r - n - 1 ≡ r - suc n = omega arith in
    let closed = at (suc (l + n)) (k.Sign BRACKET_CLOSE) q in
    and_then (some_sizes h m r room) free
    (token (at (l + n) (k.Sign BRACKET_OPEN) p) (r - n) (sizes_from (r - n) xs) _ (omega arith) (size_next (r - n) xs p)
    (before _ closed (takes_cond j m (r - n - 1) (omega arith)) (λ us. omega arith)
    (token closed (r - n - 1) _ _ (omega arith) (λ us. refl) (here (λ us fit. ap (λ s. sizes_from s (xs ++ x ∷ []) us) one)))))

takes_sizes : {l n : ℕ} {a : List Leveled} {xs : List Expr} → IsSizes l n a xs → (m r : ℕ)
    → r ≡ m - l → Takes m (λ us. is_next (k.Sign BRACKET_OPEN) us ≡ false) a (sizes_from r [])
    (λ us. Ok ((xs, r - n), us))
takes_sizes {n = n} {xs = xs} h m r room = settle (some_sizes h m r room) (λ us fit. tt) (λ us fit. sizes_stop (r - n) xs us fit)

-- the values of a list, and what closes them
some_values : {l : ℕ} {a : List Leveled} (b : List Leveled) → Raised l a → 0 < length (a ++ b)
some_values b h = subst (λ c. 0 < length (c ++ b)) (sym h.splits) (omega arith)

starts_listed : {l : ℕ} {a : List Leveled} {xs : List Expr} → IsListed l a xs
    → (m : ℕ) (b : List Leveled) → Starts m (a ++ b) (λ us. begins (kind_of us) ≡ true)
starts_listed h m b = record { start = λ us ts i. raised_kind m us ts (raised_append b (raised_listed h)) i }

goes_on : (l m r : ℕ) (p : Place) → r ≡ m - l
    → Takes m (λ us. is_next (k.Sign BRACE_CLOSE) us ≡ false) (at l (k.Sign COMMA) p ∷ [])
    (value_end r) (λ us. Ok (false, us))
goes_on l m r p room = token (at l (k.Sign COMMA) p) r _ _ room (λ us. refl) (here (λ us fit. ap (λ b. after_comma b r us) fit))

takes_values : {l : ℕ} {a : List Leveled} {xs : List Expr} → IsListed l a xs → (m r : ℕ)
    → r ≡ m - l → (tail : List Leveled) → Fits m Any tail Ends
    → Takes m Any tail (value_end r) (λ us. Ok (true, us)) → (found : List Expr)
    → TakesTurns m Any (a ++ tail) (λ n. turns (value_turn r) n found) (λ us. Ok (found ++ xs, us))
takes_values (e.one {a = a} {x = x} h) m r room tail ends closes found =
    turn_last (value_turn r) found (some_values tail (raised_assign h)) (bind _ (takes_assign h m r room) ends (last _ closes (λ us fit. tt) (λ us fit. refl)))
takes_values (e.more {l = l} {a = a} {b = b} {x = x} {xs = xs} p h j) m r room tail ends closes found =
    let comma = at l (k.Sign COMMA) p in
    regroup_turns (append_assoc a (comma ∷ []) (b ++ tail) ∙ sym (append_assoc a (comma ∷ b) tail)) (regather (append_assoc found (x ∷ []) xs)
    (turn_more {next = found ++ x ∷ []} (value_turn r) found (longer a comma)
    (before _ comma (takes_assign h m r room) (λ us. omega arith) (last _ (goes_on l m r p room) (λ us fit. fit) (λ us fit. refl)))
    (record { fit = λ us ts fit i. unlike begins (k.Sign BRACE_CLOSE) (kind_of ts) refl ((starts_listed j m tail).start us ts i) })
    (takes_values j m r room tail ends closes (found ++ x ∷ []))))

-- initialisers
takes_init : {l : ℕ} {a : List Leveled} {i : Init} → IsInit l a i → (m r : ℕ) → r ≡ m - l
    → Takes m Ends a (init r) (λ us. Ok (i, us))
takes_init (d.value h) m r room =
    read_as (λ rest ts fit i. ap (λ b. init_by b r ts) (unlike begins (k.Sign BRACE_OPEN) (kind_of ts) refl (raised_kind m rest ts (raised_assign h) i)))
    (last _ (takes_assign h m r room) (λ us fit. fit) (λ us fit. refl))
takes_init (d.values {l = l} p q h) m r room =
    let closed = at l (k.Sign BRACE_CLOSE) q in
    token (at l (k.Sign BRACE_OPEN) p) r _ _ room (λ us. refl)
    (last _ (looped _ (takes_values h m r room (closed ∷ []) (next_fits closed (λ us. omega arith)) (token closed r _ _ room (λ us. refl) (here (λ us fit. refl))) [])) (λ us fit. tt) (λ us fit. refl))
takes_init (d.values_and_comma {l = l} p q s h) m r room =
    let comma = at l (k.Sign COMMA) q in
    let closed = at l (k.Sign BRACE_CLOSE) s in
    token (at l (k.Sign BRACE_OPEN) p) r _ _ room (λ us. refl)
    (last _ (looped _ (takes_values h m r room (comma ∷ (closed ∷ [])) (next_fits comma (λ us. omega arith))
    (token comma r _ (λ u. after_comma (is_next (k.Sign BRACE_CLOSE) u.1) r u.1) room (λ us. refl) (token closed r _ _ room (λ us. refl) (here (λ us fit. refl)))) [])) (λ us fit. tt) (λ us fit. refl))

-- a name
pub takes_name : (l m r : ℕ) (n : List ℕ) (p : Place) → r ≡ m - l
    → Takes m Any (at l (k.Name n) p ∷ []) (name r) (λ us. Ok ((n, p), us))
takes_name l m r n p room = token (at l (k.Name n) p) r _ _ room (λ us. refl) (here (λ us fit. refl))

-- what stands in front of a name or behind it
pub stars_fit : {l n : ℕ} {a : List Leveled} {m : ℕ} {C D : List Token → Type 0} → IsStars l n a
    → (c : List Leveled) → Fits m D c C
    → ((p : Place) (us : List Token) → C ((at l (k.Sign STAR) p).token ∷ us))
    → Fits m D (a ++ c) C
stars_fit d.none c fits star = fits
stars_fit {m = m} {C = C} {D = D} (d.more {l = l} {n = n} {a = a} p h) c fits star =
    subst (λ e. Fits m D e C) (sym (append_assoc a (at (l + n) (k.Sign STAR) p ∷ []) c)) (stars_fit h (at (l + n) (k.Sign STAR) p ∷ c) (next_fits (at (l + n) (k.Sign STAR) p) (star p)) star)

sizes_fit : {l n : ℕ} {a : List Leveled} {xs : List Expr} {m : ℕ} {C D : List Token → Type 0}
    → IsSizes l n a xs → (c : List Leveled) → Fits m D c C
    → ((p : Place) (us : List Token) → C ((at l (k.Sign BRACKET_OPEN) p).token ∷ us))
    → Fits m D (a ++ c) C
sizes_fit d.none c fits opened = fits
sizes_fit {m = m} {C = C} {D = D} (d.more {l = l} {n = n} {a = a} {b = b} p q h j) c fits opened =
    let e = at (l + n) (k.Sign BRACKET_OPEN) p in
    let f = b ++ at (suc (l + n)) (k.Sign BRACKET_CLOSE) q ∷ [] in
    subst (λ e. Fits m D e C) (sym (append_assoc a (e ∷ f) c)) (sizes_fit h (e ∷ (f ++ c)) (next_fits e (opened p)) opened)

-- a declarator, cut at its name
pub record Named (m l r : ℕ) (base : Ty) (a : List Leveled) (x : Var) : Type 0 where
  pub stars : List Leveled
  pub behind : List Leveled
  pub splits : stars ++ at (l + x.stars) (k.Name x.name) x.place ∷ behind ≡ a
  pub has_stars : IsStars l x.stars stars
  pub onward : Takes m Ends behind (behind_name base x.stars x.name x.place (r - x.stars))
      (λ us. Ok (x, us))
  pub no_call : Fits m Ends behind (λ us. is_next (k.Sign PARENTHESIS_OPEN) us ≡ false)

ends_not : (other : Kind) → binds other ≤ 12 → (us : List Token) → Ends us
    → is_next other us ≡ false
ends_not other few us ends = go (is_next other us) refl
  where
    go : (b : Bool) → is_next other us ≡ b → b ≡ false
    go false e = refl
    go true e = absurd (let same : binds (kind_of us) ≡ binds other = ap binds (same_is (kind_of us) other e) in omega arith)

named_decl : {l : ℕ} {base : Ty} {a : List Leveled} {x : Var} → IsDecl l base a x → (m r : ℕ)
    → r ≡ m - l → Named m l r base a x
named_decl (d.plain {l = l} {n = n} {m = i} {base = base} {a = a} {b = b} {xs = xs} {name = name} p h j) m r room = record {
  stars = a;
  behind = b;
  splits = refl;
  has_stars = h;
  onward = last _ (takes_sizes j m (r - n) (omega arith)) (ends_not (k.Sign BRACKET_OPEN) (omega arith))
      (λ us ends. ap (λ c. initialised_by c (r - n - i) us >>= λ v. Ok (record { base = base; stars = n; name = name; place = p; sizes = exprs_list xs; init = v.0 }, v.1)) (ends_not (k.Sign EQUALS) (omega arith) us ends));
  no_call = subst (λ c. Fits m Ends c (λ us. is_next (k.Sign PARENTHESIS_OPEN) us ≡ false)) (append-nil b) (sizes_fit j [] (no_more (ends_not (k.Sign PARENTHESIS_OPEN) (omega arith))) (λ p us. refl));
}
named_decl (d.initialised {l = l} {n = n} {m = i} {a = a} {b = b} {c = c} p q h j g) m r room =
    let equals = at (l + n + i) (k.Sign EQUALS) q in
    record {
      stars = a;
      behind = b ++ equals ∷ c;
      splits = refl;
      has_stars = h;
      onward = before _ equals (takes_sizes j m (r - n) (omega arith)) (λ us. refl)
          (last _ (token equals (r - n - i) (initialised (r - n - i)) _ (omega arith) (λ us. refl) (last _ (takes_init g m (r - n - i) (omega arith)) (λ us ends. ends) (λ us ends. refl))) (λ us ends. ends) (λ us ends. refl));
      no_call = sizes_fit j (equals ∷ c) (next_fits equals (λ us. refl)) (λ p us. refl);
    }

pub takes_declarator : {m l r : ℕ} {base : Ty} {a : List Leveled} {x : Var} → Named m l r base a x
    → r ≡ m - l → Takes m Ends a (declarator base r) (λ us. Ok (x, us))
takes_declarator {m = m} {l = l} {r = r} {x = x} w room =
    regroup w.splits (before _ (at (l + x.stars) (k.Name x.name) x.place) (takes_stars w.has_stars m r room) (λ us. refl)
    (bind _ (takes_name (l + x.stars) m (r - x.stars) x.name x.place (omega arith)) free w.onward))

-- declarators through their semicolon, cut behind the first
pub record Declared (m l r : ℕ) (base : Ty) (a : List Leveled) (p : Place) (xs : List Var) : Type 0 where
  pub first : Var
  pub front : List Leveled
  pub behind : List Leveled
  pub splits : front ++ behind ≡ a ++ at l (k.Sign SEMICOLON) p ∷ []
  pub named : Named m l r base front first
  pub ends : Fits m Any behind Ends
  pub onward : (found : List Var)
      → TakesTurns m Any behind (λ n. turns (declarator_turn base r) n (found ++ first ∷ []))
      (λ us. Ok (found ++ xs, us))

pub declared : {l : ℕ} {base : Ty} {a : List Leveled} {xs : List Var} → IsDecls l base a xs
    → (m r : ℕ) → r ≡ m - l → (p : Place) → Declared m l r base a p xs
declared (d.one {l = l} {base = base} {a = a} {d = x} h) m r room p =
    let ended = at l (k.Sign SEMICOLON) p in
    record {
      first = x;
      front = a;
      behind = ended ∷ [];
      splits = refl;
      named = named_decl h m r room;
      ends = next_fits ended (λ us. omega arith);
      onward = λ found. turn_last (declarator_turn base r) (found ++ x ∷ []) (omega arith) (token ended r _ _ room (λ us. refl) (here (λ us fit. refl)));
    }
declared (d.more {l = l} {base = base} {a = a} {b = b} {d = x} {ds = xs} q h j) m r room p =
    let comma = at l (k.Sign COMMA) q in
    let w = declared j m r room p in
    record {
      first = x;
      front = a;
      behind = comma ∷ (b ++ at l (k.Sign SEMICOLON) p ∷ []);
      splits = sym (append_assoc a (comma ∷ b) (at l (k.Sign SEMICOLON) p ∷ []));
      named = named_decl h m r room;
      ends = next_fits comma (λ us. omega arith);
      onward = λ found. regroup_turns (ap (λ c. comma ∷ c) w.splits) (regather (append_assoc found (x ∷ []) xs)
          (turn_more {a = comma ∷ w.front} {next = (found ++ x ∷ []) ++ w.first ∷ []} (declarator_turn base r) (found ++ x ∷ []) (omega arith)
          (token comma r _ _ room (λ us. refl) (last _ (takes_declarator w.named room) (λ us ends. ends) (λ us ends. refl))) w.ends (w.onward (found ++ x ∷ []))));
    }

-- behind a base
pub base_ends : {m l r : ℕ} {base : Ty} {a : List Leveled} {p : Place} {xs : List Var}
    (w : Declared m l r base a p xs)
    → Fits m Any (w.front ++ w.behind) (λ us. plain_base (kind_of us) ≡ None)
base_ends {m = m} {l = l} w =
    let x = at (l + w.first.stars) (k.Name w.first.name) w.first.place in
    subst (λ c. Fits m Any (c ++ w.behind) (λ us. plain_base (kind_of us) ≡ None)) w.named.splits
    (subst (λ c. Fits m Any c (λ us. plain_base (kind_of us) ≡ None)) (sym (append_assoc w.named.stars (x ∷ w.named.behind) w.behind))
    (stars_fit w.named.has_stars (x ∷ (w.named.behind ++ w.behind)) (next_fits x (λ us. refl)) (λ p us. refl)))

pub takes_vars : {l : ℕ} {a : List Leveled} {xs : List Var} → IsVars l a xs → (m r : ℕ) → r ≡ m - l
    → (p : Place) → Takes m Any (a ++ at l (k.Sign SEMICOLON) p ∷ []) (vars r) (λ us. Ok (xs, us))
takes_vars (d.vars {l = l} {a = a} {b = b} h j) m r room p =
    let w = declared j m r room p in
    regroup (ap (λ c. a ++ c) w.splits ∙ sym (append_assoc a b (at l (k.Sign SEMICOLON) p ∷ [])))
    (bind _ (takes_base h m r room) (base_ends w) (bind _ (takes_declarator w.named room) w.ends (looped _ (w.onward []))))

-- parameters
pub base_starts : {l : ℕ} {a : List Leveled} {to : Ty} → IsBase l a to → (m : ℕ)
    → Starts m a (λ us. is_base (kind_of us) ≡ true)
base_starts h m = record { start = λ us ts i. base_kind h m us ts i }

parameter_starts : {l : ℕ} {a : List Leveled} {x : Param} → IsParam l a x → (m : ℕ)
    → Starts m a (λ us. is_base (kind_of us) ≡ true)
parameter_starts (d.unnamed h j) m = starts_append _ (base_starts h m)
parameter_starts (d.unnamed_array p q h j) m = starts_append _ (base_starts h m)
parameter_starts (d.named p h j) m = starts_append _ (base_starts h m)
parameter_starts (d.named_array p q s h j) m = starts_append _ (base_starts h m)

list_starts : {l : ℕ} {a : List Leveled} {xs : List Param} → IsParamList l a xs → (m : ℕ)
    → Starts m a (λ us. is_base (kind_of us) ≡ true)
list_starts (d.one h) m = parameter_starts h m
list_starts (d.more p h j) m = starts_append _ (parameter_starts h m)

pub vars_start : {l : ℕ} {a : List Leveled} {xs : List Var} → IsVars l a xs → (m : ℕ)
    → Starts m a (λ us. is_base (kind_of us) ≡ true)
vars_start (d.vars h j) m = starts_append _ (base_starts h m)

-- what may follow a parameter
record Bounds (us : List Token) : Type 0 where
  no_base : plain_base (kind_of us) ≡ None
  no_star : is_next (k.Sign STAR) us ≡ false
  no_name : (p : Place) (r : ℕ) → own_name p r us ≡ Ok ((None, p), us)
  no_array : is_next (k.Sign BRACKET_OPEN) us ≡ false

takes_brackets : (l m r : ℕ) (p q : Place) → r ≡ m - l
    → Takes m Bounds (at l (k.Sign BRACKET_OPEN) p ∷ (at (suc l) (k.Sign BRACKET_CLOSE) q ∷ []))
    (brackets r) (λ us. Ok (true, us))
takes_brackets l m r p q room =
    token (at l (k.Sign BRACKET_OPEN) p) r _ _ room (λ us. refl) (token (at (suc l) (k.Sign BRACKET_CLOSE) q) (r - 1) _ _ (omega arith) (λ us. refl) (here (λ us fit. refl)))

takes_own_name : (l m r : ℕ) (n : List ℕ) (first p : Place) → r ≡ m - l
    → Takes m Any (at l (k.Name n) p ∷ []) (own_name first r) (λ us. Ok ((Some n, p), us))
takes_own_name l m r n first p room = token (at l (k.Name n) p) r _ _ room (λ us. refl) (here (λ us fit. refl))

takes_parameter : {l : ℕ} {a : List Leveled} {x : Param} → IsParam l a x → (m r : ℕ) → r ≡ m - l
    → Takes m Bounds a (parameter r) (λ us. Ok (x, us))
takes_parameter (d.unnamed {l = l} {n = n} {base = to} {first = first} {a = a} {b = b} h j) m r room =
    let p = first.token.place in
    placed first (λ p ts. base r ts >>= λ to. stars_from r 0 to.1 >>= λ stars. behind_stars to.0 stars.0.0 p stars.0.1 stars.1)
    (bind _ (takes_base h m r room) (subst (λ c. Fits m Bounds c (λ us. plain_base (kind_of us) ≡ None)) (append-nil b) (stars_fit j [] (no_more (λ us ends. ends.no_base)) (λ p us. refl)))
    (last _ (takes_stars j m r room) (λ us ends. ends.no_star)
    (λ us ends. ap (λ o. o >>= λ name. brackets (r - n) name.1 >>= λ array. Ok (record { base = to; stars = n; name = name.0.0; place = name.0.1; array = array.0 }, array.1)) (ends.no_name p (r - n))
    ∙ ap (λ c. brackets_by c (r - n) us >>= λ array. Ok (record { base = to; stars = n; name = None; place = p; array = array.0 }, array.1)) ends.no_array)))
takes_parameter (d.unnamed_array {l = l} {n = n} {base = to} {first = first} {a = a} {b = b} p q h j) m r room =
    let opened = at (l + n) (k.Sign BRACKET_OPEN) p in
    let array = opened ∷ (at (suc (l + n)) (k.Sign BRACKET_CLOSE) q ∷ []) in
    placed first (λ p ts. base r ts >>= λ to. stars_from r 0 to.1 >>= λ stars. behind_stars to.0 stars.0.0 p stars.0.1 stars.1)
    (bind _ (takes_base h m r room) (stars_fit j array (next_fits opened (λ us. refl)) (λ p us. refl))
    (before _ opened (takes_stars j m r room) (λ us. refl) (at_token opened (λ us. refl) (last _ (takes_brackets (l + n) m (r - n) p q (omega arith)) (λ us ends. ends) (λ us ends. refl)))))
takes_parameter (d.named {l = l} {n = n} {base = to} {a = a} {b = b} {name = name} p h j) m r room =
    let first = at (l + n) (k.Name name) p in
    anywhere (λ p ts. base r ts >>= λ to. stars_from r 0 to.1 >>= λ stars. behind_stars to.0 stars.0.0 p stars.0.1 stars.1) (λ place.
    bind _ (takes_base h m r room) (stars_fit j (first ∷ []) (next_fits first (λ us. refl)) (λ p us. refl))
    (before _ first (takes_stars j m r room) (λ us. refl) (last _ (takes_own_name (l + n) m (r - n) name place p (omega arith)) (λ us ends. tt)
    (λ us ends. ap (λ c. brackets_by c (r - n) us >>= λ array. Ok (record { base = to; stars = n; name = Some name; place = p; array = array.0 }, array.1)) ends.no_array))))
takes_parameter (d.named_array {l = l} {n = n} {base = to} {a = a} {b = b} {name = name} p q s h j) m r room =
    let first = at (l + n) (k.Name name) p in
    let array = at (l + n) (k.Sign BRACKET_OPEN) q ∷ (at (suc (l + n)) (k.Sign BRACKET_CLOSE) s ∷ []) in
    anywhere (λ p ts. base r ts >>= λ to. stars_from r 0 to.1 >>= λ stars. behind_stars to.0 stars.0.0 p stars.0.1 stars.1) (λ place.
    bind _ (takes_base h m r room) (stars_fit j (first ∷ array) (next_fits first (λ us. refl)) (λ p us. refl))
    (before _ first (takes_stars j m r room) (λ us. refl) (bind _ (takes_own_name (l + n) m (r - n) name place p (omega arith)) free
    (last _ (takes_brackets (l + n) m (r - n) q s (omega arith)) (λ us ends. ends) (λ us ends. refl)))))

takes_list : {l : ℕ} {a : List Leveled} {xs : List Param} → IsParamList l a xs → (m r : ℕ)
    → r ≡ m - l → (q : Place) (found : List Param)
    → TakesTurns m Any (a ++ at l (k.Sign PARENTHESIS_CLOSE) q ∷ []) (λ n. turns (parameter_turn r) n found) (λ us. Ok (found ++ xs, us))
takes_list (d.one {l = l} {a = a} {x = x} h) m r room q found =
    let closed = at l (k.Sign PARENTHESIS_CLOSE) q in
    turn_last (parameter_turn r) found (longer a closed)
    (before _ closed (takes_parameter h m r room) (λ us. record { no_base = refl; no_star = refl; no_name = λ p r. refl; no_array = refl }) (token closed r _ _ room (λ us. refl) (here (λ us fit. refl))))
takes_list (d.more {l = l} {a = a} {b = b} {x = x} {xs = xs} p h j) m r room q found =
    let comma = at l (k.Sign COMMA) p in
    let c = b ++ at l (k.Sign PARENTHESIS_CLOSE) q ∷ [] in
    regroup_turns (append_assoc a (comma ∷ []) c ∙ sym (append_assoc a (comma ∷ b) (at l (k.Sign PARENTHESIS_CLOSE) q ∷ []))) (regather (append_assoc found (x ∷ []) xs)
    (turn_more {C = Any} {next = found ++ x ∷ []} (parameter_turn r) found (longer a comma)
    (before _ comma (takes_parameter h m r room) (λ us. record { no_base = refl; no_star = refl; no_name = λ p r. refl; no_array = refl }) (token comma r _ _ room (λ us. refl) (here (λ us fit. refl))))
    free (takes_list j m r room q (found ++ x ∷ []))))

pub takes_parameters : {l : ℕ} {a : List Leveled} {xs : List Param} → IsParams l a xs → (m r : ℕ)
    → r ≡ m - l → (q : Place)
    → Takes m Any (a ++ at l (k.Sign PARENTHESIS_CLOSE) q ∷ []) (parameters r) (λ us. Ok (xs, us))
takes_parameters (d.nothing {l = l}) m r room q = token (at l (k.Sign PARENTHESIS_CLOSE) q) r _ _ room (λ us. refl) (here (λ us fit. refl))
takes_parameters (d.void {l = l} p) m r room q =
    token (at l (word VOID.now) p) r _ (λ u. expect (k.Sign PARENTHESIS_CLOSE) r u.1 >>= λ c. Ok ([], c.1)) room (λ us. refl) (token (at l (k.Sign PARENTHESIS_CLOSE) q) r _ _ room (λ us. refl) (here (λ us fit. refl)))
takes_parameters (d.some {l = l} {a = a} h) m r room q =
    let w = starts_append (at l (k.Sign PARENTHESIS_CLOSE) q ∷ []) (list_starts h m) in
    read_as (λ rest ts fit i.
    let based = w.start rest ts i in
    ap₂ (λ b c. parameters_by b c r ts) (unlike is_base (k.Sign PARENTHESIS_CLOSE) (kind_of ts) refl based) (unlike is_base (word VOID.now) (kind_of ts) refl based))
    (looped _ (takes_list h m r room q []))
