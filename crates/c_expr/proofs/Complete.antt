-- What the grammar has is read, up to its first token whose level is too high, where the next token does not go on.
use Rattle.std.proofs.Common.{◌≡◌, ◌<◌, ◌≤◌, ◌+◌, ◌-◌, ℕ, zero, suc, List, [], ◌∷◌, ◌++◌, length, Some, None, Ok, refl, sym, ap, ap₂, ◌∙◌, subst, arith, append_assoc, length-append, inl, inr, Bool, true, false, eq-eqb}
use Rattle.std.specs.Prelude.{if◌then◌else◌}
use Rattle.c_tree.specs.Ty.{Ty}
use Rattle.c_tree.specs.Ty as the_ty
use Rattle.c_tree.specs.Expr.{Expr}
use Rattle.c_tree.specs.Expr as expr
use Rattle.c_tree.specs.View.{ty_of, exprs_list}
use Rattle.c_tree.specs.declared.operator.Binary.{Binary}
use Rattle.c_tree.specs.declared.operator.Step.{Step}
use Rattle.c_tree.specs.declared.place.Place.{Place}
use Rattle.c_tree.specs.declared.tree.Callee.{Callee}
use Rattle.c_tree.specs.declared.tree.Callee.TheVariants as callees
use Rattle.c_token.specs.declared.token.Token.{Token}
use Rattle.c_token.specs.declared.token.Kind.{Kind}
use Rattle.c_token.specs.declared.token.Kind.TheVariants as k
use Rattle.c_expr.specs.declared.rule.Rule.{Rule}
use Rattle.c_expr.specs.declared.rule.Rule.TheVariants.{Assign, Cond, Unary as UnaryRule}
use Rattle.c_expr.specs.Leveled.{Leveled, at, tokens_of}
use Rattle.c_expr.specs.Spelled.{same, assign_op, binary_op, rank, unary_op, first_step, last_step, builtin, plain_base}
use Rattle.c_expr.specs.Grammar as g
use Rattle.c_expr.specs.Grammar.{IsBase, IsAssign, IsCond, IsBinary, IsChain, IsUnary, IsPostfix, IsPrimary, IsCallee, IsArguments, IsListed}
use Rattle.c_expr.specs.Next.{Outcome, ◌>>=◌, kind_of, take, expect, begins, base, base_by, after_unsigned, is_base, is_base_by, is_unsigned, is_eof, opens, closes}
use Rattle.c_expr.specs.private.ExpressionReading.{of_rank, operator_of, chain_step, chain_from, assign_inside, assign_by, cond_inside, conditional_by, binary, suffix_step, suffixes_from, rule, argument, arguments_by, after_element, call, after_name, reserved, primary, primary_by, after_open, unary_by, unary_inside, turn, turns}
use Rattle.c_expr.proofs.KindWords.{same_is}
use Rattle.c_expr.proofs.Opens.{suffixes_stop}
use Rattle.c_expr.proofs.Sound.{chain_stops, unary_is}
use Rattle.c_expr.proofs.Through.{Follows, through, cut, join, follow, follow_on, take_goes, under, all_of, enter, raised_kind, raised_append, raised_less}
use Rattle.c_expr.proofs.Raised.{raised_assign, raised_cond, raised_binary, raised_unary, raised_postfix, raised_listed}
use Rattle.c_expr.proofs.Binds.{binds, no_assign, no_test, no_operator, unbound, assign_binds, operator_binds, step_binds, step_begins, builtin_begins, no_base}
use Rattle.c_expr.specs.declared.punctuator.TheConstants.{PARENTHESIS_OPEN, PARENTHESIS_CLOSE, BRACKET_OPEN, BRACKET_CLOSE, COMMA, QUESTION, COLON}
use Rattle.c_expr.specs.declared.keyword.TheConstants.{INT, CHAR, UNSIGNED, END_OF_FILE}

pub pred_suc : (r : ℕ) → 0 < r → r ≡ suc (r - 1)
pred_suc r h = omega arith

same_room : (r : ℕ) → r ≡ r - 0
same_room r = omega arith

-- a base
pub base_kind : {l : ℕ} {a : List Leveled} {to : Ty} → IsBase l a to
    → (m : ℕ) (rest ts : List Token) → Follows m a rest ts → is_base (kind_of ts) ≡ true
base_kind (g.plain {l = l} {kind = kind} {p = p} e) m rest ts h =
    let w = cut m [] (at l kind p) [] rest ts h in
    ap (λ us. is_base (kind_of us)) w.front ∙ ap (λ o. is_base_by o (is_unsigned kind)) e
base_kind (g.unsigned {l = l} {p = p}) m rest ts h = let w = cut m [] (at l (k.Reserved UNSIGNED.now) p) [] rest ts h in ap (λ us. is_base (kind_of us)) w.front
base_kind (g.unsigned_int {l = l} {p = p} {q = q}) m rest ts h = let w = cut m [] (at l (k.Reserved UNSIGNED.now) p) (at l (k.Reserved INT.now) q ∷ []) rest ts h in ap (λ us. is_base (kind_of us)) w.front
base_kind (g.unsigned_char {l = l} {p = p} {q = q}) m rest ts h = let w = cut m [] (at l (k.Reserved UNSIGNED.now) p) (at l (k.Reserved CHAR.now) q ∷ []) rest ts h in ap (λ us. is_base (kind_of us)) w.front

pub complete_base : {l : ℕ} {a : List Leveled} {to : Ty} → IsBase l a to
    → (m r : ℕ) (rest ts : List Token) → r ≡ m - l → Follows m a rest ts
    → plain_base (kind_of rest) ≡ None → base r ts ≡ through m a (Ok (to, rest))
complete_base (g.plain {l = l} {kind = kind} {p = p} {to = to} e) m r rest ts room h ends =
    let w = cut m [] (at l kind p) [] rest ts h in
    ap (base r) w.front ∙ ap (λ o. base_by o (is_unsigned kind) r ((at l kind p).token ∷ w.behind)) e
    ∙ take_goes r m (at l kind p) [] w.behind (λ u. Ok (to, u.1)) (Ok (to, rest)) room (λ low. ap (λ us. Ok (to, us)) (w.onward low))
complete_base (g.unsigned {l = l} {p = p}) m r rest ts room h ends =
    let x = at l (k.Reserved UNSIGNED.now) p in
    let w = cut m [] x [] rest ts h in
    ap (base r) w.front
    ∙ take_goes r m x [] w.behind (λ u. after_unsigned (plain_base (kind_of u.1)) r u.1) (Ok (the_ty.Unsigned, rest)) room
    (λ low. ap (λ us. after_unsigned (plain_base (kind_of us)) r us) (w.onward low) ∙ ap (λ o. after_unsigned o r rest) ends)
complete_base (g.unsigned_int {l = l} {p = p} {q = q}) m r rest ts room h ends =
    let x = at l (k.Reserved UNSIGNED.now) p in
    let y = at l (k.Reserved INT.now) q in
    let w = cut m [] x (y ∷ []) rest ts h in
    ap (base r) w.front
    ∙ take_goes r m x (y ∷ []) w.behind (λ u. after_unsigned (plain_base (kind_of u.1)) r u.1) (Ok (the_ty.Unsigned, rest)) room
    (λ low. let v = cut m [] y [] rest w.behind (w.onward low) in
    ap (λ us. after_unsigned (plain_base (kind_of us)) r us) v.front
    ∙ take_goes r m y [] v.behind (λ u. Ok (the_ty.Unsigned, u.1)) (Ok (the_ty.Unsigned, rest)) room (λ low. ap (λ us. Ok (the_ty.Unsigned, us)) (v.onward low)))
complete_base (g.unsigned_char {l = l} {p = p} {q = q}) m r rest ts room h ends =
    let x = at l (k.Reserved UNSIGNED.now) p in
    let y = at l (k.Reserved CHAR.now) q in
    let w = cut m [] x (y ∷ []) rest ts h in
    ap (base r) w.front
    ∙ take_goes r m x (y ∷ []) w.behind (λ u. after_unsigned (plain_base (kind_of u.1)) r u.1) (Ok (the_ty.Char, rest)) room
    (λ low. let v = cut m [] y [] rest w.behind (w.onward low) in
    ap (λ us. after_unsigned (plain_base (kind_of us)) r us) v.front
    ∙ take_goes r m y [] v.behind (λ u. Ok (the_ty.Char, u.1)) (Ok (the_ty.Char, rest)) room (λ low. ap (λ us. Ok (the_ty.Char, us)) (v.onward low)))

-- iterations, also where there is no room
chain_next : (operand : ℕ → List Token → Outcome Expr) (rk s : ℕ) (x : Expr) (t : Token)
    (b : List Token) (op : Binary) → operator_of rk t.kind ≡ Some op
    → chain_from operand rk s x (t ∷ b) ≡ (take s (t ∷ b) >>= λ u. operand (s - 1) u.1 >>= λ y. chain_from operand rk (s - 1) (expr.Binary op x y.0 u.0.place) y.1)
chain_next operand rk zero x t b op e = ap (λ o. chain_step (operand zero) (λ y us. Ok (y, us)) o zero x (t ∷ b)) e
chain_next operand rk (suc r) x t b op e =
    let one : r ≡ suc r - 1 = omega arith in
    ap (λ o. chain_step (operand r) (chain_from operand rk r) o (suc r) x (t ∷ b)) e
    ∙ ap (λ s. operand s b >>= λ y. chain_from operand rk s (expr.Binary op x y.0 t.place) y.1) one

index_next : (again : Rule → ℕ → List Token → Outcome Expr) (s : ℕ) (x : Expr) (p : Place)
    (b : List Token)
    → suffixes_from again s x (record { kind = k.Sign BRACKET_OPEN; place = p } ∷ b)
    ≡ (take s (record { kind = k.Sign BRACKET_OPEN; place = p } ∷ b) >>= λ u. again Assign s u.1 >>= λ y. expect (k.Sign BRACKET_CLOSE) s y.1 >>= λ c. suffixes_from again (s - 1) (expr.Index x y.0 u.0.place) c.1)
index_next again zero x p b = refl
index_next again (suc r) x p b =
    let one : r ≡ suc r - 1 = omega arith in
    ap (λ s. again Assign (suc r) b >>= λ y. expect (k.Sign BRACKET_CLOSE) (suc r) y.1 >>= λ c. suffixes_from again s (expr.Index x y.0 p) c.1) one

step_next : (again : Rule → ℕ → List Token → Outcome Expr) (s : ℕ) (x : Expr) (t : Token)
    (b : List Token) (how : Step) → same t.kind (k.Sign BRACKET_OPEN) ≡ false
    → last_step t.kind ≡ Some how
    → suffixes_from again s x (t ∷ b) ≡ (take s (t ∷ b) >>= λ u. suffixes_from again (s - 1) (expr.Step how x u.0.place) u.1)
step_next again zero x t b how e h = ap₂ (λ c o. suffix_step again (λ y us. Ok (y, us)) c o zero x (t ∷ b)) e h
step_next again (suc r) x t b how e h =
    let one : r ≡ suc r - 1 = omega arith in
    ap₂ (λ c o. suffix_step again (suffixes_from again r) c o (suc r) x (t ∷ b)) e h ∙ ap (λ s. suffixes_from again s (expr.Step how x t.place) b) one

operator_at : (rk : ℕ) (kind : Kind) (op : Binary) → binary_op kind ≡ Some op → rank op ≡ rk
    → operator_of rk kind ≡ Some op
operator_at rk kind op e h = ap (of_rank rk) e ∙ ap (λ (b : Bool). if b then Some op else None) (eq-eqb (rank op) rk h)

no_close : (kind : Kind) → begins kind ≡ true → closes kind ≡ false
no_close kind h = go (closes kind) refl
  where
    go : (b : Bool) → closes kind ≡ b → b ≡ false
    go false e = refl
    go true e = let none : begins kind ≡ false = ap begins (same_is kind (k.Sign PARENTHESIS_CLOSE) e) in let no : true ≡ false = sym h ∙ none in cc

builtin_reads : (again : Rule → ℕ → List Token → Outcome Expr) (r : ℕ) (ts : List Token)
    (kind : Kind) (callee : Callee) → builtin kind ≡ Some callee
    → unary_by again (unary_op kind) (first_step kind) (opens kind) r ts ≡ (primary again r ts >>= λ x. suffixes_from again r x.0 x.1)
builtin_reads again r ts kind callee e = let w = builtin_begins kind callee e in unary_is again r ts kind None None false w.no_prefix w.no_step w.no_open

builtin_primary : (again : Rule → ℕ → List Token → Outcome Expr) (r : ℕ) (ts : List Token)
    (kind : Kind) (callee : Callee) → builtin kind ≡ Some callee
    → primary_by again kind (is_eof kind) (builtin kind) r ts ≡ reserved again false (Some callee) r ts
builtin_primary again r ts kind callee e =
    let w = builtin_begins kind callee e in
    ap (λ c. primary_by again c (is_eof kind) (builtin kind) r ts) w.word.1 ∙ ap₂ (λ c o. reserved again c o r ts) w.no_eof e

some_tokens : (m : ℕ) (a : List Leveled) (x : Leveled) (rest ts : List Token)
    → Follows m (a ++ x ∷ []) rest ts → 0 < length ts
some_tokens m [] x rest [] h = absurd h
some_tokens m [] x rest (t ∷ ts) h = omega arith
some_tokens m (y ∷ a) x rest [] h = absurd h
some_tokens m (y ∷ a) x rest (t ∷ ts) h = omega arith

mutual
  unfolding assign_inside cond_inside binary unary_inside

  pub complete_assign : {l : ℕ} {a : List Leveled} {x : Expr} → IsAssign l a x
      → (m f r : ℕ) (rest ts : List Token) → r ≡ m - l → r ≤ f → Follows m a rest ts
      → 12 < binds (kind_of rest)
      → rule f Assign r ts ≡ through m a (Ok (x, rest))
  complete_assign (g.cond {l = l} {a = a} {x = x} h) m f r rest ts room deep i ends =
      enter m l f r Assign rest ts (Ok (x, rest)) (raised_less (raised_cond h)) room deep i (λ some.
      follow m a (λ x. assign_by (rule (f - 1)) (assign_op (kind_of x.1)) (r - 1) x.0 x.1) (complete_cond h m (f - 1) (r - 1) rest ts (omega arith) (omega arith) i (omega arith))
      (ap (λ o. assign_by (rule (f - 1)) o (r - 1) x rest) (no_assign (kind_of rest) ends)))
  complete_assign (g.assign {l = l} {p = p} {how = how} {a = a} {b = b} {x = x} {y = y} kind h e j) m f r rest ts room deep i ends =
      let mark = at (suc l) kind p in
      let w = cut m a mark b rest ts i in
      enter m l f r Assign rest ts (Ok (expr.Assign how x y p, rest)) (raised_append _ (raised_less (raised_cond h))) room deep i (λ some.
      follow_on m a (mark ∷ b) (λ x. assign_by (rule (f - 1)) (assign_op (kind_of x.1)) (r - 1) x.0 x.1) (Ok (expr.Assign how x y p, rest))
      (complete_cond h m (f - 1) (r - 1) (mark.token ∷ w.behind) ts (omega arith) (omega arith) w.front (let bound = assign_binds kind how e in omega arith))
      (ap (λ o. assign_by (rule (f - 1)) o (r - 1) x (mark.token ∷ w.behind)) e
      ∙ take_goes (r - 1) m mark b w.behind (λ u. rule (f - 1) Assign (r - 1) u.1 >>= λ y. Ok (expr.Assign how x y.0 u.0.place, y.1)) (Ok (expr.Assign how x y p, rest)) (omega arith) (λ low.
      follow m b (λ y. Ok (expr.Assign how x y.0 p, y.1)) (complete_assign j m (f - 1) (r - 1) rest w.behind (omega arith) (omega arith) (w.onward low) ends) refl)))

  pub complete_cond : {l : ℕ} {a : List Leveled} {x : Expr} → IsCond l a x
      → (m f r : ℕ) (rest ts : List Token) → r ≡ m - l → r ≤ f → Follows m a rest ts
      → 11 < binds (kind_of rest)
      → rule f Cond r ts ≡ through m a (Ok (x, rest))
  complete_cond (g.binary {l = l} {a = a} {x = x} h) m f r rest ts room deep i ends =
      enter m l f r Cond rest ts (Ok (x, rest)) (raised_binary h) room deep i (λ some.
      follow m a (λ x. conditional_by (rule (f - 1)) (same (kind_of x.1) (k.Sign QUESTION)) (r - 1) x.0 x.1) (complete_binary h m (f - 1) (r - 1) rest ts (omega arith) (omega arith) i (omega arith))
      (ap (λ c. conditional_by (rule (f - 1)) c (r - 1) x rest) (no_test (kind_of rest) ends)))
  complete_cond (g.conditional {l = l} {p = p} {a = a} {b = b} {c = c} {x = x} {y = y} {z = z} q h j n) m f r rest ts room deep i ends =
      let mark = at (suc l) (k.Sign QUESTION) p in
      let colon = at (suc l) (k.Sign COLON) q in
      let done : Outcome Expr = Ok (expr.Conditional x y z p, rest) in
      let w = cut m a mark (b ++ colon ∷ c) rest ts i in
      enter m l f r Cond rest ts done (raised_append _ (raised_binary h)) room deep i (λ some.
      follow_on m a (mark ∷ (b ++ colon ∷ c)) (λ x. conditional_by (rule (f - 1)) (same (kind_of x.1) (k.Sign QUESTION)) (r - 1) x.0 x.1) done
      (complete_binary h m (f - 1) (r - 1) (mark.token ∷ w.behind) ts (omega arith) (omega arith) w.front (omega arith))
      (take_goes (r - 1) m mark (b ++ colon ∷ c) w.behind (λ u. rule (f - 1) Assign (r - 1) u.1 >>= λ y. expect (k.Sign COLON) (r - 1) y.1 >>= λ c. rule (f - 1) Cond (r - 1) c.1 >>= λ z. Ok (expr.Conditional x y.0 z.0 u.0.place, z.1)) done (omega arith) (λ low.
      let v = cut m b colon c rest w.behind (w.onward low) in
      follow_on m b (colon ∷ c) (λ y. expect (k.Sign COLON) (r - 1) y.1 >>= λ c. rule (f - 1) Cond (r - 1) c.1 >>= λ z. Ok (expr.Conditional x y.0 z.0 p, z.1)) done
      (complete_assign j m (f - 1) (r - 1) (colon.token ∷ v.behind) w.behind (omega arith) (omega arith) v.front (omega arith))
      (take_goes (r - 1) m colon c v.behind (λ c. rule (f - 1) Cond (r - 1) c.1 >>= λ z. Ok (expr.Conditional x y z.0 p, z.1)) done (omega arith) (λ low'.
      follow m c (λ z. Ok (expr.Conditional x y z.0 p, z.1)) (complete_cond n m (f - 1) (r - 1) rest v.behind (omega arith) (omega arith) (v.onward low') ends) refl)))))

  complete_binary : {rk l : ℕ} {a : List Leveled} {x : Expr} → IsBinary rk l a x
      → (m f r : ℕ) (rest ts : List Token) → r ≡ m - l → r ≤ f → Follows m a rest ts
      → rk < binds (kind_of rest)
      → binary (rule f) rk r ts ≡ through m a (Ok (x, rest))
  complete_binary (g.unary h) m f r rest ts room deep i ends = complete_unary h m f r rest ts room deep i ends
  complete_binary (g.chain {r = rk} {l = l} {n = n} {a = a} {x = x} h) m f r rest ts room deep i ends =
      complete_chain h m f r rest ts room deep i (omega arith)
      ∙ ap (through m a) (chain_stops (binary (rule f) rk) (suc rk) (r - n) x rest (no_operator (suc rk) (kind_of rest) ends))

  complete_chain : {rk l n : ℕ} {a : List Leveled} {x : Expr} → IsChain rk l n a x
      → (m f r : ℕ) (rest ts : List Token) → r ≡ m - l → r ≤ f → Follows m a rest ts
      → rk < binds (kind_of rest)
      → binary (rule f) (suc rk) r ts ≡ through m a (chain_from (binary (rule f) rk) (suc rk) (r - n) x rest)
  complete_chain (g.first {r = rk} {l = l} {a = a} {x = x} h) m f r rest ts room deep i ends =
      follow m a (λ x. chain_from (binary (rule f) rk) (suc rk) r x.0 x.1) (complete_binary h m f r rest ts room deep i ends)
      (ap (λ r. chain_from (binary (rule f) rk) (suc rk) r x rest) (same_room r))
  complete_chain (g.next {r = rk} {l = l} {n = n} {p = p} {o = o} {a = a} {b = b} {x = x} {y = y} kind h e t j) m f r rest ts room deep i ends =
      let mark = at (l + n) kind p in
      let w = cut m a mark b rest ts i in
      let done = chain_from (binary (rule f) rk) (suc rk) (r - suc n) (expr.Binary o x y p) rest in
      let one : r - n - 1 ≡ r - suc n = omega arith in
      complete_chain h m f r (mark.token ∷ w.behind) ts room deep w.front (let bound = operator_binds kind o e in omega arith)
      ∙ ap (through m a) (chain_next (binary (rule f) rk) (suc rk) (r - n) x mark.token w.behind o (operator_at (suc rk) kind o e t)
      ∙ take_goes (r - n) m mark b w.behind (λ u. binary (rule f) rk (r - n - 1) u.1 >>= λ y. chain_from (binary (rule f) rk) (suc rk) (r - n - 1) (expr.Binary o x y.0 u.0.place) y.1) done (omega arith) (λ low.
      follow m b (λ y. chain_from (binary (rule f) rk) (suc rk) (r - n - 1) (expr.Binary o x y.0 p) y.1) (complete_binary j m f (r - n - 1) rest w.behind (omega arith) (omega arith) (w.onward low) ends)
      (ap (λ s. chain_from (binary (rule f) rk) (suc rk) s (expr.Binary o x y p) rest) one)))
      ∙ join m a (mark ∷ b) done

  pub complete_unary : {l : ℕ} {a : List Leveled} {x : Expr} → IsUnary l a x
      → (m f r : ℕ) (rest ts : List Token) → r ≡ m - l → r ≤ f → Follows m a rest ts
      → 0 < binds (kind_of rest)
      → rule f UnaryRule r ts ≡ through m a (Ok (x, rest))
  complete_unary (g.prefix {l = l} {p = p} {kind = kind} {o = o} {a = a} {x = x} e h) m f r rest ts room deep i ends =
      let mark = at (suc l) kind p in
      let w = cut m [] mark a rest ts i in
      enter m l f r UnaryRule rest ts (Ok (expr.Unary o x p, rest)) (raised_unary (g.prefix {p = p} e h)) room deep i (λ some.
      ap (unary_inside (rule (f - 1)) (r - 1)) w.front
      ∙ unary_is (rule (f - 1)) (r - 1) (mark.token ∷ w.behind) kind (Some o) (first_step kind) (opens kind) e refl refl
      ∙ take_goes (r - 1) m mark a w.behind (λ u. rule (f - 1) UnaryRule (r - 1) u.1 >>= λ x. Ok (expr.Unary o x.0 u.0.place, x.1)) (Ok (expr.Unary o x p, rest)) (omega arith) (λ low.
      follow m a (λ x. Ok (expr.Unary o x.0 p, x.1)) (complete_unary h m (f - 1) (r - 1) rest w.behind (omega arith) (omega arith) (w.onward low) ends) refl))
  complete_unary (g.step {l = l} {p = p} {kind = kind} {how = how} {a = a} {x = x} e h) m f r rest ts room deep i ends =
      let mark = at (suc l) kind p in
      let w = cut m [] mark a rest ts i in
      enter m l f r UnaryRule rest ts (Ok (expr.Step how x p, rest)) (raised_unary (g.step {p = p} e h)) room deep i (λ some.
      ap (unary_inside (rule (f - 1)) (r - 1)) w.front
      ∙ unary_is (rule (f - 1)) (r - 1) (mark.token ∷ w.behind) kind None (Some how) (opens kind) (step_begins kind how e).1 e refl
      ∙ take_goes (r - 1) m mark a w.behind (λ u. rule (f - 1) UnaryRule (r - 1) u.1 >>= λ x. Ok (expr.Step how x.0 u.0.place, x.1)) (Ok (expr.Step how x p, rest)) (omega arith) (λ low.
      follow m a (λ x. Ok (expr.Step how x.0 p, x.1)) (complete_unary h m (f - 1) (r - 1) rest w.behind (omega arith) (omega arith) (w.onward low) ends) refl))
  complete_unary (g.cast {l = l} {p = p} {a = a} {b = b} {to = to} {x = x} q j h) m f r rest ts room deep i ends =
      let opened = at (suc l) (k.Sign PARENTHESIS_OPEN) p in
      let closed = at (suc l) (k.Sign PARENTHESIS_CLOSE) q in
      let done : Outcome Expr = Ok (expr.Cast to x p, rest) in
      let w = cut m [] opened (a ++ closed ∷ b) rest ts i in
      enter m l f r UnaryRule rest ts done (raised_unary (g.cast {p = p} q j h)) room deep i (λ some.
      ap (unary_inside (rule (f - 1)) (r - 1)) w.front
      ∙ take_goes (r - 1) m opened (a ++ closed ∷ b) w.behind (λ u. after_open (rule (f - 1)) (is_base (kind_of u.1)) u.0.place (r - 1) u.1) done (omega arith) (λ low.
      let v = cut m a closed b rest w.behind (w.onward low) in
      ap (λ c. after_open (rule (f - 1)) c p (r - 1) w.behind) (base_kind j m (closed.token ∷ v.behind) w.behind v.front)
      ∙ follow_on m a (closed ∷ b) (λ to. expect (k.Sign PARENTHESIS_CLOSE) (r - 1) to.1 >>= λ c. rule (f - 1) UnaryRule (r - 1) c.1 >>= λ x. Ok (expr.Cast to.0 x.0 p, x.1)) done
      (complete_base j m (r - 1) (closed.token ∷ v.behind) w.behind (omega arith) v.front refl)
      (take_goes (r - 1) m closed b v.behind (λ c. rule (f - 1) UnaryRule (r - 1) c.1 >>= λ x. Ok (expr.Cast to x.0 p, x.1)) done (omega arith) (λ low'.
      follow m b (λ x. Ok (expr.Cast to x.0 p, x.1)) (complete_unary h m (f - 1) (r - 1) rest v.behind (omega arith) (omega arith) (v.onward low') ends) refl))))
  complete_unary (g.postfix {l = l} {n = n} {a = a} {x = x} h) m f r rest ts room deep i ends =
      let w = unbound (kind_of rest) ends in
      enter m l f r UnaryRule rest ts (Ok (x, rest)) (raised_postfix h) room deep i (λ some.
      complete_postfix h m (f - 1) (r - 1) rest ts (omega arith) (omega arith) i w.no_call
      ∙ ap (through m a) (suffixes_stop (rule (f - 1)) (r - 1 - n) x rest w.no_index w.no_step))

  complete_postfix : {l n : ℕ} {a : List Leveled} {x : Expr} → IsPostfix l n a x
      → (m f r : ℕ) (rest ts : List Token) → r ≡ m - l → r ≤ f → Follows m a rest ts
      → opens (kind_of rest) ≡ false
      → unary_inside (rule f) r ts ≡ through m a (suffixes_from (rule f) (r - n) x rest)
  complete_postfix (g.primary {l = l} {a = a} {x = x} h) m f r rest ts room deep i ends =
      complete_primary h m f r rest ts room deep i ends ∙ ap (λ s. through m a (suffixes_from (rule f) s x rest)) (same_room r)
  complete_postfix (g.index {l = l} {n = n} {p = p} {a = a} {b = b} {x = x} {y = y} q h j) m f r rest ts room deep i ends =
      let opened = at (l + n) (k.Sign BRACKET_OPEN) p in
      let closed = at (l + n) (k.Sign BRACKET_CLOSE) q in
      let w = cut m a opened (b ++ closed ∷ []) rest ts i in
      let done = suffixes_from (rule f) (r - suc n) (expr.Index x y p) rest in
      let one : r - n - 1 ≡ r - suc n = omega arith in
      complete_postfix h m f r (opened.token ∷ w.behind) ts room deep w.front refl
      ∙ ap (through m a) (index_next (rule f) (r - n) x p w.behind
      ∙ take_goes (r - n) m opened (b ++ closed ∷ []) w.behind (λ u. rule f Assign (r - n) u.1 >>= λ y. expect (k.Sign BRACKET_CLOSE) (r - n) y.1 >>= λ c. suffixes_from (rule f) (r - n - 1) (expr.Index x y.0 u.0.place) c.1) done (omega arith) (λ low.
      let v = cut m b closed [] rest w.behind (w.onward low) in
      follow_on m b (closed ∷ []) (λ y. expect (k.Sign BRACKET_CLOSE) (r - n) y.1 >>= λ c. suffixes_from (rule f) (r - n - 1) (expr.Index x y.0 p) c.1) done
      (complete_assign j m f (r - n) (closed.token ∷ v.behind) w.behind (omega arith) (omega arith) v.front (omega arith))
      (take_goes (r - n) m closed [] v.behind (λ c. suffixes_from (rule f) (r - n - 1) (expr.Index x y p) c.1) done (omega arith) (λ low'.
      ap (λ us. suffixes_from (rule f) (r - n - 1) (expr.Index x y p) us) (v.onward low') ∙ ap (λ s. suffixes_from (rule f) s (expr.Index x y p) rest) one))))
      ∙ join m a (opened ∷ (b ++ closed ∷ [])) done
  complete_postfix (g.step_last {l = l} {n = n} {p = p} {how = how} {a = a} {x = x} kind h e) m f r rest ts room deep i ends =
      let mark = at (l + n) kind p in
      let w = cut m a mark [] rest ts i in
      let done = suffixes_from (rule f) (r - suc n) (expr.Step how x p) rest in
      let one : r - n - 1 ≡ r - suc n = omega arith in
      complete_postfix h m f r (mark.token ∷ w.behind) ts room deep w.front (step_binds kind how e).1
      ∙ ap (through m a) (step_next (rule f) (r - n) x mark.token w.behind how (step_binds kind how e).0 e
      ∙ take_goes (r - n) m mark [] w.behind (λ u. suffixes_from (rule f) (r - n - 1) (expr.Step how x u.0.place) u.1) done (omega arith) (λ low.
      ap (λ us. suffixes_from (rule f) (r - n - 1) (expr.Step how x p) us) (w.onward low) ∙ ap (λ s. suffixes_from (rule f) s (expr.Step how x p) rest) one))
      ∙ join m a (mark ∷ []) done

  complete_primary : {l : ℕ} {a : List Leveled} {x : Expr} → IsPrimary l a x
      → (m f r : ℕ) (rest ts : List Token) → r ≡ m - l → r ≤ f → Follows m a rest ts
      → opens (kind_of rest) ≡ false
      → unary_inside (rule f) r ts ≡ through m a (suffixes_from (rule f) r x rest)
  complete_primary (g.name {l = l} {p = p} {n = n}) m f r rest ts room deep i ends =
      let first = at l (k.Name n) p in
      let w = cut m [] first [] rest ts i in
      ap (unary_inside (rule f) r) w.front
      ∙ follow m (first ∷ []) (λ x. suffixes_from (rule f) r x.0 x.1)
      (take_goes r m first [] w.behind (λ u. after_name (rule f) (opens (kind_of u.1)) n u.0.place r u.1) (Ok (expr.Name n p, rest)) room (λ low.
      ap (λ us. after_name (rule f) (opens (kind_of us)) n p r us) (w.onward low) ∙ ap (λ b. after_name (rule f) b n p r rest) ends)) refl
  complete_primary (g.eof {l = l} {p = p}) m f r rest ts room deep i ends =
      let first = at l (k.Reserved END_OF_FILE.now) p in
      let w = cut m [] first [] rest ts i in
      ap (unary_inside (rule f) r) w.front
      ∙ follow m (first ∷ []) (λ x. suffixes_from (rule f) r x.0 x.1)
      (take_goes r m first [] w.behind (λ u. Ok (expr.Eof u.0.place, u.1)) (Ok (expr.Eof p, rest)) room (λ low. ap (λ us. Ok (expr.Eof p, us)) (w.onward low))) refl
  complete_primary (g.number {l = l} {v = v} {ty = ty} {p = p}) m f r rest ts room deep i ends =
      let first = at l (k.Number ty v) p in
      let w = cut m [] first [] rest ts i in
      ap (unary_inside (rule f) r) w.front
      ∙ follow m (first ∷ []) (λ x. suffixes_from (rule f) r x.0 x.1)
      (take_goes r m first [] w.behind (λ u. Ok (expr.Number (ty_of ty) v u.0.place, u.1)) (Ok (expr.Number (ty_of ty) v p, rest)) room (λ low. ap (λ us. Ok (expr.Number (ty_of ty) v p, us)) (w.onward low))) refl
  complete_primary (g.character {l = l} {v = v} {p = p}) m f r rest ts room deep i ends =
      let first = at l (k.Character v) p in
      let w = cut m [] first [] rest ts i in
      ap (unary_inside (rule f) r) w.front
      ∙ follow m (first ∷ []) (λ x. suffixes_from (rule f) r x.0 x.1)
      (take_goes r m first [] w.behind (λ u. Ok (expr.Character v u.0.place, u.1)) (Ok (expr.Character v p, rest)) room (λ low. ap (λ us. Ok (expr.Character v p, us)) (w.onward low))) refl
  complete_primary (g.parens {l = l} {a = a} {x = x} p q h) m f r rest ts room deep i ends =
      let opened = at l (k.Sign PARENTHESIS_OPEN) p in
      let closed = at l (k.Sign PARENTHESIS_CLOSE) q in
      let w = cut m [] opened (a ++ closed ∷ []) rest ts i in
      let done = suffixes_from (rule f) r x rest in
      ap (unary_inside (rule f) r) w.front
      ∙ take_goes r m opened (a ++ closed ∷ []) w.behind (λ u. after_open (rule f) (is_base (kind_of u.1)) u.0.place r u.1) done room (λ low.
      let v = cut m a closed [] rest w.behind (w.onward low) in
      ap (λ c. after_open (rule f) c p r w.behind) (no_base (kind_of w.behind) (raised_kind m (closed.token ∷ v.behind) w.behind (raised_assign h) v.front))
      ∙ follow_on m a (closed ∷ []) (λ x. expect (k.Sign PARENTHESIS_CLOSE) r x.1 >>= λ c. suffixes_from (rule f) r x.0 c.1) done
      (complete_assign h m f r (closed.token ∷ v.behind) w.behind room deep v.front (omega arith))
      (take_goes r m closed [] v.behind (λ c. suffixes_from (rule f) r x c.1) done room (λ low'. ap (λ us. suffixes_from (rule f) r x us) (v.onward low'))))
  complete_primary (g.call {l = l} {p = p} {a = a} {xs = xs} q z (g.named {n = n}) j) m f r rest ts room deep i ends =
      let first = at l (k.Name n) p in
      let opened = at l (k.Sign PARENTHESIS_OPEN) q in
      let c = a ++ at l (k.Sign PARENTHESIS_CLOSE) z ∷ [] in
      let w = cut m [] first (opened ∷ c) rest ts i in
      let done : Outcome Expr = Ok (expr.Call (callees.Name n) (exprs_list xs) p, rest) in
      ap (unary_inside (rule f) r) w.front
      ∙ follow m (first ∷ (opened ∷ c)) (λ x. suffixes_from (rule f) r x.0 x.1)
      (take_goes r m first (opened ∷ c) w.behind (λ u. after_name (rule f) (opens (kind_of u.1)) n u.0.place r u.1) done room (λ low.
      let v = cut m [] opened c rest w.behind (w.onward low) in
      ap (λ us. after_name (rule f) (opens (kind_of us)) n p r us) v.front
      ∙ take_goes r m opened c v.behind (λ u. call (rule f) (callees.Name n) p r u.1) done room (λ low'. complete_call j m f r rest v.behind (callees.Name n) p z room deep (v.onward low')))) refl
  complete_primary (g.call {l = l} {p = p} {a = a} {xs = xs} q z (g.built_in {kind = kind} {callee = callee} e) j) m f r rest ts room deep i ends =
      let first = at l kind p in
      let opened = at l (k.Sign PARENTHESIS_OPEN) q in
      let c = a ++ at l (k.Sign PARENTHESIS_CLOSE) z ∷ [] in
      let w = cut m [] first (opened ∷ c) rest ts i in
      let done : Outcome Expr = Ok (expr.Call callee (exprs_list xs) p, rest) in
      ap (unary_inside (rule f) r) w.front
      ∙ builtin_reads (rule f) r (first.token ∷ w.behind) kind callee e
      ∙ follow m (first ∷ (opened ∷ c)) (λ x. suffixes_from (rule f) r x.0 x.1)
      (builtin_primary (rule f) r (first.token ∷ w.behind) kind callee e
      ∙ take_goes r m first (opened ∷ c) w.behind (λ u. expect (k.Sign PARENTHESIS_OPEN) r u.1 >>= λ o. call (rule f) callee u.0.place r o.1) done room (λ low.
      let v = cut m [] opened c rest w.behind (w.onward low) in
      ap (λ us. expect (k.Sign PARENTHESIS_OPEN) r us >>= λ o. call (rule f) callee p r o.1) v.front
      ∙ take_goes r m opened c v.behind (λ u. call (rule f) callee p r u.1) done room (λ low'. complete_call j m f r rest v.behind callee p z room deep (v.onward low')))) refl

  complete_call : {l : ℕ} {a : List Leveled} {xs : List Expr} → IsArguments l a xs
      → (m f r : ℕ) (rest ts : List Token) (callee : Callee) (p z : Place)
      → r ≡ m - l → r ≤ f → Follows m (a ++ at l (k.Sign PARENTHESIS_CLOSE) z ∷ []) rest ts
      → call (rule f) callee p r ts ≡ through m (a ++ at l (k.Sign PARENTHESIS_CLOSE) z ∷ []) (Ok (expr.Call callee (exprs_list xs) p, rest))
  complete_call (g.none {l = l}) m f r rest ts callee p z room deep i =
      let closed = at l (k.Sign PARENTHESIS_CLOSE) z in
      let w = cut m [] closed [] rest ts i in
      ap (call (rule f) callee p r) w.front
      ∙ follow m (closed ∷ []) (λ xs. Ok (expr.Call callee (exprs_list xs.0) p, xs.1))
      (take_goes r m closed [] w.behind (λ c. Ok ([], c.1)) (Ok ([], rest)) room (λ low. ap (λ us. Ok ([], us)) (w.onward low))) refl
  complete_call (g.some {l = l} {a = a} {xs = xs} j) m f r rest ts callee p z room deep i =
      let c = a ++ at l (k.Sign PARENTHESIS_CLOSE) z ∷ [] in
      ap (λ b. arguments_by (rule f) b r ts >>= λ xs. Ok (expr.Call callee (exprs_list xs.0) p, xs.1)) (no_close (kind_of ts) (raised_kind m rest ts (raised_append (at l (k.Sign PARENTHESIS_CLOSE) z ∷ []) (raised_listed j)) i))
      ∙ follow m c (λ xs. Ok (expr.Call callee (exprs_list xs.0) p, xs.1)) (complete_listed j m f r rest ts (length ts) [] z room deep i (omega arith)) refl

  complete_listed : {l : ℕ} {a : List Leveled} {xs : List Expr} → IsListed l a xs
      → (m f r : ℕ) (rest ts : List Token) (n : ℕ) (found : List Expr) (z : Place)
      → r ≡ m - l → r ≤ f → Follows m (a ++ at l (k.Sign PARENTHESIS_CLOSE) z ∷ []) rest ts → length ts ≤ n
      → turns (argument (rule f) r) n found ts ≡ through m (a ++ at l (k.Sign PARENTHESIS_CLOSE) z ∷ []) (Ok (found ++ xs, rest))
  complete_listed (g.one {l = l} {a = a} {x = x} h) m f r rest ts n found z room deep i most =
      let closed = at l (k.Sign PARENTHESIS_CLOSE) z in
      let w = cut m a closed [] rest ts i in
      let many = some_tokens m a closed rest ts i in
      ap (λ n. turns (argument (rule f) r) n found ts) (pred_suc n (omega arith))
      ∙ follow m (a ++ closed ∷ []) (turn (turns (argument (rule f) r) (n - 1)))
      (follow_on m a (closed ∷ []) (λ x. after_element (same (kind_of x.1) (k.Sign COMMA)) r (found ++ x.0 ∷ []) x.1) (Ok (inr (found ++ x ∷ []), rest))
      (complete_assign h m f r (closed.token ∷ w.behind) ts room deep w.front (omega arith))
      (take_goes r m closed [] w.behind (λ c. Ok (inr (found ++ x ∷ []), c.1)) (Ok (inr (found ++ x ∷ []), rest)) room (λ low. ap (λ us. Ok (inr (found ++ x ∷ []), us)) (w.onward low)))) refl
  complete_listed (g.more {l = l} {a = a} {b = b} {x = x} {xs = xs} p h j) m f r rest ts n found z room deep i most =
      let closed = at l (k.Sign PARENTHESIS_CLOSE) z in
      let comma = at l (k.Sign COMMA) p in
      let c = b ++ closed ∷ [] in
      let e : (a ++ comma ∷ b) ++ closed ∷ [] ≡ a ++ comma ∷ c = append_assoc a (comma ∷ b) (closed ∷ []) in
      let e' : (a ++ comma ∷ []) ++ c ≡ (a ++ comma ∷ b) ++ closed ∷ [] = append_assoc a (comma ∷ []) c ∙ sym e in
      let i' = subst (λ d. Follows m d rest ts) e i in
      let w = cut m a comma c rest ts i' in
      let next : Outcome (List Expr) = Ok (found ++ x ∷ xs, rest) in
      let many = some_tokens m (a ++ comma ∷ b) closed rest ts i in
      ap (λ n. turns (argument (rule f) r) n found ts) (pred_suc n (omega arith))
      ∙ follow m (a ++ comma ∷ []) (turn (turns (argument (rule f) r) (n - 1)))
      (follow_on m a (comma ∷ []) (λ x. after_element (same (kind_of x.1) (k.Sign COMMA)) r (found ++ x.0 ∷ []) x.1) (Ok (inl (found ++ x ∷ []), w.behind))
      (complete_assign h m f r (comma.token ∷ w.behind) ts room deep w.front (omega arith))
      (take_goes r m comma [] w.behind (λ c. Ok (inl (found ++ x ∷ []), c.1)) (Ok (inl (found ++ x ∷ []), w.behind)) room (λ low. refl))) refl
      ∙ under m a comma (turns (argument (rule f) r) (n - 1) (found ++ x ∷ []) w.behind) (through m c next) (λ all low.
      complete_listed j m f r rest w.behind (n - 1) (found ++ x ∷ []) z room deep (w.onward low) (omega (arith, ap length (all_of m a (comma.token ∷ w.behind) ts all w.front), length-append (tokens_of a) (comma.token ∷ w.behind))) ∙ ap (λ ys. through m c (Ok (ys, rest))) (append_assoc found (x ∷ []) xs))
      ∙ join m (a ++ comma ∷ []) c next ∙ ap (λ d. through m d next) e'
