-- The law of each rule.
use Rattle.std.proofs.Common.{◌≡◌, ◌<◌, ◌≤◌, ◌+◌, ◌-◌, ℕ, zero, suc, List, [], ◌∷◌, ◌++◌, length, Option, Some, None, Ok, Err, refl, sym, ap, ap₂, ◌∙◌, subst, arith, append_assoc, length-append, inl, inr, ◌⊎◌, Bool, true, false, eqb-true}
use Rattle.std.specs.Prelude.{◌==◌, if◌then◌else◌}
use Rattle.c_tree.specs.Expr.{Expr}
use Rattle.c_tree.specs.Expr as expr
use Rattle.c_tree.specs.View.{exprs_list}
use Rattle.c_tree.specs.declared.operator.Binary.{Binary}
use Rattle.c_tree.specs.declared.operator.Step.{Step}
use Rattle.c_tree.specs.declared.operator.Unary.{Unary}
use Rattle.c_tree.specs.declared.place.Place.{Place}
use Rattle.c_tree.specs.declared.tree.Callee.{Callee}
use Rattle.c_tree.specs.declared.tree.Callee.TheVariants as callees
use Rattle.c_token.specs.declared.token.Token.{Token}
use Rattle.c_token.specs.declared.token.Kind.{Kind}
use Rattle.c_token.specs.declared.token.Kind.TheVariants as k
use Rattle.c_expr.specs.declared.rule.Rule.{Rule}
use Rattle.c_expr.specs.declared.rule.Rule.TheVariants.{Assign, Cond, Unary as UnaryRule}
use Rattle.c_expr.specs.Leveled.{Leveled, at}
use Rattle.c_expr.specs.Spelled.{same, assign_op, binary_op, rank, lor, unary_op, first_step, last_step, builtin}
use Rattle.c_expr.specs.Grammar as g
use Rattle.c_expr.specs.Grammar.{IsBase, IsAssign, IsCond, IsBinary, IsChain, IsUnary, IsPostfix, IsPrimary, IsCallee, IsArguments, IsListed}
use Rattle.c_expr.specs.private.ParserRules.{IsRule}
use Rattle.c_expr.specs.Next.{Outcome, ◌>>=◌, kind_of, nowhere, refuse, take, expect, begins, is_base, is_eof, opens, closes}
use Rattle.c_expr.specs.private.ExpressionReading.{of_rank, operator_of, chain_step, chain_from, assign_inside, assign_by, cond_inside, conditional_by, binary, suffix_step, suffixes_from, rule, argument, arguments_by, after_element, call, after_name, reserved, primary, primary_by, after_open, unary_by, unary_inside, inside}
use Rattle.c_expr.proofs.Law.{Lawful, some_of, Looks, bind_law, weaken, pure_law, ended, stop_law, refuse_law, take_law, deep_law, look_law, plain}
use Rattle.c_expr.proofs.ParserTurns.{Turn, turns_law}
use Rattle.c_expr.proofs.Opens.{suffixes_stop}
use Rattle.c_expr.proofs.KindWords.{same_is, some_not_end}
use Rattle.c_expr.proofs.ExpressionFronts.{some_assign, expect_law, narrower, some_room, base_law}
use Rattle.c_expr.specs.declared.punctuator.TheConstants.{PARENTHESIS_OPEN, PARENTHESIS_CLOSE, BRACKET_OPEN, BRACKET_CLOSE, COMMA, QUESTION, COLON}
use Rattle.c_expr.specs.declared.keyword.TheConstants.{END_OF_FILE}

-- what is left of the arguments of a call, with the closing parenthesis
data ArgumentsLeft (l : ℕ) (found : List Expr) : List Leveled → List Expr → Type 0 where
  left : {c : List Leveled} {zs : List Expr} (q : Place) → IsListed l c zs
      → ArgumentsLeft l found (c ++ at l (k.Sign PARENTHESIS_CLOSE) q ∷ []) (found ++ zs)

data ArgumentsOrNone (l : ℕ) : List Leveled → List Expr → Type 0 where
  no_arguments : (p : Place) → ArgumentsOrNone l (at l (k.Sign PARENTHESIS_CLOSE) p ∷ []) []
  some_arguments : {c : List Leveled} {ys : List Expr} → ArgumentsLeft l [] c ys
      → ArgumentsOrNone l c ys

pub longer : (a : List Leveled) (x : Leveled) → 0 < length (a ++ x ∷ [])
longer a x = omega (arith, length-append a (x ∷ []))

comma_goes : (l : ℕ) (p : Place) (found : List Expr) (x : Expr) (a c : List Leveled)
    (y : List Expr) → IsAssign l a x → ArgumentsLeft l (found ++ x ∷ []) c y
    → ArgumentsLeft l found ((a ++ at l (k.Sign COMMA) p ∷ []) ++ c) y
comma_goes l p found x a _ _ h (left {c = c} {zs = zs} q i) =
    let comma = at l (k.Sign COMMA) p in
    let closed = at l (k.Sign PARENTHESIS_CLOSE) q in
    let e : (a ++ comma ∷ c) ++ closed ∷ [] ≡ (a ++ comma ∷ []) ++ (c ++ closed ∷ []) =
    append_assoc a (comma ∷ c) (closed ∷ []) ∙ sym (append_assoc a (comma ∷ []) (c ++ closed ∷ [])) in
    subst (λ d. ArgumentsLeft l found d ((found ++ x ∷ []) ++ zs)) e
    (subst (λ y. ArgumentsLeft l found ((a ++ comma ∷ c) ++ closed ∷ []) y) (sym (append_assoc found (x ∷ []) zs)) (left q (g.more p h i)))

-- operators
operator_is : (rk : ℕ) (kind : Kind) (op : Binary) → operator_of rk kind ≡ Some op
    → (binary_op kind ≡ Some op) × (rank op ≡ rk)
operator_is rk kind op e = go (binary_op kind) refl e
  where
    known : (op' : Binary) → binary_op kind ≡ Some op' → (b : Bool) → (rank op' == rk) ≡ b
        → (if b then Some op' else None) ≡ Some op → (binary_op kind ≡ Some op) × (rank op ≡ rk)
    known op' is true h e = let like : op' ≡ op = cc in (is ∙ ap Some like, subst (λ o. rank o ≡ rk) like (eqb-true (rank op') rk h))
    known op' is false h e = cc

    go : (w : Option Binary) → binary_op kind ≡ w → of_rank rk w ≡ Some op
        → (binary_op kind ≡ Some op) × (rank op ≡ rk)
    go None is e = cc
    go (Some op') is e = known op' is (rank op' == rk) refl e

pub chain_stops : (operand : ℕ → List Token → Outcome Expr) (rk r : ℕ) (x : Expr) (ts : List Token)
    → operator_of rk (kind_of ts) ≡ None → chain_from operand rk r x ts ≡ Ok (x, ts)
chain_stops operand rk zero x ts e = ap (λ o. chain_step (operand zero) (λ y us. Ok (y, us)) o zero x ts) e
chain_stops operand rk (suc r) x ts e = ap (λ o. chain_step (operand r) (chain_from operand rk r) o (suc r) x ts) e

chain_goes : (operand : ℕ → List Token → Outcome Expr) (rk r : ℕ) (x : Expr) (ts : List Token)
    (op : Binary) → operator_of rk (kind_of ts) ≡ Some op
    → chain_from operand rk (suc r) x ts ≡ chain_step (operand r) (chain_from operand rk r) (Some op) (suc r) x ts
chain_goes operand rk r x ts op e = ap (λ o. chain_step (operand r) (chain_from operand rk r) o (suc r) x ts) e

looks_none : (rk : ℕ) (ts b : List Token) → Looks ts b → operator_of rk (kind_of ts) ≡ None
    → operator_of rk (kind_of b) ≡ None
looks_none rk ts [] l e = refl
looks_none rk [] (y ∷ b) l e = absurd l
looks_none rk (t ∷ ts) (y ∷ b) l e = ap (λ (u : Token). operator_of rk u.kind) (sym l) ∙ e

pub chain_takes : (operand : ℕ → List Token → Outcome Expr) (rk r : ℕ) (x : Expr) (ts : List Token)
    (op : Binary) → operator_of rk (kind_of ts) ≡ Some op → 0 < r
    → chain_from operand rk r x ts ≡ (take r ts >>= λ u. operand (r - 1) u.1 >>= λ y. chain_from operand rk (r - 1) (expr.Binary op x y.0 u.0.place) y.1)
chain_takes operand rk zero x ts op e some = absurd (omega arith)
chain_takes operand rk (suc r) x ts op e some =
    let one : r ≡ suc r - 1 = omega arith in
    chain_goes operand rk r x ts op e ∙ ap (λ s. take (suc r) ts >>= λ u. operand s u.1 >>= λ y. chain_from operand rk s (expr.Binary op x y.0 u.0.place) y.1) one

-- suffixes
suffix_next : (l n : ℕ) (p : Place) (a b c : List Leveled) (q : Place) (z : Expr)
    → IsUnary l ((a ++ at (suc l + n) (k.Sign BRACKET_OPEN) p ∷ (b ++ at (suc l + n) (k.Sign BRACKET_CLOSE) q ∷ [])) ++ c) z
    → IsUnary l (a ++ (at (suc l + n) (k.Sign BRACKET_OPEN) p ∷ (b ++ (at (suc l + n) (k.Sign BRACKET_CLOSE) q ∷ c)))) z
suffix_next l n p a b c q z h = subst (λ d. IsUnary l d z)
    (append_assoc a _ c ∙ ap (λ d. a ++ at (suc l + n) (k.Sign BRACKET_OPEN) p ∷ d) (append_assoc b (at (suc l + n) (k.Sign BRACKET_CLOSE) q ∷ []) c)) h

pub suffixes_take : (again : Rule → ℕ → List Token → Outcome Expr) (r : ℕ) (x : Expr)
    (head : Token) (b : List Token) → same head.kind (k.Sign BRACKET_OPEN) ≡ true → 0 < r
    → suffixes_from again r x (head ∷ b) ≡ (take r (head ∷ b) >>= λ u. again Assign r u.1 >>= λ y. expect (k.Sign BRACKET_CLOSE) r y.1 >>= λ c. suffixes_from again (r - 1) (expr.Index x y.0 u.0.place) c.1)
suffixes_take again zero x u b e some = absurd (omega arith)
suffixes_take again (suc r) x u b e some =
    let one : r ≡ suc r - 1 = omega arith in
    ap (λ c. suffix_step again (suffixes_from again r) c (last_step u.kind) (suc r) x (u ∷ b)) e
    ∙ ap (λ s. take (suc r) (u ∷ b) >>= λ u. again Assign (suc r) u.1 >>= λ y. expect (k.Sign BRACKET_CLOSE) (suc r) y.1 >>= λ c. suffixes_from again s (expr.Index x y.0 u.0.place) c.1) one

pub suffixes_step : (again : Rule → ℕ → List Token → Outcome Expr) (r : ℕ) (x : Expr)
    (head : Token) (b : List Token) (how : Step) → same head.kind (k.Sign BRACKET_OPEN) ≡ false
    → last_step head.kind ≡ Some how → 0 < r
    → suffixes_from again r x (head ∷ b) ≡ (take r (head ∷ b) >>= λ u. suffixes_from again (r - 1) (expr.Step how x u.0.place) u.1)
suffixes_step again zero x u b how e h some = absurd (omega arith)
suffixes_step again (suc r) x u b how e h some =
    let one : r ≡ suc r - 1 = omega arith in
    ap₂ (λ c o. suffix_step again (suffixes_from again r) c o (suc r) x (u ∷ b)) e h
    ∙ ap (λ s. take (suc r) (u ∷ b) >>= λ u. suffixes_from again s (expr.Step how x u.0.place) u.1) one

looks_suffix : (ts b : List Token) → Looks ts b → same (kind_of ts) (k.Sign BRACKET_OPEN) ≡ false
    → last_step (kind_of ts) ≡ None
    → (same (kind_of b) (k.Sign BRACKET_OPEN) ≡ false) × (last_step (kind_of b) ≡ None)
looks_suffix ts [] l e h = (refl, refl)
looks_suffix [] (y ∷ b) l e h = absurd l
looks_suffix (t ∷ ts) (y ∷ b) l e h = (ap (λ (u : Token). same u.kind (k.Sign BRACKET_OPEN)) (sym l) ∙ e, ap (λ (u : Token). last_step u.kind) (sym l) ∙ h)

pub unary_is : (again : Rule → ℕ → List Token → Outcome Expr) (r : ℕ) (b : List Token)
    (kind : Kind) (op : Option Unary) (how : Option Step) (here : Bool) → unary_op kind ≡ op
    → first_step kind ≡ how → opens kind ≡ here
    → unary_by again (unary_op kind) (first_step kind) (opens kind) r b ≡ unary_by again op how here r b
unary_is again r b kind op how here x y z =
    ap (λ o. unary_by again o (first_step kind) (opens kind) r b) x ∙ ap₂ (λ h o. unary_by again op h o r b) y z

module _ (I : Type 0) (m f : ℕ) (f' : I → ℕ)
    (rules : (which : Rule) (l r : ℕ) (r' : I → ℕ) (ts : List Token) → r ≡ m - l → r ≤ f → ((i : I) → (r ≤ r' i) × (r' i ≤ f' i)) → Lawful m (plain (IsRule which l)) (λ i. rule (f' i) which (r' i)) ts (rule f which r ts)) where
  abbrev Wide : ℕ → (I → ℕ) → Type 0
  Wide r r' = (i : I) → (r ≤ r' i) × (r' i ≤ f' i)

  condition_law : (l r : ℕ) (r' : I → ℕ) (x : Expr) (a : List Leveled) (kind : Kind)
      (how : Option (Option Binary)) (ts : List Token) → IsCond (suc l) a x → r ≡ m - suc l → r ≤ f
      → Wide r r' → kind_of ts ≡ kind → assign_op kind ≡ how
      → Lawful m (λ b y us. IsAssign l (a ++ b) y) (λ i b. assign_by (rule (f' i)) (assign_op (kind_of b)) (r' i) x b) ts (assign_by (rule f) how r x ts)
  condition_law l r r' x a kind (Some how) ts h room deep wide is e =
      take_law (λ i b. assign_by (rule (f' i)) (assign_op (kind_of b)) (r' i) x b) (λ i u. rule (f' i) Assign (r' i) u.1 >>= λ y. Ok (expr.Assign how x y.0 u.0.place, y.1)) _ m (suc l) r r' kind ts room (λ i. (wide i).0) is (some_not_end assign_op how kind refl e)
      (λ i p b. ap (λ o. assign_by (rule (f' i)) o (r' i) x (record { kind = kind; place = p } ∷ b)) e) (λ p rest.
      bind_law _ _ (rules Assign (suc l) r r' rest room deep wide) (λ y rest b i cut.
      pure_law _ rest (ended (λ c z. IsAssign l (a ++ at (suc l) kind p ∷ c) z) (g.assign kind h e i))))
  condition_law l r r' x a kind None ts h room deep wide is e =
      stop_law (λ i c b. assign_by (rule (f' i)) (assign_op c) (r' i) x b) kind ts x is (ended (IsAssign l) (g.cond h)) (λ i b. ap (λ o. assign_by (rule (f' i)) o (r' i) x b) e) (λ i. refl)

  assign_law : (l r : ℕ) (r' : I → ℕ) (ts : List Token) → r ≡ m - suc l → r ≤ f → Wide r r'
      → Lawful m (plain (IsAssign l)) (λ i. assign_inside (rule (f' i)) (r' i)) ts
      (assign_inside (rule f) r ts)
  unfolding assign_inside
  assign_law l r r' ts room deep wide =
      bind_law _ _ (rules Cond (suc l) r r' ts room deep wide) (λ x rest a h cut. condition_law l r r' x a (kind_of rest) (assign_op (kind_of rest)) rest h room deep wide refl refl)

  module _ (rk : ℕ) (operand' : I → ℕ → List Token → Outcome Expr) (operand : ℕ → List Token → Outcome Expr)
      (operands : (l r : ℕ) (r' : I → ℕ) (ts : List Token) → r ≡ m - l → r ≤ f → Wide r r' → Lawful m (plain (IsBinary rk l)) (λ i. operand' i (r' i)) ts (operand r ts)) where
    chain_next : (l n : ℕ) (p : Place) (kind : Kind) (a b c : List Leveled) (z : Expr)
        → IsBinary (suc rk) l ((a ++ at (l + n) kind p ∷ b) ++ c) z → IsBinary (suc rk) l (a ++ (at (l + n) kind p ∷ (b ++ c))) z
    chain_next l n p kind a b c z h = subst (λ d. IsBinary (suc rk) l d z) (append_assoc a (at (l + n) kind p ∷ b) c) h

    chain_law : (r l n : ℕ) (r' : I → ℕ) (x : Expr) (a : List Leveled) (kind : Kind)
        (ts : List Token) (op : Option Binary) → kind_of ts ≡ kind → operator_of (suc rk) kind ≡ op
        → IsChain rk l n a x → r ≡ m - (l + n) → r ≤ f → Wide r r'
        → Lawful m (λ b y us. IsBinary (suc rk) l (a ++ b) y) (λ i b. chain_from (operand' i) (suc rk) (r' i) x b) ts (chain_from operand (suc rk) r x ts)
    chain_law r l n r' x a kind ts None is e h room deep wide =
        let none = ap (operator_of (suc rk)) is ∙ e in
        subst (λ o. Lawful m (λ b y us. IsBinary (suc rk) l (a ++ b) y) (λ i b. chain_from (operand' i) (suc rk) (r' i) x b) ts o) (sym (chain_stops operand (suc rk) r x ts none))
        (record {
          law = record {
            read = [];
            splits = refl;
            low = tt;
            holds = ended (IsBinary (suc rk) l) (g.chain h);
            again = λ i b look. chain_stops (operand' i) (suc rk) (r' i) x b (looks_none (suc rk) ts b look none);
          };
        })
    chain_law zero l n r' x a kind ts (Some op) is e h room deep wide =
        let known = operator_is (suc rk) kind op e in
        subst (λ w. Lawful m (λ b y us. IsBinary (suc rk) l (a ++ b) y) (λ i b. chain_from (operand' i) (suc rk) (r' i) x b) ts w)
        (sym (ap (λ o. chain_step (operand zero) (λ y us. Ok (y, us)) o zero x ts) (ap (operator_of (suc rk)) is ∙ e)))
        (deep_law _ m (l + n) kind ts room is (some_not_end binary_op op kind refl known.0) (λ p.
        let w = some_of (operands (suc (l + n)) zero (λ i. zero) [] (omega arith) (omega arith) (λ i. (omega arith, omega arith))) in
        record { spelling = w.spelling; value = expr.Binary op x w.value p; holds = g.chain (g.next kind h known.0 known.1 w.holds) }))
    chain_law (suc r) l n r' x a kind ts (Some op) is e h room deep wide =
        let known = operator_is (suc rk) kind op e in
        subst (λ w. Lawful m (λ b y us. IsBinary (suc rk) l (a ++ b) y) (λ i b. chain_from (operand' i) (suc rk) (r' i) x b) ts w)
        (sym (chain_goes operand (suc rk) r x ts op (ap (operator_of (suc rk)) is ∙ e)))
        (take_law (λ i b. chain_from (operand' i) (suc rk) (r' i) x b)
        (λ i u. operand' i (r' i - 1) u.1 >>= λ y. chain_from (operand' i) (suc rk) (r' i - 1) (expr.Binary op x y.0 u.0.place) y.1) _ m (l + n) (suc r) r' kind ts room (λ i. (wide i).0) is (some_not_end binary_op op kind refl known.0)
        (λ i p b. chain_takes (operand' i) (suc rk) (r' i) x (record { kind = kind; place = p } ∷ b) op e (some_room (wide i)))
        (λ p rest. bind_law (λ i y. chain_from (operand' i) (suc rk) (r' i - 1) (expr.Binary op x y.0 p) y.1) _ (operands (suc (l + n)) r (λ i. r' i - 1) rest (omega arith) (omega arith) (λ i. narrower (wide i))) (λ y us b j cut.
        weaken _ (λ i b. chain_from (operand' i) (suc rk) (r' i - 1) (expr.Binary op x y p) b) (λ c z us. chain_next l n p kind a b c z) (λ i c. refl)
        (chain_law r l (suc n) (λ i. r' i - 1) (expr.Binary op x y p) (a ++ at (l + n) kind p ∷ b) (kind_of us) us (operator_of (suc rk) (kind_of us)) refl refl (g.next kind h known.0 known.1 j) (omega arith) (omega arith) (λ i. narrower (wide i))))))

  binary_law : (rk l r : ℕ) (r' : I → ℕ) (ts : List Token) → r ≡ m - l → r ≤ f → Wide r r'
      → Lawful m (plain (IsBinary rk l)) (λ i. binary (rule (f' i)) rk (r' i)) ts
      (binary (rule f) rk r ts)
  unfolding binary
  binary_law zero l r r' ts room deep wide = weaken _ (λ i. rule (f' i) UnaryRule (r' i)) (λ b y us h. g.unary h) (λ i b. refl) (rules UnaryRule l r r' ts room deep wide)
  binary_law (suc rk) l r r' ts room deep wide =
      bind_law _ _ (binary_law rk l r r' ts room deep wide) (λ x rest a h cut.
      chain_law rk (λ i. binary (rule (f' i)) rk) (binary (rule f) rk) (binary_law rk) r l zero r' x a (kind_of rest) rest (operator_of (suc rk) (kind_of rest)) refl refl (g.first h) (omega arith) deep wide)

  test_law : (l r : ℕ) (r' : I → ℕ) (x : Expr) (a : List Leveled) (kind : Kind) (here : Bool)
      (ts : List Token) → IsBinary lor (suc l) a x → r ≡ m - suc l → r ≤ f → Wide r r'
      → kind_of ts ≡ kind → same kind (k.Sign QUESTION) ≡ here
      → Lawful m (λ b y us. IsCond l (a ++ b) y) (λ i b. conditional_by (rule (f' i)) (same (kind_of b) (k.Sign QUESTION)) (r' i) x b) ts (conditional_by (rule f) here r x ts)
  test_law l r r' x a kind true ts h room deep wide is e =
      take_law (λ i b. conditional_by (rule (f' i)) (same (kind_of b) (k.Sign QUESTION)) (r' i) x b) _ _ m (suc l) r r' (k.Sign QUESTION) ts room (λ i. (wide i).0) (is ∙ same_is kind (k.Sign QUESTION) e) (λ e. cc) (λ i p b. refl) (λ p rest.
      bind_law _ _ (rules Assign (suc l) r r' rest room deep wide) (λ y us b i cut.
      expect_law _ _ m (suc l) r r' (k.Sign COLON) us room (λ i. (wide i).0) (refl, refl) (λ q vs.
      bind_law _ _ (rules Cond (suc l) r r' vs room deep wide) (λ z ws c j cut.
      pure_law _ ws (ended (λ d y. IsCond l (a ++ at (suc l) (k.Sign QUESTION) p ∷ (b ++ at (suc l) (k.Sign COLON) q ∷ d)) y) (g.conditional q h i j))))))
  test_law l r r' x a kind false ts h room deep wide is e =
      stop_law (λ i c b. conditional_by (rule (f' i)) (same c (k.Sign QUESTION)) (r' i) x b) kind ts x is (ended (IsCond l) (g.binary h)) (λ i b. ap (λ o. conditional_by (rule (f' i)) o (r' i) x b) e) (λ i. refl)

  cond_law : (l r : ℕ) (r' : I → ℕ) (ts : List Token) → r ≡ m - suc l → r ≤ f → Wide r r'
      → Lawful m (plain (IsCond l)) (λ i. cond_inside (rule (f' i)) (r' i)) ts
      (cond_inside (rule f) r ts)
  unfolding cond_inside
  cond_law l r r' ts room deep wide =
      bind_law _ _ (binary_law lor (suc l) r r' ts room deep wide) (λ x rest a h cut. test_law l r r' x a (kind_of rest) (same (kind_of rest) (k.Sign QUESTION)) rest h room deep wide refl refl)

  suffixes_law : (r l n : ℕ) (r' : I → ℕ) (x : Expr) (a : List Leveled) (kind : Kind) (here : Bool)
      (how : Option Step) (ts : List Token) → kind_of ts ≡ kind
      → same kind (k.Sign BRACKET_OPEN) ≡ here → last_step kind ≡ how
      → IsPostfix (suc l) n a x → r ≡ m - (suc l + n) → r ≤ f → Wide r r'
      → Lawful m (λ b y us. IsUnary l (a ++ b) y) (λ i b. suffixes_from (rule (f' i)) (r' i) x b) ts (suffixes_from (rule f) r x ts)
  suffixes_law zero l n r' x a kind true how ts is e i h room deep wide =
      subst (λ c. Lawful m (λ b y us. IsUnary l (a ++ b) y) (λ i b. suffixes_from (rule (f' i)) (r' i) x b) ts (suffix_step (rule f) (λ y us. Ok (y, us)) c (last_step (kind_of ts)) zero x ts)) (sym (ap (λ c. same c (k.Sign BRACKET_OPEN)) is ∙ e))
      (deep_law _ m (suc l + n) (k.Sign BRACKET_OPEN) ts room (is ∙ same_is kind (k.Sign BRACKET_OPEN) e) (λ h. cc) (λ p.
      let w = some_of (rules Assign (suc l + n) zero (λ i. zero) [] room deep (λ i. (omega arith, omega arith))) in
      record { spelling = w.spelling ++ at (suc l + n) (k.Sign BRACKET_CLOSE) nowhere ∷ []; value = expr.Index x w.value p; holds = g.postfix (g.index nowhere h w.holds) }))
  suffixes_law (suc r) l n r' x a kind true how ts is e i h room deep wide =
      subst (λ c. Lawful m (λ b y us. IsUnary l (a ++ b) y) (λ i b. suffixes_from (rule (f' i)) (r' i) x b) ts (suffix_step (rule f) (suffixes_from (rule f) r) c (last_step (kind_of ts)) (suc r) x ts)) (sym (ap (λ c. same c (k.Sign BRACKET_OPEN)) is ∙ e))
      (take_law (λ i b. suffixes_from (rule (f' i)) (r' i) x b)
      (λ i u. rule (f' i) Assign (r' i) u.1 >>= λ y. expect (k.Sign BRACKET_CLOSE) (r' i) y.1 >>= λ c. suffixes_from (rule (f' i)) (r' i - 1) (expr.Index x y.0 u.0.place) c.1) _ m (suc l + n) (suc r) r' (k.Sign BRACKET_OPEN) ts room (λ i. (wide i).0) (is ∙ same_is kind (k.Sign BRACKET_OPEN) e) (λ h. cc)
      (λ i p b. suffixes_take (rule (f' i)) (r' i) x (record { kind = k.Sign BRACKET_OPEN; place = p }) b refl (some_room (wide i))) (λ p rest.
      bind_law (λ i y. expect (k.Sign BRACKET_CLOSE) (r' i) y.1 >>= λ c. suffixes_from (rule (f' i)) (r' i - 1) (expr.Index x y.0 p) c.1) _ (rules Assign (suc l + n) (suc r) r' rest room deep wide) (λ y us b j cut.
      expect_law (λ i c. suffixes_from (rule (f' i)) (r' i - 1) (expr.Index x y p) c.1) _ m (suc l + n) (suc r) r' (k.Sign BRACKET_CLOSE) us room (λ i. (wide i).0) (refl, refl) (λ q vs.
      weaken _ (λ i b. suffixes_from (rule (f' i)) (r' i - 1) (expr.Index x y p) b) (λ c z us. suffix_next l n p a b c q z) (λ i c. refl)
      (suffixes_law r l (suc n) (λ i. r' i - 1) (expr.Index x y p) _ (kind_of vs) (same (kind_of vs) (k.Sign BRACKET_OPEN)) (last_step (kind_of vs)) vs refl refl refl (g.index q h j) (omega arith) (omega arith) (λ i. narrower (wide i)))))))
  suffixes_law zero l n r' x a kind false (Some how) ts is e i h room deep wide =
      subst (λ o. Lawful m (λ b y us. IsUnary l (a ++ b) y) (λ i b. suffixes_from (rule (f' i)) (r' i) x b) ts o)
      (sym (ap₂ (λ c o. suffix_step (rule f) (λ y us. Ok (y, us)) c o zero x ts) (ap (λ c. same c (k.Sign BRACKET_OPEN)) is ∙ e) (ap last_step is ∙ i)))
      (deep_law _ m (suc l + n) kind ts room is (some_not_end last_step how kind refl i) (λ p.
      record { spelling = []; value = expr.Step how x p; holds = g.postfix (g.step_last kind h i) }))
  suffixes_law (suc r) l n r' x a kind false (Some how) ts is e i h room deep wide =
      subst (λ o. Lawful m (λ b y us. IsUnary l (a ++ b) y) (λ i b. suffixes_from (rule (f' i)) (r' i) x b) ts o)
      (sym (ap₂ (λ c o. suffix_step (rule f) (suffixes_from (rule f) r) c o (suc r) x ts) (ap (λ c. same c (k.Sign BRACKET_OPEN)) is ∙ e) (ap last_step is ∙ i)))
      (take_law (λ i b. suffixes_from (rule (f' i)) (r' i) x b) (λ i u. suffixes_from (rule (f' i)) (r' i - 1) (expr.Step how x u.0.place) u.1) _ m (suc l + n) (suc r) r' kind ts room (λ i. (wide i).0) is (some_not_end last_step how kind refl i)
      (λ j p b. suffixes_step (rule (f' j)) (r' j) x (record { kind = kind; place = p }) b how e i (some_room (wide j))) (λ p rest.
      weaken _ (λ i b. suffixes_from (rule (f' i)) (r' i - 1) (expr.Step how x p) b) (λ c z us j. subst (λ d. IsUnary l d z) (append_assoc a (at (suc l + n) kind p ∷ []) c) j) (λ i c. refl)
      (suffixes_law r l (suc n) (λ i. r' i - 1) (expr.Step how x p) (a ++ at (suc l + n) kind p ∷ []) (kind_of rest) (same (kind_of rest) (k.Sign BRACKET_OPEN)) (last_step (kind_of rest)) rest refl refl refl (g.step_last kind h i) (omega arith) (omega arith) (λ i. narrower (wide i)))))
  suffixes_law r l n r' x a kind false None ts is e i h room deep wide =
      let none = ap (λ c. same c (k.Sign BRACKET_OPEN)) is ∙ e in
      let stop = ap last_step is ∙ i in
      subst (λ o. Lawful m (λ b y us. IsUnary l (a ++ b) y) (λ i b. suffixes_from (rule (f' i)) (r' i) x b) ts o) (sym (suffixes_stop (rule f) r x ts none stop))
      (record {
        law = record {
          read = [];
          splits = refl;
          low = tt;
          holds = ended (IsUnary l) (g.postfix h);
          again = λ j b look. let w = looks_suffix ts b look none stop in suffixes_stop (rule (f' j)) (r' j) x b w.0 w.1;
        };
      })

  pub suffixed : (r l : ℕ) (r' : I → ℕ) (x : Expr) (a : List Leveled) (ts : List Token)
      → IsPrimary (suc l) a x → r ≡ m - suc l → r ≤ f → Wide r r'
      → Lawful m (λ b y us. IsUnary l (a ++ b) y) (λ i b. suffixes_from (rule (f' i)) (r' i) x b) ts (suffixes_from (rule f) r x ts)
  suffixed r l r' x a ts h room deep wide = suffixes_law r l zero r' x a (kind_of ts) (same (kind_of ts) (k.Sign BRACKET_OPEN)) (last_step (kind_of ts)) ts refl refl refl (g.primary h) (omega arith) deep wide

  -- primary expressions
  module _ (refuses : (i : I) (which : Rule) (r : ℕ) (ts : List Token) → begins (kind_of ts) ≡ false → rule (f' i) which r ts ≡ refuse ts)
      (shrinks : (i : I) (which : Rule) (r : ℕ) (ts us : List Token) (x : Expr) → r ≤ f' i → rule (f' i) which r ts ≡ Ok (x, us) → length us ≤ length ts) where
    separated : (l r : ℕ) (r' : I → ℕ) (found : List Expr) (x : Expr) (a : List Leveled)
        (kind : Kind) (comma : Bool) (ts : List Token) → kind_of ts ≡ kind
        → same kind (k.Sign COMMA) ≡ comma → IsAssign l a x → r ≡ m - l → Wide r r'
        → Lawful m (λ b z us. Turn (λ found. plain (ArgumentsLeft l found)) found (a ++ b) z us) (λ i b. after_element (same (kind_of b) (k.Sign COMMA)) (r' i) (found ++ x ∷ []) b) ts (after_element comma r (found ++ x ∷ []) ts)
    separated l r r' found x a kind true ts is e j room wide =
        take_law (λ i b. after_element (same (kind_of b) (k.Sign COMMA)) (r' i) (found ++ x ∷ []) b) (λ i c. Ok (inl (found ++ x ∷ []), c.1)) (λ c. Ok (inl (found ++ x ∷ []), c.1)) m l r r' (k.Sign COMMA) ts room (λ i. (wide i).0)
        (is ∙ same_is kind (k.Sign COMMA) e) (λ e. cc) (λ i p b. refl) (λ p rest.
        pure_law (inl (found ++ x ∷ [])) rest (longer a (at l (k.Sign COMMA) p), λ c y vs h. comma_goes l p found x a c y j h))
    separated l r r' found x a kind false ts is e j room wide =
        look_law (λ b z us. Turn (λ found. plain (ArgumentsLeft l found)) found (a ++ b) z us) (λ i c b. after_element (same c (k.Sign COMMA)) (r' i) (found ++ x ∷ []) b) kind ts _ is
        (weaken _ (λ i b. after_element (same kind (k.Sign COMMA)) (r' i) (found ++ x ∷ []) b) (λ b y us h. h) (λ i b. sym (ap (λ c. after_element c (r' i) (found ++ x ∷ []) b) e))
        (expect_law (λ i c. Ok (inr (found ++ x ∷ []), c.1)) (λ c. Ok (inr (found ++ x ∷ []), c.1)) m l r r' (k.Sign PARENTHESIS_CLOSE) ts room (λ i. (wide i).0) (refl, refl) (λ p rest.
        pure_law (inr (found ++ x ∷ [])) rest (left p (g.one j)))))
        (λ i. sym (ap (λ c. after_element c (r' i) (found ++ x ∷ []) []) e))

    argument_law : (l r : ℕ) (r' : I → ℕ) (found : List Expr) (ts : List Token) → r ≡ m - l → r ≤ f
        → Wide r r'
        → Lawful m (Turn (λ found. plain (ArgumentsLeft l found)) found) (λ i. argument (rule (f' i)) (r' i) found) ts (argument (rule f) r found ts)
    argument_law l r r' found ts room deep wide =
        bind_law (λ i x. after_element (same (kind_of x.1) (k.Sign COMMA)) (r' i) (found ++ x.0 ∷ []) x.1) (λ x. after_element (same (kind_of x.1) (k.Sign COMMA)) r (found ++ x.0 ∷ []) x.1)
        (rules Assign l r r' ts room deep wide) (λ x rest a h cut. separated l r r' found x a (kind_of rest) (same (kind_of rest) (k.Sign COMMA)) rest refl refl h room wide)

    argument_empty : (i : I) (r : ℕ) (found : List Expr)
        → argument (rule (f' i)) r found [] ≡ refuse []
    argument_empty i r found = ap (λ o. o >>= λ x. after_element (same (kind_of x.1) (k.Sign COMMA)) r (found ++ x.0 ∷ []) x.1) (refuses i Assign r [] refl)

    take_shrinks : (X : Type 0) (r : ℕ) (ts us : List Token) (y z : X)
        → (take r ts >>= λ c. Ok (y, c.1)) ≡ Ok (z, us) → length us < length ts
    take_shrinks X r [] us y z e = cc
    take_shrinks X zero (t ∷ ts) us y z e = cc
    take_shrinks X (suc r) (t ∷ ts) us y z e = let pairs : (y, ts) ≡ (z, us) = cc in let like : ts ≡ us = ap (λ (p : X × List Token). p.1) pairs in omega (arith, ap length like)

    last_is_last : (o : Outcome Token) (found y : List Expr) (us : List Token)
        → ◌≡◌ {A = Outcome (List Expr ⊎ List Expr)} (o >>= λ c. Ok (inr found, c.1))
        (Ok (inl y, us)) → ⊥
    last_is_last (Err e) found y us h = cc
    last_is_last (Ok c) found y us h =
        let pairs : (inr found, c.1) ≡ (inl y, us) = cc in
        let like : inr found ≡ inl y = ap (λ (p : (List Expr ⊎ List Expr) × List Token). p.0) pairs in cc

    comma_shrinks : (i : I) (r : ℕ) (found : List Expr) (comma : Bool) (rest us : List Token)
        (y : List Expr) → after_element comma r found rest ≡ Ok (inl y, us)
        → length us < length rest
    comma_shrinks i r found true rest us y e = take_shrinks (List Expr ⊎ List Expr) r rest us (inl found) (inl y) e
    comma_shrinks i r found false rest us y e = absurd (last_is_last (expect (k.Sign PARENTHESIS_CLOSE) r rest) found y us e)

    argument_by : (i : I) (r : ℕ) (found y : List Expr) (ts us : List Token) (o : Outcome Expr)
        → r ≤ f' i → rule (f' i) Assign r ts ≡ o
        → (o >>= λ x. after_element (same (kind_of x.1) (k.Sign COMMA)) r (found ++ x.0 ∷ []) x.1) ≡ Ok (inl y, us) → length us < length ts
    argument_by i r found y ts us (Ok x) deep is e =
        let a = shrinks i Assign r ts x.1 x.0 deep is in
        let b = comma_shrinks i r (found ++ x.0 ∷ []) (same (kind_of x.1) (k.Sign COMMA)) x.1 us y e in omega arith
    argument_by i r found y ts us (Err g) deep is e = cc

    arguments_law : (l r : ℕ) (r' : I → ℕ) (kind : Kind) (none : Bool) (ts : List Token)
        → kind_of ts ≡ kind → closes kind ≡ none → r ≡ m - l → r ≤ f → Wide r r'
        → Lawful m (plain (ArgumentsOrNone l)) (λ i b. arguments_by (rule (f' i)) (closes (kind_of b)) (r' i) b) ts (arguments_by (rule f) none r ts)
    arguments_law l r r' kind true ts is e room deep wide =
        take_law (λ i b. arguments_by (rule (f' i)) (closes (kind_of b)) (r' i) b) _ _ m l r r' (k.Sign PARENTHESIS_CLOSE) ts room (λ i. (wide i).0) (is ∙ same_is kind (k.Sign PARENTHESIS_CLOSE) e) (λ e. cc) (λ i p b. refl) (λ p rest. pure_law [] rest (no_arguments p))
    arguments_law l r r' kind false ts is e room deep wide =
        look_law (plain (ArgumentsOrNone l)) (λ i c b. arguments_by (rule (f' i)) (closes c) (r' i) b) kind ts _ is
        (weaken (plain (ArgumentsOrNone l)) (λ i b. arguments_by (rule (f' i)) (closes kind) (r' i) b) (λ b y us h. some_arguments h) (λ i b. sym (ap (λ c. arguments_by (rule (f' i)) c (r' i) b) e))
        (turns_law m (λ found. plain (ArgumentsLeft l found)) (λ found. record { spelling = _; value = _; holds = left nowhere (g.one (some_assign l).holds) }) (λ i. argument (rule (f' i)) (r' i)) (argument (rule f) r)
        (λ i. argument_empty i (r' i)) (λ i x y us vs e. argument_by i (r' i) x y us vs (rule (f' i) Assign (r' i) us) (wide i).1 refl e)
        (λ found us. argument_law l r r' found us room deep wide) (length ts) [] ts (omega arith))) (λ i. sym (ap (λ c. arguments_by (rule (f' i)) c (r' i) []) e))

    call_ends : (l : ℕ) (kind : Kind) (callee : Callee) (p q : Place) (c : List Leveled)
        (ys : List Expr) → IsCallee kind callee → ArgumentsOrNone l c ys
        → IsPrimary l (at l kind p ∷ (at l (k.Sign PARENTHESIS_OPEN) q ∷ c))
        (expr.Call callee (exprs_list ys) p)
    call_ends l kind callee p q _ _ h (no_arguments z) = g.call q z h g.none
    call_ends l kind callee p q _ _ h (some_arguments (left z i)) = g.call q z h (g.some i)

    call_law : (l r : ℕ) (r' : I → ℕ) (kind : Kind) (callee : Callee) (p q : Place)
        (ts : List Token) → IsCallee kind callee → r ≡ m - l → r ≤ f → Wide r r'
        → Lawful m (λ b y us. IsPrimary l (at l kind p ∷ (at l (k.Sign PARENTHESIS_OPEN) q ∷ b)) y) (λ i b. call (rule (f' i)) callee p (r' i) b) ts (call (rule f) callee p r ts)
    call_law l r r' kind callee p q ts h room deep wide =
        bind_law _ _ (arguments_law l r r' (kind_of ts) (closes (kind_of ts)) ts refl refl room deep wide) (λ ys us b j cut.
        pure_law (expr.Call callee (exprs_list ys) p) us (ended (λ c y. IsPrimary l (at l kind p ∷ (at l (k.Sign PARENTHESIS_OPEN) q ∷ c)) y) (call_ends l kind callee p q b ys h j)))

    named_law : (l r : ℕ) (r' : I → ℕ) (n : List ℕ) (p : Place) (kind : Kind) (here : Bool)
        (ts : List Token) → kind_of ts ≡ kind → opens kind ≡ here → r ≡ m - l → r ≤ f → Wide r r'
        → Lawful m (λ b y us. IsPrimary l (at l (k.Name n) p ∷ b) y) (λ i b. after_name (rule (f' i)) (opens (kind_of b)) n p (r' i) b) ts (after_name (rule f) here n p r ts)
    named_law l r r' n p kind true ts is e room deep wide =
        take_law (λ i b. after_name (rule (f' i)) (opens (kind_of b)) n p (r' i) b) _ _ m l r r' (k.Sign PARENTHESIS_OPEN) ts room (λ i. (wide i).0) (is ∙ same_is kind (k.Sign PARENTHESIS_OPEN) e) (λ e. cc) (λ i p b. refl) (λ q rest.
        call_law l r r' (k.Name n) (callees.Name n) p q rest g.named room deep wide)
    named_law l r r' n p kind false ts is e room deep wide =
        stop_law (λ i c b. after_name (rule (f' i)) (opens c) n p (r' i) b) kind ts (expr.Name n p) is g.name (λ i b. ap (λ c. after_name (rule (f' i)) c n p (r' i) b) e) (λ i. refl)

    reserved_law : (l r : ℕ) (r' : I → ℕ) (kind : Kind) (eof : Bool) (callee : Option Callee)
        (ts : List Token) → kind_of ts ≡ kind → is_eof kind ≡ eof → builtin kind ≡ callee
        → ((i : I) (b : List Token) → primary_by (rule (f' i)) kind (is_eof kind) (builtin kind) (r' i) b ≡ reserved (rule (f' i)) (is_eof kind) (builtin kind) (r' i) b) → r ≡ m - l → r ≤ f → Wide r r'
        → Lawful m (plain (IsPrimary l)) (λ i b. primary (rule (f' i)) (r' i) b) ts (reserved (rule f) eof callee r ts)
    reserved_law l r r' kind true callee ts is e h word room deep wide =
        take_law (λ i b. primary (rule (f' i)) (r' i) b) _ _ m l r r' (k.Reserved END_OF_FILE.now) ts room (λ i. (wide i).0) (is ∙ same_is kind (k.Reserved END_OF_FILE.now) e) (λ e. cc) (λ i p b. refl) (λ p rest. pure_law _ rest g.eof)
    reserved_law l r r' kind false (Some callee) ts is e h word room deep wide =
        take_law (λ i b. primary (rule (f' i)) (r' i) b) (λ i u. expect (k.Sign PARENTHESIS_OPEN) (r' i) u.1 >>= λ o. call (rule (f' i)) callee u.0.place (r' i) o.1) _ m l r r' kind ts room (λ i. (wide i).0) is (some_not_end builtin callee kind refl h)
        (λ i p b. word i (record { kind = kind; place = p } ∷ b) ∙ ap₂ (λ c o. reserved (rule (f' i)) c o (r' i) (record { kind = kind; place = p } ∷ b)) e h) (λ p rest.
        expect_law (λ i o. call (rule (f' i)) callee p (r' i) o.1) _ m l r r' (k.Sign PARENTHESIS_OPEN) rest room (λ i. (wide i).0) (refl, refl) (λ q us.
        call_law l r r' kind callee p q us (g.built_in h) room deep wide))
    reserved_law l r r' kind false None ts is e h word room deep wide =
        refuse_law (λ i c b. primary_by (rule (f' i)) c (is_eof c) (builtin c) (r' i) b) kind ts is (record { spelling = _; value = _; holds = g.character {l = l} {v = 0} {p = nowhere} })
        (λ i b. word i b ∙ ap₂ (λ c o. reserved (rule (f' i)) c o (r' i) b) e h) (λ i. refl)

    primary_law : (l r : ℕ) (r' : I → ℕ) (kind : Kind) (ts : List Token) → kind_of ts ≡ kind
        → r ≡ m - l → r ≤ f → Wide r r'
        → Lawful m (plain (IsPrimary l)) (λ i b. primary (rule (f' i)) (r' i) b) ts (primary_by (rule f) kind (is_eof kind) (builtin kind) r ts)
    primary_law l r r' (k.Name n) ts is room deep wide =
        take_law (λ i b. primary (rule (f' i)) (r' i) b) _ _ m l r r' (k.Name n) ts room (λ i. (wide i).0) is (λ e. cc) (λ i p b. refl) (λ p rest.
        named_law l r r' n p (kind_of rest) (opens (kind_of rest)) rest refl refl room deep wide)
    primary_law l r r' (k.Number ty v) ts is room deep wide =
        take_law (λ i b. primary (rule (f' i)) (r' i) b) _ _ m l r r' (k.Number ty v) ts room (λ i. (wide i).0) is (λ e. cc) (λ i p b. refl) (λ p rest. pure_law _ rest g.number)
    primary_law l r r' (k.Character v) ts is room deep wide =
        take_law (λ i b. primary (rule (f' i)) (r' i) b) _ _ m l r r' (k.Character v) ts room (λ i. (wide i).0) is (λ e. cc) (λ i p b. refl) (λ p rest. pure_law _ rest g.character)
    primary_law l r r' (k.Reserved w) ts is room deep wide = reserved_law l r r' (k.Reserved w) (is_eof (k.Reserved w)) (builtin (k.Reserved w)) ts is refl refl (λ i b. refl) room deep wide
    primary_law l r r' (k.Sign w) ts is room deep wide = reserved_law l r r' (k.Sign w) (is_eof (k.Sign w)) (builtin (k.Sign w)) ts is refl refl (λ i b. refl) room deep wide
    primary_law l r r' k.End ts is room deep wide = reserved_law l r r' k.End (is_eof k.End) (builtin k.End) ts is refl refl (λ i b. refl) room deep wide

    open_law : (l r : ℕ) (r' : I → ℕ) (p : Place) (kind : Kind) (cast : Bool) (ts : List Token)
        → kind_of ts ≡ kind → is_base kind ≡ cast → r ≡ m - suc l → r ≤ f → Wide r r'
        → Lawful m (λ b y us. IsUnary l (at (suc l) (k.Sign PARENTHESIS_OPEN) p ∷ b) y) (λ i b. after_open (rule (f' i)) (is_base (kind_of b)) p (r' i) b) ts (after_open (rule f) cast p r ts)
    open_law l r r' p kind true ts is e room deep wide =
        look_law (λ b y us. IsUnary l (at (suc l) (k.Sign PARENTHESIS_OPEN) p ∷ b) y) (λ i c b. after_open (rule (f' i)) (is_base c) p (r' i) b) kind ts _ is
        (weaken _ (λ i b. after_open (rule (f' i)) (is_base kind) p (r' i) b) (λ b y us h. h) (λ i b. sym (ap (λ c. after_open (rule (f' i)) c p (r' i) b) e))
        (bind_law (λ i to. expect (k.Sign PARENTHESIS_CLOSE) (r' i) to.1 >>= λ c. rule (f' i) UnaryRule (r' i) c.1 >>= λ x. Ok (expr.Cast to.0 x.0 p, x.1)) _ (base_law I m (suc l) r r' ts room (λ i. (wide i).0)) (λ to us a j cut.
        expect_law (λ i c. rule (f' i) UnaryRule (r' i) c.1 >>= λ x. Ok (expr.Cast to x.0 p, x.1)) _ m (suc l) r r' (k.Sign PARENTHESIS_CLOSE) us room (λ i. (wide i).0) (refl, refl) (λ q vs.
        bind_law _ _ (rules UnaryRule (suc l) r r' vs room deep wide) (λ x ws b h cut.
        pure_law _ ws (ended (λ c y. IsUnary l (at (suc l) (k.Sign PARENTHESIS_OPEN) p ∷ (a ++ at (suc l) (k.Sign PARENTHESIS_CLOSE) q ∷ c)) y) (g.cast q j h)))))))
        (λ i. ap (λ o. o >>= λ x. expect (k.Sign PARENTHESIS_CLOSE) (r' i) x.1 >>= λ c. suffixes_from (rule (f' i)) (r' i) x.0 c.1) (refuses i Assign (r' i) [] refl) ∙ sym (ap (λ c. after_open (rule (f' i)) c p (r' i) []) e))
    open_law l r r' p kind false ts is e room deep wide =
        look_law (λ b y us. IsUnary l (at (suc l) (k.Sign PARENTHESIS_OPEN) p ∷ b) y) (λ i c b. after_open (rule (f' i)) (is_base c) p (r' i) b) kind ts _ is
        (weaken _ (λ i b. after_open (rule (f' i)) (is_base kind) p (r' i) b) (λ b y us h. h) (λ i b. sym (ap (λ c. after_open (rule (f' i)) c p (r' i) b) e))
        (bind_law (λ i x. expect (k.Sign PARENTHESIS_CLOSE) (r' i) x.1 >>= λ c. suffixes_from (rule (f' i)) (r' i) x.0 c.1) _ (rules Assign (suc l) r r' ts room deep wide) (λ x us a h cut.
        expect_law (λ i c. suffixes_from (rule (f' i)) (r' i) x c.1) _ m (suc l) r r' (k.Sign PARENTHESIS_CLOSE) us room (λ i. (wide i).0) (refl, refl) (λ q vs.
        weaken _ (λ i b. suffixes_from (rule (f' i)) (r' i) x b)
        (λ c z ws j. subst (λ d. IsUnary l (at (suc l) (k.Sign PARENTHESIS_OPEN) p ∷ d) z) (append_assoc a (at (suc l) (k.Sign PARENTHESIS_CLOSE) q ∷ []) c) j) (λ i c. refl)
        (suffixed r l r' x (at (suc l) (k.Sign PARENTHESIS_OPEN) p ∷ (a ++ at (suc l) (k.Sign PARENTHESIS_CLOSE) q ∷ [])) vs (g.parens p q h) room deep wide)))))
        (λ i. sym (ap (λ c. after_open (rule (f' i)) c p (r' i) []) e))

    unary_by_law : (l r : ℕ) (r' : I → ℕ) (kind : Kind) (op : Option Unary) (how : Option Step)
        (here : Bool) (ts : List Token) → kind_of ts ≡ kind → unary_op kind ≡ op
        → first_step kind ≡ how → opens kind ≡ here → r ≡ m - suc l → r ≤ f → Wide r r'
        → Lawful m (plain (IsUnary l)) (λ i b. unary_by (rule (f' i)) (unary_op (kind_of b)) (first_step (kind_of b)) (opens (kind_of b)) (r' i) b) ts (unary_by (rule f) op how here r ts)
    unary_by_law l r r' kind (Some op) how here ts is x y z room deep wide =
        take_law (λ i b. unary_by (rule (f' i)) (unary_op (kind_of b)) (first_step (kind_of b)) (opens (kind_of b)) (r' i) b) (λ i u. rule (f' i) UnaryRule (r' i) u.1 >>= λ x. Ok (expr.Unary op x.0 u.0.place, x.1)) _ m (suc l) r r' kind ts room (λ i. (wide i).0) is (some_not_end unary_op op kind refl x)
        (λ i p b. unary_is (rule (f' i)) (r' i) (record { kind = kind; place = p } ∷ b) kind (Some op) how here x y z) (λ p rest.
        bind_law _ _ (rules UnaryRule (suc l) r r' rest room deep wide) (λ v us b h cut.
        pure_law _ us (ended (λ c y. IsUnary l (at (suc l) kind p ∷ c) y) (g.prefix x h))))
    unary_by_law l r r' kind None (Some how) here ts is x y z room deep wide =
        take_law (λ i b. unary_by (rule (f' i)) (unary_op (kind_of b)) (first_step (kind_of b)) (opens (kind_of b)) (r' i) b) (λ i u. rule (f' i) UnaryRule (r' i) u.1 >>= λ x. Ok (expr.Step how x.0 u.0.place, x.1)) _ m (suc l) r r' kind ts room (λ i. (wide i).0) is (some_not_end first_step how kind refl y)
        (λ i p b. unary_is (rule (f' i)) (r' i) (record { kind = kind; place = p } ∷ b) kind None (Some how) here x y z) (λ p rest.
        bind_law _ _ (rules UnaryRule (suc l) r r' rest room deep wide) (λ v us b h cut.
        pure_law _ us (ended (λ c y. IsUnary l (at (suc l) kind p ∷ c) y) (g.step y h))))
    unary_by_law l r r' kind None None true ts is x y z room deep wide =
        take_law (λ i b. unary_by (rule (f' i)) (unary_op (kind_of b)) (first_step (kind_of b)) (opens (kind_of b)) (r' i) b) (λ i u. after_open (rule (f' i)) (is_base (kind_of u.1)) u.0.place (r' i) u.1) _ m (suc l) r r' (k.Sign PARENTHESIS_OPEN) ts room (λ i. (wide i).0) (is ∙ same_is kind (k.Sign PARENTHESIS_OPEN) z) (λ e. cc)
        (λ i p b. refl) (λ p rest. open_law l r r' p (kind_of rest) (is_base (kind_of rest)) rest refl refl room deep wide)
    unary_by_law l r r' kind None None false ts is x y z room deep wide =
        look_law (plain (IsUnary l)) (λ i c b. unary_by (rule (f' i)) (unary_op c) (first_step c) (opens c) (r' i) b) kind ts _ is
        (weaken (plain (IsUnary l)) (λ i b. unary_by (rule (f' i)) (unary_op kind) (first_step kind) (opens kind) (r' i) b) (λ b y us h. h) (λ i b. sym (unary_is (rule (f' i)) (r' i) b kind None None false x y z))
        (bind_law (λ i x. suffixes_from (rule (f' i)) (r' i) x.0 x.1) _ (primary_law (suc l) r r' (kind_of ts) ts refl room deep wide) (λ v rest a h cut. suffixed r l r' v a rest h room deep wide)))
        (λ i. sym (unary_is (rule (f' i)) (r' i) [] kind None None false x y z))

    pub inside_law : (which : Rule) (l r : ℕ) (r' : I → ℕ) (ts : List Token) → r ≡ m - suc l
        → r ≤ f → Wide r r'
        → Lawful m (plain (IsRule which l)) (λ i. inside (rule (f' i)) which (r' i)) ts (inside (rule f) which r ts)
    unfolding unary_inside
    inside_law Assign l r r' ts room deep wide = assign_law l r r' ts room deep wide
    inside_law Cond l r r' ts room deep wide = cond_law l r r' ts room deep wide
    inside_law UnaryRule l r r' ts room deep wide = unary_by_law l r r' (kind_of ts) (unary_op (kind_of ts)) (first_step (kind_of ts)) (opens (kind_of ts)) ts refl refl refl refl room deep wide
