-- More depth than room changes nothing.
use Rattle.std.proofs.Common.{◌≡◌, ◌<◌, ◌≤◌, ◌-◌, ℕ, zero, suc, List, [], ◌∷◌, ◌++◌, length, Option, Some, None, Bool, true, false, Ok, Err, refl, ap, ◌∙◌, arith, inl, inr, ◌⊎◌}
use Rattle.c_tree.specs.Expr.{Expr}
use Rattle.c_tree.specs.Expr as expr
use Rattle.c_tree.specs.View.{exprs_list}
use Rattle.c_tree.specs.declared.operator.Binary.{Binary}
use Rattle.c_tree.specs.declared.operator.Step.{Step}
use Rattle.c_tree.specs.declared.operator.Unary.{Unary}
use Rattle.c_tree.specs.declared.place.Place.{Place}
use Rattle.c_tree.specs.declared.tree.Callee.{Callee}
use Rattle.c_tree.specs.declared.tree.Callee.TheVariants as c
use Rattle.c_token.specs.declared.token.Token.{Token}
use Rattle.c_token.specs.declared.token.Kind.{Kind}
use Rattle.c_token.specs.declared.token.Kind.TheVariants as k
use Rattle.c_expr.specs.declared.rule.Rule.{Rule}
use Rattle.c_expr.specs.declared.rule.Rule.TheVariants.{Assign, Cond, Unary as UnaryRule}
use Rattle.c_expr.specs.Spelled.{same, assign_op, unary_op, first_step, last_step, builtin, lor}
use Rattle.c_expr.specs.Next.{Outcome, ◌>>=◌, kind_of, take, expect, base, is_base, is_eof, opens, closes, fault_at_start}
use Rattle.c_expr.specs.private.ExpressionReading.{operator_of, chain_step, chain_from, assign_inside, assign_by, cond_inside, conditional_by, binary, suffix_step, suffixes_from, rule, argument, arguments_by, after_element, call, after_name, reserved, primary_by, after_open, unary_by, unary_inside, turn, turns, inside, ruled}
use Rattle.c_expr.specs.declared.punctuator.TheConstants.{PARENTHESIS_OPEN, PARENTHESIS_CLOSE, BRACKET_OPEN, BRACKET_CLOSE, COMMA, QUESTION, COLON}

pub bind_same : {X Y : Type 0} (o : Outcome X) (f g : X × List Token → Outcome Y)
    → ((x : X × List Token) → f x ≡ g x) → (o >>= f) ≡ (o >>= g)
bind_same (Ok x) f g h = h x
bind_same (Err e) f g h = refl

pub both_same : {X Y : Type 0} {o p : Outcome X} (f g : X × List Token → Outcome Y) → o ≡ p
    → ((x : X × List Token) → f x ≡ g x) → (o >>= f) ≡ (p >>= g)
both_same {o = o} f g e h = bind_same o f g h ∙ ap (λ o. o >>= g) e

turn_same : {A B : Type 0} (f g : A → List Token → Outcome B)
    → ((x : A) (ts : List Token) → f x ts ≡ g x ts) → (z : (A ⊎ B) × List Token)
    → turn f z ≡ turn g z
turn_same f g h (inl x, ts) = h x ts
turn_same f g h (inr y, ts) = refl

pub turns_same : {A B : Type 0} (step step' : A → List Token → Outcome (A ⊎ B))
    → ((x : A) (ts : List Token) → step x ts ≡ step' x ts) → (n : ℕ) (x : A) (ts : List Token)
    → turns step n x ts ≡ turns step' n x ts
turns_same step step' h zero x ts = refl
turns_same step step' h (suc n) x ts = both_same (turn (turns step n)) (turn (turns step' n)) (h x ts) (turn_same (turns step n) (turns step' n) (turns_same step step' h n))

chain_more : (p q : ℕ → List Token → Outcome Expr) (rk top : ℕ)
    → ((r : ℕ) (ts : List Token) → r ≤ top → p r ts ≡ q r ts)
    → (r : ℕ) (x : Expr) (ts : List Token) → suc r ≤ top → (o : Option Binary)
    → ((y : Expr) (us : List Token) → chain_from p rk r y us ≡ chain_from q rk r y us) → chain_step (p r) (chain_from p rk r) o (suc r) x ts ≡ chain_step (q r) (chain_from q rk r) o (suc r) x ts
chain_more p q rk top h r x ts low None onward = refl
chain_more p q rk top h r x ts low (Some o) onward = bind_same (take (suc r) ts) _ _ (λ u. both_same (λ y. chain_from p rk r (expr.Binary o x y.0 u.0.place) y.1) (λ y. chain_from q rk r (expr.Binary o x y.0 u.0.place) y.1)
    (h r u.1 (omega arith)) (λ y. onward (expr.Binary o x y.0 u.0.place) y.1))

chain_same : (p q : ℕ → List Token → Outcome Expr) (rk top : ℕ)
    → ((r : ℕ) (ts : List Token) → r ≤ top → p r ts ≡ q r ts)
    → (r : ℕ) (x : Expr) (ts : List Token) → r ≤ top
    → chain_from p rk r x ts ≡ chain_from q rk r x ts
chain_same p q rk top h zero x ts low = step (operator_of rk (kind_of ts))
  where
    step : (o : Option Binary)
        → chain_step (p zero) (λ y us. Ok (y, us)) o zero x ts
        ≡ chain_step (q zero) (λ y us. Ok (y, us)) o zero x ts
    step None = refl
    step (Some o) = bind_same (take zero ts) _ _ (λ u. ap (λ w. w >>= λ y. Ok (expr.Binary o x y.0 u.0.place, y.1)) (h zero u.1 (omega arith)))
chain_same p q rk top h (suc r) x ts low = chain_more p q rk top h r x ts low (operator_of rk (kind_of ts)) (λ y us. chain_same p q rk top h r y us (omega arith))

module _ (p q : Rule → ℕ → List Token → Outcome Expr) (top : ℕ) (like : (which : Rule) (r : ℕ) (ts : List Token) → r ≤ top → p which r ts ≡ q which r ts) where
  condition_same : (how : Option (Option Binary)) (r : ℕ) (x : Expr) (ts : List Token) → r ≤ top
      → assign_by p how r x ts ≡ assign_by q how r x ts
  condition_same (Some how) r x ts low = bind_same (take r ts) _ _ (λ u. ap (λ o. o >>= λ y. Ok (expr.Assign how x y.0 u.0.place, y.1)) (like Assign r u.1 low))
  condition_same None r x ts low = refl

  binary_same : (rk r : ℕ) (ts : List Token) → r ≤ top → binary p rk r ts ≡ binary q rk r ts
  unfolding binary
  binary_same zero r ts low = like UnaryRule r ts low
  binary_same (suc rk) r ts low =
      both_same (λ x. chain_from (binary p rk) (suc rk) r x.0 x.1) (λ x. chain_from (binary q rk) (suc rk) r x.0 x.1) (binary_same rk r ts low)
      (λ x. chain_same (binary p rk) (binary q rk) (suc rk) top (binary_same rk) r x.0 x.1 low)

  test_same : (here : Bool) (r : ℕ) (x : Expr) (ts : List Token) → r ≤ top
      → conditional_by p here r x ts ≡ conditional_by q here r x ts
  test_same true r x ts low = bind_same (take r ts) _ _ (λ u.
      both_same (λ y. expect (k.Sign COLON) r y.1 >>= λ c. p Cond r c.1 >>= λ z. Ok (expr.Conditional x y.0 z.0 u.0.place, z.1)) (λ y. expect (k.Sign COLON) r y.1 >>= λ c. q Cond r c.1 >>= λ z. Ok (expr.Conditional x y.0 z.0 u.0.place, z.1))
      (like Assign r u.1 low) (λ y. bind_same (expect (k.Sign COLON) r y.1) _ _ (λ c. ap (λ o. o >>= λ z. Ok (expr.Conditional x y.0 z.0 u.0.place, z.1)) (like Cond r c.1 low))))
  test_same false r x ts low = refl

  suffix_same : (f g : Expr → List Token → Outcome Expr)
      → ((x : Expr) (ts : List Token) → f x ts ≡ g x ts)
      → (index : Bool) (how : Option Step) (r : ℕ) (x : Expr) (ts : List Token) → r ≤ top
      → suffix_step p f index how r x ts ≡ suffix_step q g index how r x ts
  suffix_same f g h true how r x ts low = bind_same (take r ts) _ _ (λ u.
      both_same (λ y. expect (k.Sign BRACKET_CLOSE) r y.1 >>= λ c. f (expr.Index x y.0 u.0.place) c.1) (λ y. expect (k.Sign BRACKET_CLOSE) r y.1 >>= λ c. g (expr.Index x y.0 u.0.place) c.1)
      (like Assign r u.1 low) (λ y. bind_same (expect (k.Sign BRACKET_CLOSE) r y.1) _ _ (λ c. h (expr.Index x y.0 u.0.place) c.1)))
  suffix_same f g h false (Some how) r x ts low = bind_same (take r ts) _ _ (λ u. h (expr.Step how x u.0.place) u.1)
  suffix_same f g h false None r x ts low = refl

  suffixes_same : (r : ℕ) (x : Expr) (ts : List Token) → r ≤ top
      → suffixes_from p r x ts ≡ suffixes_from q r x ts
  suffixes_same zero x ts low = suffix_same (λ y us. Ok (y, us)) (λ y us. Ok (y, us)) (λ y us. refl) (same (kind_of ts) (k.Sign BRACKET_OPEN)) (last_step (kind_of ts)) zero x ts low
  suffixes_same (suc r) x ts low = suffix_same (suffixes_from p r) (suffixes_from q r) (λ y us. suffixes_same r y us (omega arith)) (same (kind_of ts) (k.Sign BRACKET_OPEN)) (last_step (kind_of ts)) (suc r) x ts low

  argument_same : (r : ℕ) (found : List Expr) (ts : List Token) → r ≤ top
      → argument p r found ts ≡ argument q r found ts
  argument_same r found ts low = ap (λ o. o >>= λ x. after_element (same (kind_of x.1) (k.Sign COMMA)) r (found ++ x.0 ∷ []) x.1) (like Assign r ts low)

  arguments_same : (none : Bool) (r : ℕ) (ts : List Token) → r ≤ top
      → arguments_by p none r ts ≡ arguments_by q none r ts
  arguments_same true r ts low = refl
  arguments_same false r ts low = turns_same (argument p r) (argument q r) (λ found us. argument_same r found us low) (length ts) [] ts

  call_same : (callee : Callee) (place : Place) (r : ℕ) (ts : List Token) → r ≤ top
      → call p callee place r ts ≡ call q callee place r ts
  call_same callee place r ts low = ap (λ o. o >>= λ xs. Ok (expr.Call callee (exprs_list xs.0) place, xs.1)) (arguments_same (closes (kind_of ts)) r ts low)

  name_same : (here : Bool) (n : List ℕ) (place : Place) (r : ℕ) (ts : List Token) → r ≤ top
      → after_name p here n place r ts ≡ after_name q here n place r ts
  name_same true n place r ts low = bind_same (take r ts) _ _ (λ u. call_same (c.Name n) place r u.1 low)
  name_same false n place r ts low = refl

  reserved_same : (eof : Bool) (callee : Option Callee) (r : ℕ) (ts : List Token) → r ≤ top
      → reserved p eof callee r ts ≡ reserved q eof callee r ts
  reserved_same true callee r ts low = refl
  reserved_same false (Some callee) r ts low = bind_same (take r ts) _ _ (λ u. bind_same (expect (k.Sign PARENTHESIS_OPEN) r u.1) _ _ (λ o. call_same callee u.0.place r o.1 low))
  reserved_same false None r ts low = refl

  primary_same : (kind : Kind) (eof : Bool) (callee : Option Callee) (r : ℕ) (ts : List Token)
      → r ≤ top → primary_by p kind eof callee r ts ≡ primary_by q kind eof callee r ts
  primary_same (k.Name n) eof callee r ts low = bind_same (take r ts) _ _ (λ u. name_same (opens (kind_of u.1)) n u.0.place r u.1 low)
  primary_same (k.Number ty v) eof callee r ts low = refl
  primary_same (k.Character v) eof callee r ts low = refl
  primary_same (k.Reserved w) eof callee r ts low = reserved_same eof callee r ts low
  primary_same (k.Sign w) eof callee r ts low = reserved_same eof callee r ts low
  primary_same k.End eof callee r ts low = reserved_same eof callee r ts low

  open_same : (cast : Bool) (place : Place) (r : ℕ) (ts : List Token) → r ≤ top
      → after_open p cast place r ts ≡ after_open q cast place r ts
  open_same true place r ts low = bind_same (base r ts) _ _ (λ to. bind_same (expect (k.Sign PARENTHESIS_CLOSE) r to.1) _ _ (λ c. ap (λ o. o >>= λ x. Ok (expr.Cast to.0 x.0 place, x.1)) (like UnaryRule r c.1 low)))
  open_same false place r ts low =
      both_same (λ x. expect (k.Sign PARENTHESIS_CLOSE) r x.1 >>= λ c. suffixes_from p r x.0 c.1) (λ x. expect (k.Sign PARENTHESIS_CLOSE) r x.1 >>= λ c. suffixes_from q r x.0 c.1) (like Assign r ts low)
      (λ x. bind_same (expect (k.Sign PARENTHESIS_CLOSE) r x.1) _ _ (λ c. suffixes_same r x.0 c.1 low))

  unary_same : (o : Option Unary) (how : Option Step) (here : Bool) (r : ℕ) (ts : List Token)
      → r ≤ top → unary_by p o how here r ts ≡ unary_by q o how here r ts
  unary_same (Some o) how here r ts low = bind_same (take r ts) _ _ (λ u. ap (λ w. w >>= λ x. Ok (expr.Unary o x.0 u.0.place, x.1)) (like UnaryRule r u.1 low))
  unary_same None (Some how) here r ts low = bind_same (take r ts) _ _ (λ u. ap (λ w. w >>= λ x. Ok (expr.Step how x.0 u.0.place, x.1)) (like UnaryRule r u.1 low))
  unary_same None None true r ts low = bind_same (take r ts) _ _ (λ u. open_same (is_base (kind_of u.1)) u.0.place r u.1 low)
  unary_same None None false r ts low = both_same (λ x. suffixes_from p r x.0 x.1) (λ x. suffixes_from q r x.0 x.1) (primary_same (kind_of ts) (is_eof (kind_of ts)) (builtin (kind_of ts)) r ts low) (λ x. suffixes_same r x.0 x.1 low)

  pub inside_same : (which : Rule) (r : ℕ) (ts : List Token) → r ≤ top
      → inside p which r ts ≡ inside q which r ts
  unfolding assign_inside cond_inside unary_inside
  inside_same Assign r ts low = both_same (λ x. assign_by p (assign_op (kind_of x.1)) r x.0 x.1) (λ x. assign_by q (assign_op (kind_of x.1)) r x.0 x.1) (like Cond r ts low) (λ x. condition_same (assign_op (kind_of x.1)) r x.0 x.1 low)
  inside_same Cond r ts low = both_same (λ x. conditional_by p (same (kind_of x.1) (k.Sign QUESTION)) r x.0 x.1) (λ x. conditional_by q (same (kind_of x.1) (k.Sign QUESTION)) r x.0 x.1) (binary_same lor r ts low) (λ x. test_same (same (kind_of x.1) (k.Sign QUESTION)) r x.0 x.1 low)
  inside_same UnaryRule r ts low = unary_same (unary_op (kind_of ts)) (first_step (kind_of ts)) (opens (kind_of ts)) r ts low

pub depth_same : (f g : ℕ) (which : Rule) (r : ℕ) (ts : List Token) → r ≤ f → r ≤ g
    → rule f which r ts ≡ rule g which r ts
unfolding rule
depth_same zero zero which r ts a b = refl
depth_same zero (suc g) which zero ts a b = refl
depth_same zero (suc g) which (suc r) ts a b = absurd (omega arith)
depth_same (suc f) zero which zero ts a b = refl
depth_same (suc f) zero which (suc r) ts a b = absurd (omega arith)
depth_same (suc f) (suc g) which zero ts a b = refl
depth_same (suc f) (suc g) which (suc r) ts a b = inside_same (rule f) (rule g) r (λ which s us low. depth_same f g which s us (omega arith) (omega arith)) which r ts (omega arith)

ruled_suc : (which : Rule) (r : ℕ) (ts : List Token)
    → ruled which (suc r) ts ≡ inside ruled which r ts
unfolding rule
ruled_suc which r ts = inside_same (rule r) ruled r (λ which s us low. depth_same r s which s us low (omega arith)) which r ts (omega arith)

pub ruled_open : (which : Rule) (r : ℕ) (ts : List Token) → 0 < r
    → ruled which r ts ≡ inside ruled which (r - 1) ts
ruled_open which zero ts some = absurd (omega arith)
ruled_open which (suc r) ts some = let one : r ≡ suc r - 1 = omega arith in ruled_suc which r ts ∙ ap (λ s. inside ruled which s ts) one

pub ruled_stop : (which : Rule) (r : ℕ) (ts : List Token) → r ≡ 0
    → ruled which r ts ≡ Err (fault_at_start ts)
unfolding rule
ruled_stop which zero ts e = refl
ruled_stop which (suc r) ts e = absurd (omega arith)
