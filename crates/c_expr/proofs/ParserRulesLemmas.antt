-- The law of the rules that add a level, at every depth.
use Rattle.std.proofs.Common.{◌≡◌, ◌<◌, ◌≤◌, ◌-◌, ℕ, zero, suc, List, ◌∷◌, length, Option, Some, None, Ok, Err, refl, sym, ap, subst, arith, length-append, Bool, true, false}
use Rattle.std.specs.Prelude.{if◌then◌else◌}
use Rattle.c_tree.specs.Expr.{Expr}
use Rattle.c_tree.specs.declared.operator.Step.{Step}
use Rattle.c_tree.specs.declared.operator.Unary.{Unary}
use Rattle.c_tree.specs.declared.place.Place.{Place}
use Rattle.c_tree.specs.declared.tree.Callee.{Callee}
use Rattle.c_token.specs.declared.token.Token.{Token}
use Rattle.c_token.specs.declared.token.Kind.{Kind}
use Rattle.c_token.specs.declared.token.Kind.TheVariants as k
use Rattle.c_expr.specs.declared.fault.ParseFault.TheVariants.{Unexpected, TooDeep}
use Rattle.c_expr.specs.declared.rule.Rule.{Rule}
use Rattle.c_expr.specs.declared.rule.Rule.TheVariants.{Assign, Cond, Unary as UnaryRule}
use Rattle.c_expr.specs.Leveled.{Leveled, at, tokens_of}
use Rattle.c_expr.specs.Spelled.{same, assign_op, lor, unary_op, first_step, builtin}
use Rattle.c_expr.specs.Next.{Outcome, ◌>>=◌, kind_of, place_of, nowhere, refuse, begins, begins_by, operand_by, is_eof, opens}
use Rattle.c_expr.specs.private.ExpressionReading.{chain_from, assign_inside, assign_by, cond_inside, conditional_by, binary, suffixes_from, rule, primary_by, unary_by, unary_inside, inside}
use Rattle.c_expr.specs.private.ParserRules.{IsRule}
use Rattle.c_expr.proofs.Law.{Lawful, Some_of, weaken, plain, unopened_law}
use Rattle.c_expr.proofs.Opens as o
use Rattle.c_expr.proofs.Sound.{inside_law}
use Rattle.c_expr.proofs.ExpressionFronts.{begin_unary, unary_assign, unary_cond, narrow_both}
use Rattle.c_expr.specs.declared.punctuator.TheConstants.{QUESTION}

-- A token that begins no rule is refused.
binary_refuses : (again : Rule → ℕ → List Token → Outcome Expr) (r : ℕ) (ts : List Token)
    → again UnaryRule r ts ≡ refuse ts → (rk : ℕ) → binary again rk r ts ≡ refuse ts
unfolding binary
binary_refuses again r ts e zero = e
binary_refuses again r ts e (suc rk) = ap (λ o. o >>= λ x. chain_from (binary again rk) (suc rk) r x.0 x.1) (binary_refuses again r ts e rk)

primary_refuses : (again : Rule → ℕ → List Token → Outcome Expr) (r : ℕ) (ts : List Token)
    (kind : Kind) (eof : Bool) (callee : Option Callee) → operand_by kind eof callee ≡ false
    → primary_by again kind eof callee r ts ≡ refuse ts
primary_refuses again r ts (k.Name n) eof callee e = cc
primary_refuses again r ts (k.Number ty v) eof callee e = cc
primary_refuses again r ts (k.Character v) eof callee e = cc
primary_refuses again r ts (k.Reserved w) true callee e = cc
primary_refuses again r ts (k.Reserved w) false (Some callee) e = cc
primary_refuses again r ts (k.Reserved w) false None e = refl
primary_refuses again r ts (k.Sign w) true callee e = cc
primary_refuses again r ts (k.Sign w) false (Some callee) e = cc
primary_refuses again r ts (k.Sign w) false None e = refl
primary_refuses again r ts k.End true callee e = cc
primary_refuses again r ts k.End false (Some callee) e = cc
primary_refuses again r ts k.End false None e = refl

unary_refuses : (again : Rule → ℕ → List Token → Outcome Expr) (r : ℕ) (ts : List Token)
    (op : Option Unary) (how : Option Step) (here : Bool)
    → begins_by op how here (operand_by (kind_of ts) (is_eof (kind_of ts)) (builtin (kind_of ts))) ≡ false → unary_by again op how here r ts ≡ refuse ts
unary_refuses again r ts (Some op) how here e = cc
unary_refuses again r ts None (Some how) here e = cc
unary_refuses again r ts None None true e = cc
unary_refuses again r ts None None false e = ap (λ o. o >>= λ x. suffixes_from again r x.0 x.1) (primary_refuses again r ts (kind_of ts) (is_eof (kind_of ts)) (builtin (kind_of ts)) e)

pub refuses : (f : ℕ) (which : Rule) (r : ℕ) (ts : List Token) → begins (kind_of ts) ≡ false
    → rule f which r ts ≡ refuse ts
unfolding rule assign_inside cond_inside unary_inside
refuses zero which r ts e = ap (λ (b : Bool). Err (if b then TooDeep (place_of ts) else Unexpected (place_of ts))) e
refuses (suc f) which zero ts e = ap (λ (b : Bool). Err (if b then TooDeep (place_of ts) else Unexpected (place_of ts))) e
refuses (suc f) Assign (suc r) ts e = ap (λ o. o >>= λ x. assign_by (rule f) (assign_op (kind_of x.1)) r x.0 x.1) (refuses f Cond r ts e)
refuses (suc f) Cond (suc r) ts e = ap (λ o. o >>= λ x. conditional_by (rule f) (same (kind_of x.1) (k.Sign QUESTION)) r x.0 x.1) (binary_refuses (rule f) r ts (refuses f UnaryRule r ts e) lor)
refuses (suc f) UnaryRule (suc r) ts e = unary_refuses (rule f) r ts (unary_op (kind_of ts)) (first_step (kind_of ts)) (opens (kind_of ts)) e

-- where no rule may be opened
begin_rule : (which : Rule) (l : ℕ) (p : Place) (kind : Kind) → begins kind ≡ true
    → (lev : ℕ) × (l < lev) × Some_of (λ b y us. IsRule which l (at lev kind p ∷ b) y)
begin_rule UnaryRule l p kind e = (suc l, omega arith, begin_unary l p kind e)
begin_rule Cond l p kind e = let w = begin_unary (suc l) p kind e in (suc (suc l), omega arith, record { spelling = w.spelling; value = w.value; holds = unary_cond l _ _ w.holds })
begin_rule Assign l p kind e = let w = begin_unary (suc (suc l)) p kind e in (suc (suc (suc l)), omega arith, record { spelling = w.spelling; value = w.value; holds = unary_assign l _ _ w.holds })

some_rule : (which : Rule) (l : ℕ) → Some_of (plain (IsRule which l))
some_rule which l = let w = begin_rule which l nowhere (k.Character 0) refl in record { spelling = _ ∷ w.2.spelling; value = w.2.value; holds = w.2.holds }

start_law : (I : Type 0) (m : ℕ) (f' : I → ℕ) (which : Rule) (l : ℕ) (r' : I → ℕ) (ts : List Token)
    (b : Bool) → begins (kind_of ts) ≡ b → 0 ≡ m - l
    → Lawful m (plain (IsRule which l)) (λ i. rule (f' i) which (r' i)) ts (Err (if b then TooDeep (place_of ts) else Unexpected (place_of ts)))
start_law I m f' which l r' ts b e room = unopened_law (λ i. rule (f' i) which (r' i)) begins l ts b e refl room (begin_rule which l) (some_rule which l) (λ i b no. refuses (f' i) which (r' i) b no)

-- with one depth in both, and then with any two
abbrev RuleLaw : (I : Type 0) → ℕ → (I → ℕ) → Type 0
RuleLaw I f f' = (m : ℕ) (which : Rule) (l r : ℕ) (r' : I → ℕ) (ts : List Token) → r ≡ m - l → r ≤ f → ((i : I) → (r ≤ r' i) × (r' i ≤ f' i))
    → Lawful m (plain (IsRule which l)) (λ i. rule (f' i) which (r' i)) ts (rule f which r ts)

abbrev Shrinks : ℕ → Type 0
Shrinks f = (which : Rule) (r : ℕ) (ts us : List Token) (x : Expr) → r ≤ f → rule f which r ts ≡ Ok (x, us) → length us ≤ length ts

shrinks_by : (m : ℕ) (P : List Leveled → Expr → List Token → Type 0)
    (q : Unit {0} → List Token → Outcome Expr) (ts us : List Token) (x : Expr)
    → Lawful m P q ts (Ok (x, us)) → length us ≤ length ts
shrinks_by m P q ts us x h = omega (arith, ap length h.law.splits, length-append (tokens_of h.law.read) us)

shrinks_of : (f : ℕ) → RuleLaw (Unit {0}) f (λ i. f) → Shrinks f
shrinks_of f law which r ts us x deep e =
    shrinks_by r (plain (IsRule which 0)) (λ i. rule f which r) ts us x (subst (λ o. Lawful r (plain (IsRule which 0)) (λ (i : Unit {0}). rule f which r) ts o) e (law r which 0 r (λ i. r) ts (omega arith) deep (λ i. (omega arith, deep))))

rule_opens : (f : ℕ) (which : Rule) (r : ℕ) (b : List Token) (s : ℕ) → suc s ≤ r → r ≤ f
    → inside (rule (f - 1)) which (r - 1) b ≡ rule f which r b
rule_opens f which r b s some deep = sym (o.opens f which r b (omega arith) (omega arith))

rule_step : (I : Type 0) (f : ℕ) (f' : I → ℕ) → RuleLaw I f (λ i. f' i - 1)
    → ((i : I) → Shrinks (f' i - 1)) → RuleLaw I (suc f) f'
unfolding rule
rule_step I f f' law shrinks m which l zero r' ts room deep wide = start_law I m f' which l r' ts (begins (kind_of ts)) refl room
rule_step I f f' law shrinks m which l (suc r) r' ts room deep wide =
    weaken (plain (IsRule which l)) (λ i. rule (f' i) which (r' i)) (λ b y us h. h) (λ i b. rule_opens (f' i) which (r' i) b r (wide i).0 (wide i).1)
    (inside_law I m f (λ i. f' i - 1) (law m) (λ i. refuses (f' i - 1)) shrinks which l r (λ i. r' i - 1) ts (omega arith) (omega arith)
    (λ i. narrow_both (wide i)))

rule_zero : (I : Type 0) (f' : I → ℕ) → RuleLaw I zero f'
unfolding rule
rule_zero I f' m which l zero r' ts room deep wide = start_law I m f' which l r' ts (begins (kind_of ts)) refl room
rule_zero I f' m which l (suc r) r' ts room deep wide = absurd (omega arith)

diagonal : (f : ℕ) → RuleLaw (Unit {0}) f (λ i. f)
diagonal zero = rule_zero (Unit {0}) (λ i. zero)
diagonal (suc f) =
    let one : f ≡ suc f - 1 = omega arith in
    rule_step (Unit {0}) f (λ i. suc f) (subst (λ k. RuleLaw (Unit {0}) f (λ i. k)) one (diagonal f)) (λ i. subst Shrinks one (shrinks_of f (diagonal f)))

pub rule_law : (I : Type 0) (f : ℕ) (f' : I → ℕ) → RuleLaw I f f'
rule_law I zero f' = rule_zero I f'
rule_law I (suc f) f' = rule_step I f f' (rule_law I f (λ i. f' i - 1)) (λ i. shrinks_of (f' i - 1) (diagonal (f' i - 1)))
