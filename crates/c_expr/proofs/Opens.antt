-- Where a rule may be opened, and how a recursion on a count goes beside a loop.
use Rattle.std.proofs.Common.{◌≡◌, ◌<◌, ◌≤◌, ◌+◌, ℕ, zero, suc, ◌-◌, List, Ok, Err, [], length, refl, ap, ◌∙◌, arith, sub-one, None, false, ◌⊎◌, inl, inr}
use Rattle.c_tree.specs.Expr.{Expr}
use Rattle.c_token.specs.declared.token.Token.{Token}
use Rattle.c_expr.specs.declared.rule.Rule.{Rule}
use Rattle.c_expr.specs.Spelled.{same, last_step}
use Rattle.c_expr.specs.Next.{Outcome, fault_at_start, ◌>>=◌, kind_of}
use Rattle.c_expr.specs.private.ExpressionReading.{rule, inside, binary, chain_from, suffix_step, suffixes_from, arguments_by, argument, turns}
use Rattle.std.specs.Prelude.{Bool, Option}
use Rattle.c_tree.specs.declared.operator.Step.{Step}
use Rattle.c_expr.specs.declared.punctuator.TheConstants.{BRACKET_OPEN}
use Rattle.c_token.specs.declared.token.Kind.TheVariants as k

opens_suc : (f : ℕ) (which : Rule) (r : ℕ) (ts : List Token)
    → rule (suc f) which (suc r) ts ≡ inside (rule f) which r ts
unfolding rule
opens_suc f which r ts = refl

pub opens : (f : ℕ) (which : Rule) (r : ℕ) (ts : List Token) → 0 < f → 0 < r
    → rule f which r ts ≡ inside (rule (f - 1)) which (r - 1) ts
opens (suc f) which (suc r) ts a b = rw (sub-one, sub-one) (opens_suc f which r ts)
opens zero which r ts a b = absurd (omega arith)
opens (suc f) which zero ts a b = absurd (omega arith)

pub stops : (f : ℕ) (which : Rule) (r : ℕ) (ts : List Token) → (f ≡ 0) ⊎ (r ≡ 0)
    → rule f which r ts ≡ Err (fault_at_start ts)
unfolding rule
stops zero which r ts e = refl
stops (suc f) which zero ts e = refl
stops (suc f) which (suc r) ts (inl e) = absurd (omega arith)
stops (suc f) which (suc r) ts (inr e) = absurd (omega arith)

-- A recursion on a count, beside a loop that counts.
pub counted : {X : Type 0} {x : X} (f : ℕ → X) (n : ℕ) → 0 < n → x ≡ f n → x ≡ f (suc (n - 1))
counted f n some e = let one : n ≡ suc (n - 1) = omega arith in e ∙ ap f one

pub one_more : {X : Type 0} {x : X} (f : ℕ → X) (n at : ℕ) → at < n → x ≡ f (n - at)
    → x ≡ f (suc (n - (at + 1)))
one_more f n at below e = let turn : n - at ≡ suc (n - (at + 1)) = omega arith in e ∙ ap f turn

pub no_more : {X : Type 0} {x : X} (f : ℕ → X) (n at : ℕ) → n ≤ at → x ≡ f (n - at) → x ≡ f 0
no_more f n at done e = let none : n - at ≡ 0 = omega arith in e ∙ ap f none

pub binary_opens : (again : Rule → ℕ → List Token → Outcome Expr) (rk r : ℕ) (ts : List Token)
    → 0 < rk
    → binary again rk r ts ≡ (binary again (rk - 1) r ts >>= λ x. chain_from (binary again (rk - 1)) rk r x.0 x.1)
unfolding binary
binary_opens again (suc rk) r ts some =
    let one : rk ≡ suc rk - 1 = omega arith in ap (λ n. binary again n r ts >>= λ x. chain_from (binary again n) (suc rk) r x.0 x.1) one
binary_opens again zero r ts some = absurd (omega arith)

no_suffix : (again : Rule → ℕ → List Token → Outcome Expr)
    (onward : Expr → List Token → Outcome Expr) (index : Bool) (how : Option Step) (r : ℕ)
    (x : Expr) (ts : List Token)
    → index ≡ false → how ≡ None → suffix_step again onward index how r x ts ≡ Ok (x, ts)
no_suffix again onward index how r x ts e h = ap (λ b. suffix_step again onward b how r x ts) e ∙ ap (λ o. suffix_step again onward false o r x ts) h

pub suffixes_stop : (again : Rule → ℕ → List Token → Outcome Expr) (r : ℕ) (x : Expr)
    (ts : List Token)
    → same (kind_of ts) (k.Sign BRACKET_OPEN) ≡ false → last_step (kind_of ts) ≡ None → suffixes_from again r x ts ≡ Ok (x, ts)
suffixes_stop again zero x ts e h = no_suffix again (λ y us. Ok (y, us)) (same (kind_of ts) (k.Sign BRACKET_OPEN)) (last_step (kind_of ts)) zero x ts e h
suffixes_stop again (suc r) x ts e h = no_suffix again (suffixes_from again r) (same (kind_of ts) (k.Sign BRACKET_OPEN)) (last_step (kind_of ts)) (suc r) x ts e h

pub arguments_open : (again : Rule → ℕ → List Token → Outcome Expr) (none : Bool) (r : ℕ)
    (ts : List Token)
    → none ≡ false → arguments_by again none r ts ≡ turns (argument again r) (length ts) [] ts
arguments_open again none r ts e = ap (λ b. arguments_by again b r ts) e
