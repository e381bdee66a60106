-- How the parser reads, as a function on lists. It is a device for proofs: what is read rightly is said by `Grammar`.
use Rattle.std.specs.Prelude.{ℕ, zero, suc, ◌==◌, List, [], ◌∷◌, ◌++◌, length, Bool, true, false, if◌then◌else◌, Option, Some, None, Ok, Err, ◌⊎◌}
use mathlib.Core.Logic.{inl, inr}
use Rattle.c_tree.specs.declared.operator.Binary.{Binary}
use Rattle.c_tree.specs.declared.operator.Step.{Step}
use Rattle.c_tree.specs.declared.operator.Unary.{Unary}
use Rattle.c_tree.specs.declared.place.Place.{Place}
use Rattle.c_tree.specs.declared.tree.Callee.{Callee}
use Rattle.c_tree.specs.declared.tree.Callee.TheVariants as c
use Rattle.c_tree.specs.Expr.{Expr}
use Rattle.c_tree.specs.Expr as expr
use Rattle.c_tree.specs.View.{ty_of, exprs_list}
use Rattle.c_token.specs.declared.token.Kind.{Kind}
use Rattle.c_token.specs.declared.token.Kind.TheVariants as k
use Rattle.c_token.specs.declared.token.Token.{Token}
use Rattle.c_expr.specs.declared.rule.Rule.{Rule}
use Rattle.c_expr.specs.declared.rule.Rule.TheVariants.{Assign, Cond, Unary as UnaryRule}
use Rattle.c_expr.specs.Spelled.{same, assign_op, binary_op, rank, lor, unary_op, first_step, last_step, builtin}
use Rattle.c_expr.specs.Next.{Outcome, ◌>>=◌, kind_of, refuse, take, expect, is_eof, opens, closes, fault_at_start, base, is_base}
use Rattle.c_expr.specs.declared.punctuator.TheConstants.{PARENTHESIS_OPEN, PARENTHESIS_CLOSE, BRACKET_OPEN, BRACKET_CLOSE, COMMA, QUESTION, COLON}

abbrev pub of_rank : ℕ → Option Binary → Option Binary
of_rank rk (Some o) = if rank o == rk then Some o else None
of_rank rk None = None

abbrev pub operator_of : ℕ → Kind → Option Binary
operator_of rk kind = of_rank rk (binary_op kind)

-- One more operator and its operand, and then `onward`
abbrev pub chain_step : (List Token → Outcome Expr) → (Expr → List Token → Outcome Expr)
    → Option Binary → ℕ → Expr → List Token → Outcome Expr
chain_step operand onward None r x ts = Ok (x, ts)
chain_step operand onward (Some o) r x ts = do
  mark ← take r ts
  y ← operand mark.1
  onward (expr.Binary o x y.0 mark.0.place) y.1

abbrev pub chain_from : (ℕ → List Token → Outcome Expr) → ℕ → ℕ → Expr → List Token → Outcome Expr
chain_from operand rk zero x ts =
    chain_step (operand zero) (λ y us. Ok (y, us)) (operator_of rk (kind_of ts)) zero x ts
chain_from operand rk (suc r) x ts =
    chain_step (operand r) (chain_from operand rk r) (operator_of rk (kind_of ts)) (suc r) x ts

-- Turns of a step that says whether it was the last. The number bounds them.
abbrev pub turn : {A B : Type 0} → (A → List Token → Outcome B) → (A ⊎ B) × List Token → Outcome B
turn onward (inl x, ts) = onward x ts
turn onward (inr y, ts) = Ok (y, ts)

abbrev pub turns : {A B : Type 0} → (A → List Token → Outcome (A ⊎ B)) → ℕ → A → List Token
    → Outcome B
turns step zero x ts = refuse ts
turns step (suc n) x ts = step x ts >>= turn (turns step n)

-- After an element of a list in parentheses: a comma, or the parenthesis that closes it
abbrev pub after_element : {X : Type 0} → Bool → ℕ → X → List Token → Outcome (X ⊎ X)
after_element true r found ts = do
  comma ← take r ts
  Ok (inl found, comma.1)
after_element false r found ts = do
  closed ← expect (k.Sign PARENTHESIS_CLOSE) r ts
  Ok (inr found, closed.1)

-- Each rule, by the rules that it opens, which take the room and the tokens.
module _ (again : Rule → ℕ → List Token → Outcome Expr) where
  abbrev pub assign_by : Option (Option Binary) → ℕ → Expr → List Token → Outcome Expr
  assign_by None r x ts = Ok (x, ts)
  assign_by (Some how) r x ts = do
    mark ← take r ts
    y ← again Assign r mark.1
    Ok (expr.Assign how x y.0 mark.0.place, y.1)

  unfoldable pub assign_inside : ℕ → List Token → Outcome Expr
  assign_inside r ts = do
    x ← again Cond r ts
    assign_by (assign_op (kind_of x.1)) r x.0 x.1

  unfoldable pub binary : ℕ → ℕ → List Token → Outcome Expr
  binary zero r ts = again UnaryRule r ts
  binary (suc rk) r ts = do
    x ← binary rk r ts
    chain_from (binary rk) (suc rk) r x.0 x.1

  abbrev pub conditional_by : Bool → ℕ → Expr → List Token → Outcome Expr
  conditional_by false r x ts = Ok (x, ts)
  conditional_by true r x ts = do
    mark ← take r ts
    y ← again Assign r mark.1
    colon ← expect (k.Sign COLON) r y.1
    z ← again Cond r colon.1
    Ok (expr.Conditional x y.0 z.0 mark.0.place, z.1)

  unfoldable pub cond_inside : ℕ → List Token → Outcome Expr
  cond_inside r ts = do
    x ← binary lor r ts
    conditional_by (same (kind_of x.1) (k.Sign QUESTION)) r x.0 x.1

  -- One suffix, and then `onward`
  abbrev pub suffix_step : (Expr → List Token → Outcome Expr) → Bool → Option Step → ℕ → Expr
      → List Token → Outcome Expr
  suffix_step onward true how r x ts = do
    opened ← take r ts
    y ← again Assign r opened.1
    closed ← expect (k.Sign BRACKET_CLOSE) r y.1
    onward (expr.Index x y.0 opened.0.place) closed.1
  suffix_step onward false (Some how) r x ts = do
    mark ← take r ts
    onward (expr.Step how x mark.0.place) mark.1
  suffix_step onward false None r x ts = Ok (x, ts)

  abbrev pub suffixes_from : ℕ → Expr → List Token → Outcome Expr
  suffixes_from zero x ts =
      suffix_step (λ y us. Ok (y, us)) (same (kind_of ts) (k.Sign BRACKET_OPEN))
      (last_step (kind_of ts)) zero x ts
  suffixes_from (suc r) x ts =
      suffix_step (suffixes_from r) (same (kind_of ts) (k.Sign BRACKET_OPEN)) (last_step (kind_of ts))
      (suc r) x ts

  abbrev pub argument : ℕ → List Expr → List Token → Outcome (List Expr ⊎ List Expr)
  argument r found ts = do
    x ← again Assign r ts
    after_element (same (kind_of x.1) (k.Sign COMMA)) r (found ++ x.0 ∷ []) x.1

  -- through the closing parenthesis
  abbrev pub arguments_by : Bool → ℕ → List Token → Outcome (List Expr)
  arguments_by true r ts = do
    closed ← take r ts
    Ok ([], closed.1)
  arguments_by false r ts = turns (argument r) (length ts) [] ts

  abbrev pub arguments : ℕ → List Token → Outcome (List Expr)
  arguments r ts = arguments_by (closes (kind_of ts)) r ts

  -- after the opening parenthesis
  abbrev pub call : Callee → Place → ℕ → List Token → Outcome Expr
  call callee place r ts = do
    found ← arguments r ts
    Ok (expr.Call callee (exprs_list found.0) place, found.1)

  abbrev pub after_name : Bool → List ℕ → Place → ℕ → List Token → Outcome Expr
  after_name true n place r ts = do
    opened ← take r ts
    call (c.Name n) place r opened.1
  after_name false n place r ts = Ok (expr.Name n place, ts)

  abbrev pub name_or_call : List ℕ → Place → ℕ → List Token → Outcome Expr
  name_or_call n place r ts = after_name (opens (kind_of ts)) n place r ts

  abbrev pub reserved : Bool → Option Callee → ℕ → List Token → Outcome Expr
  reserved true callee r ts = do
    first ← take r ts
    Ok (expr.Eof first.0.place, first.1)
  reserved false (Some callee) r ts = do
    first ← take r ts
    opened ← expect (k.Sign PARENTHESIS_OPEN) r first.1
    call callee first.0.place r opened.1
  reserved false None r ts = refuse ts

  abbrev pub by_word : ℕ → List Token → Outcome Expr
  by_word r ts = reserved (is_eof (kind_of ts)) (builtin (kind_of ts)) r ts

  abbrev pub primary_by : Kind → Bool → Option Callee → ℕ → List Token → Outcome Expr
  primary_by (k.Name n) eof callee r ts = do
    first ← take r ts
    name_or_call n first.0.place r first.1
  primary_by (k.Number ty v) eof callee r ts = do
    first ← take r ts
    Ok (expr.Number (ty_of ty) v first.0.place, first.1)
  primary_by (k.Character v) eof callee r ts = do
    first ← take r ts
    Ok (expr.Character v first.0.place, first.1)
  primary_by _ eof callee r ts = reserved eof callee r ts

  abbrev pub primary : ℕ → List Token → Outcome Expr
  primary r ts = primary_by (kind_of ts) (is_eof (kind_of ts)) (builtin (kind_of ts)) r ts

  -- after `(`: a cast, at that place, or an expression in parentheses
  abbrev pub after_open : Bool → Place → ℕ → List Token → Outcome Expr
  after_open true place r ts = do
    to ← base r ts
    closed ← expect (k.Sign PARENTHESIS_CLOSE) r to.1
    x ← again UnaryRule r closed.1
    Ok (expr.Cast to.0 x.0 place, x.1)
  after_open false place r ts = do
    x ← again Assign r ts
    closed ← expect (k.Sign PARENTHESIS_CLOSE) r x.1
    suffixes_from r x.0 closed.1

  abbrev pub cast_or_group : Place → ℕ → List Token → Outcome Expr
  cast_or_group place r ts = after_open (is_base (kind_of ts)) place r ts

  abbrev pub unary_by : Option Unary → Option Step → Bool → ℕ → List Token → Outcome Expr
  unary_by (Some o) how opened r ts = do
    mark ← take r ts
    x ← again UnaryRule r mark.1
    Ok (expr.Unary o x.0 mark.0.place, x.1)
  unary_by None (Some how) opened r ts = do
    mark ← take r ts
    x ← again UnaryRule r mark.1
    Ok (expr.Step how x.0 mark.0.place, x.1)
  unary_by None None true r ts = do
    opened ← take r ts
    cast_or_group opened.0.place r opened.1
  unary_by None None false r ts = do
    x ← primary r ts
    suffixes_from r x.0 x.1

  unfoldable pub unary_inside : ℕ → List Token → Outcome Expr
  unary_inside r ts = unary_by (unary_op (kind_of ts)) (first_step (kind_of ts))
      (opens (kind_of ts)) r ts

  abbrev pub inside : Rule → ℕ → List Token → Outcome Expr
  inside Assign r ts = assign_inside r ts
  inside Cond r ts = cond_inside r ts
  inside UnaryRule r ts = unary_inside r ts

-- The first number bounds how deep rules nest.
unfoldable pub rule : ℕ → Rule → ℕ → List Token → Outcome Expr
rule zero which r ts = Err (fault_at_start ts)
rule (suc f) which zero ts = Err (fault_at_start ts)
rule (suc f) which (suc r) ts = inside (rule f) which r ts

-- a rule with as much depth as room
abbrev pub ruled : Rule → ℕ → List Token → Outcome Expr
ruled which r ts = rule r which r ts
