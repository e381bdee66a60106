-- What a token does behind an expression: how loosely it binds what stands before it.
use Rattle.std.proofs.Common.{◌≡◌, ◌<◌, ◌≤◌, ℕ, List, [], ◌∷◌, Option, Some, None, Bool, true, false, refl, sym, ap, ◌∙◌, subst, arith, eqb-true}
use Rattle.std.specs.Prelude.{◌==◌, if◌then◌else◌}
use Rattle.c_tree.specs.Ty.{Ty}
use Rattle.c_tree.specs.declared.operator.Binary.{Binary}
use Rattle.c_tree.specs.declared.operator.Group.{Group}
use Rattle.c_tree.specs.declared.operator.Group.TheVariants as by
use Rattle.c_tree.specs.declared.operator.Step.{Step}
use Rattle.c_tree.specs.declared.operator.Unary.{Unary}
use Rattle.c_tree.specs.declared.tree.Callee.{Callee}
use Rattle.c_token.specs.declared.token.Kind.{Kind}
use Rattle.c_token.specs.declared.token.Kind.TheVariants as k
use Rattle.c_tree.specs.Groups.{group}
use Rattle.c_expr.specs.Spelled.{same, find, assign_op, binary_op, rank, group_rank, unary_op, first_step, last_step, builtin, plain_base, assign_ops, binary_ops, first_steps, last_steps, builtins, plain_bases}
use Rattle.c_expr.specs.Next.{begins, begins_by, operand_by, is_eof, opens, is_base, is_base_by, is_unsigned}
use Rattle.c_expr.specs.private.ExpressionReading.{of_rank, operator_of}
use Rattle.c_expr.proofs.KindWords.{same_is}
use Rattle.c_expr.specs.declared.punctuator.TheConstants.{BRACKET_OPEN, QUESTION}
use Rattle.c_expr.specs.declared.keyword.TheConstants.{UNSIGNED}

-- of each entry of a table
abbrev pub AllOf : {X : Type 0} → (Kind → X → Type 0) → List (Kind × X) → Type 0
AllOf P [] = Unit {0}
AllOf P (x ∷ xs) = P x.0 x.1 × AllOf P xs

pub found : {X : Type 0} (P : Kind → X → Type 0) (xs : List (Kind × X)) (kind : Kind) (v : X)
    → AllOf P xs → find xs kind ≡ Some v → P kind v
found P [] kind v h e = cc
found P (x ∷ xs) kind v h e = go (same kind x.0) refl e (found P xs kind v h.1)
  where
    go : (b : Bool) → same kind x.0 ≡ b → (if b then Some x.1 else find xs kind) ≡ Some v
        → (find xs kind ≡ Some v → P kind v) → P kind v
    go true is e later = let like : x.1 ≡ v = cc in subst (λ c. P c v) (sym (same_is kind x.0 is)) (subst (P x.0) like h.0)
    go false is e later = later e

abbrev pub binds_by : Bool → Option Step → Bool → Option Binary → Bool → Option (Option Binary) → ℕ
binds_by true how call op test assign = 0
binds_by false (Some how) call op test assign = 0
binds_by false None true op test assign = 0
binds_by false None false (Some op) test assign = rank op
binds_by false None false None true assign = 11
binds_by false None false None false (Some how) = 12
binds_by false None false None false None = 13

abbrev pub binds : Kind → ℕ
binds kind = binds_by (same kind (k.Sign BRACKET_OPEN)) (last_step kind) (opens kind) (binary_op kind) (same kind (k.Sign QUESTION)) (assign_op kind)

group_most : (g : Group) → group_rank g ≤ 10
group_most by.Or = omega arith
group_most by.And = omega arith
group_most by.BitOr = omega arith
group_most by.BitXor = omega arith
group_most by.BitAnd = omega arith
group_most by.Equality = omega arith
group_most by.Order = omega arith
group_most by.Shift = omega arith
group_most by.Sum = omega arith
group_most by.Difference = omega arith
group_most by.Product = omega arith

rank_most : (op : Binary) → rank op ≤ 10
rank_most op = group_most (group op)

-- where nothing more is read
pub no_assign : (kind : Kind) → 12 < binds kind → assign_op kind ≡ None
no_assign kind h = go (same kind (k.Sign BRACKET_OPEN)) (last_step kind) (opens kind) (binary_op kind) (same kind (k.Sign QUESTION)) (assign_op kind) h
  where
    go : (i : Bool) (how : Option Step) (call : Bool) (op : Option Binary) (test : Bool)
        (assign : Option (Option Binary)) → 12 < binds_by i how call op test assign → assign ≡ None
    go true how call op test assign h = absurd (omega arith)
    go false (Some how) call op test assign h = absurd (omega arith)
    go false None true op test assign h = absurd (omega arith)
    go false None false (Some op) test assign h = let most = rank_most op in absurd (omega arith)
    go false None false None true assign h = absurd (omega arith)
    go false None false None false (Some how) h = absurd (omega arith)
    go false None false None false None h = refl

pub no_test : (kind : Kind) → 11 < binds kind → same kind (k.Sign QUESTION) ≡ false
no_test kind h = go (same kind (k.Sign BRACKET_OPEN)) (last_step kind) (opens kind) (binary_op kind) (same kind (k.Sign QUESTION)) (assign_op kind) h
  where
    go : (i : Bool) (how : Option Step) (call : Bool) (op : Option Binary) (test : Bool)
        (assign : Option (Option Binary)) → 11 < binds_by i how call op test assign → test ≡ false
    go true how call op test assign h = absurd (omega arith)
    go false (Some how) call op test assign h = absurd (omega arith)
    go false None true op test assign h = absurd (omega arith)
    go false None false (Some op) test assign h = let most = rank_most op in absurd (omega arith)
    go false None false None true assign h = absurd (omega arith)
    go false None false None false assign h = refl

not_rank : (rk : ℕ) (op : Binary) → rk < rank op → of_rank rk (Some op) ≡ None
not_rank rk op h = go (rank op == rk) refl
  where
    go : (b : Bool) → (rank op == rk) ≡ b → (if b then Some op else None) ≡ None
    go false e = refl
    go true e = absurd (let like = eqb-true (rank op) rk e in omega arith)

pub no_operator : (rk : ℕ) (kind : Kind) → rk < binds kind → operator_of rk kind ≡ None
no_operator rk kind h = go (same kind (k.Sign BRACKET_OPEN)) (last_step kind) (opens kind) (binary_op kind) (same kind (k.Sign QUESTION)) (assign_op kind) h
  where
    go : (i : Bool) (how : Option Step) (call : Bool) (op : Option Binary) (test : Bool)
        (assign : Option (Option Binary)) → rk < binds_by i how call op test assign
        → of_rank rk op ≡ None
    go true how call op test assign h = absurd (omega arith)
    go false (Some how) call op test assign h = absurd (omega arith)
    go false None true op test assign h = absurd (omega arith)
    go false None false (Some op) test assign h = not_rank rk op h
    go false None false None test assign h = refl

pub record Unbound (kind : Kind) : Type 0 where
  pub no_index : same kind (k.Sign BRACKET_OPEN) ≡ false
  pub no_step : last_step kind ≡ None
  pub no_call : opens kind ≡ false

pub unbound : (kind : Kind) → 0 < binds kind → Unbound kind
unbound kind h =
    let w = go (same kind (k.Sign BRACKET_OPEN)) (last_step kind) (opens kind) (binary_op kind) (same kind (k.Sign QUESTION)) (assign_op kind) h in
    record { no_index = w.0; no_step = w.1; no_call = w.2 }
  where
    go : (i : Bool) (how : Option Step) (call : Bool) (op : Option Binary) (test : Bool)
        (assign : Option (Option Binary)) → 0 < binds_by i how call op test assign
        → (i ≡ false) × (how ≡ None) × (call ≡ false)
    go true how call op test assign h = absurd (omega arith)
    go false (Some how) call op test assign h = absurd (omega arith)
    go false None true op test assign h = absurd (omega arith)
    go false None false op test assign h = (refl, refl, refl)

-- how operators bind
pub assign_binds : (kind : Kind) (how : Option Binary) → assign_op kind ≡ Some how → binds kind ≡ 12
assign_binds kind how e = found (λ kind how. binds kind ≡ 12) assign_ops kind how (refl, (refl, (refl, (refl, (refl, (refl, (refl, (refl, (refl, (refl, (refl, tt))))))))))) e

pub operator_binds : (kind : Kind) (op : Binary) → binary_op kind ≡ Some op → binds kind ≡ rank op
operator_binds kind op e =
    found (λ kind op. binds kind ≡ rank op) binary_ops kind op (refl, (refl, (refl, (refl, (refl, (refl, (refl, (refl, (refl, (refl, (refl, (refl, (refl, (refl, (refl, (refl, (refl, (refl, tt)))))))))))))))))) e

-- a suffix binds tightest, and is no call
pub step_binds : (kind : Kind) (how : Step) → last_step kind ≡ Some how
    → (same kind (k.Sign BRACKET_OPEN) ≡ false) × (opens kind ≡ false)
step_binds kind how e = found (λ kind how. (same kind (k.Sign BRACKET_OPEN) ≡ false) × (opens kind ≡ false)) last_steps kind how ((refl, refl), ((refl, refl), tt)) e

-- what begins an expression
pub prefix_begins : (kind : Kind) (op : Unary) → unary_op kind ≡ Some op → begins kind ≡ true
prefix_begins kind op e = ap (λ o. begins_by o (first_step kind) (opens kind) (operand_by kind (is_eof kind) (builtin kind))) e

pub step_begins : (kind : Kind) (how : Step) → first_step kind ≡ Some how
    → (begins kind ≡ true) × (unary_op kind ≡ None)
step_begins kind how e = found (λ kind how. (begins kind ≡ true) × (unary_op kind ≡ None)) first_steps kind how ((refl, refl), ((refl, refl), tt)) e

-- a builtin callee begins a primary expression and nothing else
pub record BeginsCall (kind : Kind) : Type 0 where
  pub starts : begins kind ≡ true
  pub no_prefix : unary_op kind ≡ None
  pub no_step : first_step kind ≡ None
  pub no_open : opens kind ≡ false
  pub no_eof : is_eof kind ≡ false
  pub word : (bytes : List ℕ) × (kind ≡ k.Reserved bytes)

pub builtin_begins : (kind : Kind) (callee : Callee) → builtin kind ≡ Some callee → BeginsCall kind
builtin_begins kind callee e = found (λ kind callee. BeginsCall kind) builtins kind callee (
  record { starts = refl; no_prefix = refl; no_step = refl; no_open = refl; no_eof = refl; word = (_, refl) },
  (record { starts = refl; no_prefix = refl; no_step = refl; no_open = refl; no_eof = refl; word = (_, refl) }, tt),
) e

-- a base begins no expression
pub no_base : (kind : Kind) → begins kind ≡ true → is_base kind ≡ false
no_base kind h = go (plain_base kind) (is_unsigned kind) refl refl
  where
    go : (to : Option Ty) (u : Bool) → plain_base kind ≡ to → is_unsigned kind ≡ u
        → is_base_by to u ≡ false
    go (Some to) u e i = let none : begins kind ≡ false = found (λ kind to. begins kind ≡ false) plain_bases kind to (refl, (refl, tt)) e in let no : true ≡ false = sym h ∙ none in cc
    go None true e i = let none : begins kind ≡ false = ap begins (same_is kind (k.Reserved UNSIGNED.now) i) in let no : true ≡ false = sym h ∙ none in cc
    go None false e i = refl
