-- The answers that the grammar allows are those that the reading function gives.
use Rattle.std.proofs.Common.{◌≡◌, ◌-◌, ℕ, List, [], ◌∷◌, length, drop, Ok, Err, refl, sym, ap, ◌∙◌, subst, arith}
use Rattle.c_tree.specs.declared.tree.Expr.{Expr as ExprTree}
use Rattle.c_tree.specs.Expr.{Expr}
use Rattle.c_tree.specs.View.{expr_of}
use Rattle.c_token.specs.declared.token.Token.{Token}
use Rattle.c_expr.specs.declared.fault.ParseFault.{ParseFault}
use Rattle.c_expr.specs.declared.fault.ParseFault.TheVariants.{Unexpected, TooDeep, OutOfMemory}
use Rattle.c_expr.specs.declared.rule.Rule.{Rule}
use Rattle.c_expr.specs.Leveled.{Leveled}
use Rattle.c_expr.specs.Next.{Outcome, place_of}
use Rattle.c_expr.specs.Reads.{Fails}
use Rattle.c_expr.specs.private.ExpressionReading.{rule, ruled}
use Rattle.c_expr.specs.private.ParserRules.{IsRule}
use Rattle.c_expr.specs.Parsing.{Parsed, ParsedAt, Agrees, IsEnded}
use Rattle.c_expr.proofs.Law.{Lawful, plain}
use Rattle.c_expr.proofs.ParserRulesLemmas.{rule_law, refuses}
use Rattle.c_expr.proofs.ExactExpressions.{Answered, parsed, from, from_is}
use Rattle.c_expr.proofs.OneTree.{one_answer}

-- the reading function never wants memory
no_memory_by : (m : ℕ) (P : List Leveled → Expr → List Token → Type 0)
    (q : Unit {0} → List Token → Outcome Expr) (ts : List Token)
    → Lawful m P q ts (Err OutOfMemory) → ⊥
no_memory_by m P q ts h = h.law

reads_in_memory : (which : Rule) (r : ℕ) (ts : List Token) → ruled which r ts ≡ Err OutOfMemory → ⊥
reads_in_memory which r ts e =
    no_memory_by r (plain (IsRule which 0)) (λ i. rule r which r) ts
    (subst (λ o. Lawful r (plain (IsRule which 0)) (λ (i : Unit {0}). rule r which r) ts o) e (rule_law (Unit {0}) r (λ i. r) r which 0 r (λ i. r) ts (omega arith) (omega arith) (λ i. (omega arith, omega arith))))

agree : (o : Outcome Expr) (x : Expr × List Token) → (o ≡ Err OutOfMemory → ⊥) → Agrees (Ok x) o
    → o ≡ Ok x
agree (Ok y) x known h = sym h
agree (Err (Unexpected p)) x known h = sym h
agree (Err (TooDeep p)) x known h = sym h
agree (Err OutOfMemory) x known h = absurd (known refl)

agree_fault : (o : Outcome Expr) (e : ParseFault) → (o ≡ Err OutOfMemory → ⊥) → Agrees (Err e) o
    → Fails e o
agree_fault o OutOfMemory known h = tt
agree_fault (Ok y) (Unexpected p) known h = sym h
agree_fault (Err (Unexpected q)) (Unexpected p) known h = sym h
agree_fault (Err (TooDeep q)) (Unexpected p) known h = sym h
agree_fault (Err OutOfMemory) (Unexpected p) known h = absurd (known refl)
agree_fault (Ok y) (TooDeep p) known h = sym h
agree_fault (Err (Unexpected q)) (TooDeep p) known h = sym h
agree_fault (Err (TooDeep q)) (TooDeep p) known h = sym h
agree_fault (Err OutOfMemory) (TooDeep p) known h = absurd (known refl)

-- what fits the tokens is what is read
parsed_of : (P : List Leveled → Expr → Type 0) (ts : List Token) (o : Outcome Expr)
    → Answered P ts o → Parsed P ts o
parsed_of P ts (Ok x) h = h.1
parsed_of P ts (Err e) h = h

module _ (which : Rule) (l r : ℕ) (ts : List Token) (room : r ≡ 201 - l) (ended : IsEnded ts) where
  agreed : (o : Outcome Expr) → Parsed (IsRule which l) ts o → Agrees o (ruled which r ts)
  agreed o h = one_answer which l ts o (ruled which r ts) h (parsed_of (IsRule which l) ts (ruled which r ts) (parsed which l r ts room ended))

  pub reads_ok : (x : ExprTree) (n : ℕ) → ParsedAt (IsRule which l) ts 0 (Ok (x, n))
      → ruled which r ts ≡ Ok (expr_of x, from ts n)
  reads_ok x n h =
      agree (ruled which r ts) (expr_of x, drop n ts) (reads_in_memory which r ts) (agreed (Ok (expr_of x, drop n ts)) h.1)
      ∙ ap (λ us. Ok (expr_of x, us)) (sym (from_is ts n))

  pub reads_err : (e : ParseFault) → ParsedAt (IsRule which l) ts 0 (Err e)
      → Fails e (ruled which r ts)
  reads_err e h = agree_fault (ruled which r ts) e (reads_in_memory which r ts) (agreed (Err e) h)

-- where there are no tokens
pub reads_none : (which : Rule) (r : ℕ) (ts : List Token) → length ts ≡ 0
    → ruled which r ts ≡ Err (Unexpected (place_of ts))
reads_none which r [] h = refuses r which r [] refl
reads_none which r (t ∷ ts) h = absurd (omega arith)
