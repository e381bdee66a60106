-- A token that begins no statement is refused where a statement is wanted.
use Rattle.std.proofs.Common.{◌≡◌, ℕ, zero, suc, List, Option, Some, None, Ok, Err, ap, Bool, false}
use Rattle.std.specs.Prelude.{if◌then◌else◌}
use Rattle.c_token.specs.declared.token.Token.{Token}
use Rattle.c_tree.specs.declared.place.Place.{Place}
use Rattle.c_tree.specs.Stmt.{Stmt}
use Rattle.c_tree.specs.Stmt as stmt
use Rattle.c_expr.specs.declared.fault.ParseFault.TheVariants.{Unexpected, TooDeep}
use Rattle.c_expr.specs.private.ParserRules.{Assign}
use Rattle.c_expr.specs.Next.{Outcome, ◌>>=◌, kind_of, place_of, refuse, expect, begins}
use Rattle.c_expr.proofs.ParserRulesLemmas.{refuses}
use Rattle.c_decl.specs.private.StatementReading.{opening_of, begins_statement_by, begins_statement, expression_at, opened_by, opened, statement}
use Rattle.c_decl.specs.declared.opening.Opening.{Opening}
use Rattle.c_expr.specs.declared.punctuator.TheConstants.{SEMICOLON}
use Rattle.c_token.specs.declared.token.Kind.TheVariants as k

pub expression_refuses : (place : Place) (r : ℕ) (ts : List Token) → begins (kind_of ts) ≡ false
    → expression_at place r ts ≡ refuse ts
expression_refuses place r ts e = ap (λ o. o >>= λ x. expect (k.Sign SEMICOLON) r x.1 >>= λ c. Ok (stmt.Expr x.0 place, c.1)) (refuses r Assign r ts e)

opened_refuses : (again : ℕ → List Token → Outcome Stmt) (which : Option Opening) (r : ℕ)
    (ts : List Token) → begins_statement_by which (begins (kind_of ts)) ≡ false
    → opened_by again which r ts ≡ refuse ts
opened_refuses again (Some which) r ts e = cc
opened_refuses again None r ts e = expression_refuses (place_of ts) r ts e

pub statement_refuses : (f r : ℕ) (ts : List Token) → begins_statement (kind_of ts) ≡ false
    → statement f r ts ≡ refuse ts
unfolding statement opened
statement_refuses zero r ts e = ap (λ (b : Bool). Err (if b then TooDeep (place_of ts) else Unexpected (place_of ts))) e
statement_refuses (suc f) zero ts e = ap (λ (b : Bool). Err (if b then TooDeep (place_of ts) else Unexpected (place_of ts))) e
statement_refuses (suc f) (suc r) ts e = opened_refuses (statement f) (opening_of (kind_of ts)) r ts e
