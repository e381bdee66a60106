-- A list of tokens has one expression, and at most one answer fits.
use Rattle.std.proofs.Common.{◌≡◌, ◌-◌, ℕ, List, Ok, Err, refl, ap, arith}
use Rattle.c_tree.specs.Expr.{Expr}
use Rattle.c_token.specs.declared.token.Token.{Token}
use Rattle.c_expr.specs.declared.fault.ParseFault.TheVariants.{Unexpected, TooDeep, OutOfMemory}
use Rattle.c_expr.specs.declared.rule.Rule.{Rule}
use Rattle.c_expr.specs.Leveled.{Leveled, tokens_of}
use Rattle.c_expr.specs.Next.{Outcome}
use Rattle.c_expr.specs.private.ExpressionReading.{ruled}
use Rattle.c_expr.specs.private.ParserRules.{IsRule}
use Rattle.c_expr.specs.Parsing.{Parsed, Agrees}
use Rattle.c_expr.proofs.PlacedExpressions.{placed_rule}
use Rattle.c_expr.proofs.ExactExpressions.{complete_rule}
use Rattle.c_expr.proofs.Single as single
use Rattle.c_expr.proofs.Single.{Reader}

module _ (which : Rule) (l : ℕ) where
  abbrev reader : Reader (IsRule which l)
  reader = record {
    reads = λ m. ruled which (m - l);
    complete = λ m a x h ts i. complete_rule which l a x h m (m - l) (m - l) refl (omega arith) ts i;
    moved = placed_rule which l;
  }

  pub one_tree : (a b : List Leveled) (x y : Expr) → IsRule which l a x → IsRule which l b y
      → tokens_of a ≡ tokens_of b → x ≡ y
  one_tree = single.one_tree (IsRule which l) reader

  pub one_answer : (ts : List Token) (o q : Outcome Expr) → Parsed (IsRule which l) ts o
      → Parsed (IsRule which l) ts q → Agrees o q
  one_answer ts (Ok x) (Ok y) h i = ap Ok (single.read_read (IsRule which l) reader ts x.1 y.1 x.0 y.0 h i)
  one_answer ts (Ok x) (Err (Unexpected p)) h i = absurd (single.read_stops (IsRule which l) reader ts x.1 x.0 p h i.stop (λ e f. i.unfinished h.read x.0 h.spelled e))
  one_answer ts (Ok x) (Err (TooDeep p)) h i = absurd (single.read_deep (IsRule which l) reader ts x.1 x.0 p h i)
  one_answer ts (Ok x) (Err OutOfMemory) h i = tt
  one_answer ts (Err (Unexpected p)) (Ok x) h i = absurd (single.read_stops (IsRule which l) reader ts x.1 x.0 p i h.stop (λ e f. h.unfinished i.read x.0 i.spelled e))
  one_answer ts (Err (Unexpected p)) (Err (Unexpected q)) h i = ap (λ p. Err (Unexpected p)) (single.stops_stops (IsRule which l) reader ts p q h.stop i.stop)
  one_answer ts (Err (Unexpected p)) (Err (TooDeep q)) h i = absurd (single.stops_deep (IsRule which l) reader ts p q h.stop i)
  one_answer ts (Err (Unexpected p)) (Err OutOfMemory) h i = tt
  one_answer ts (Err (TooDeep p)) (Ok x) h i = absurd (single.read_deep (IsRule which l) reader ts x.1 x.0 p i h)
  one_answer ts (Err (TooDeep p)) (Err (Unexpected q)) h i = absurd (single.stops_deep (IsRule which l) reader ts q p i.stop h)
  one_answer ts (Err (TooDeep p)) (Err (TooDeep q)) h i = ap (λ p. Err (TooDeep p)) (single.deep_deep (IsRule which l) reader ts p q h i)
  one_answer ts (Err (TooDeep p)) (Err OutOfMemory) h i = tt
  one_answer ts (Err OutOfMemory) q h i = tt
