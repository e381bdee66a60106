-- A text has one tree, and at most one answer fits.
use Rattle.std.proofs.Common.{◌≡◌, ◌+◌, List, [], ◌∷◌, ◌++◌, Result, Ok, Err, refl, ap}
use Rattle.c_tree.specs.Item.{Item}
use Rattle.c_token.specs.declared.token.Token.{Token}
use Rattle.c_expr.specs.declared.fault.ParseFault.{ParseFault}
use Rattle.c_expr.specs.declared.fault.ParseFault.TheVariants.{Unexpected, TooDeep, OutOfMemory}
use Rattle.c_expr.specs.Leveled.{Leveled, tokens_of}
use Rattle.c_expr.specs.Parsing.{Agrees}
use Rattle.c_expr.proofs.ExactExpressions.{limit_of, below_limit}
use Rattle.c_expr.proofs.Single as single
use Rattle.c_expr.proofs.Single.{Reader}
use Rattle.c_decl.specs.Units.{IsUnit}
use Rattle.c_decl.specs.private.UnitReading.{unit}
use Rattle.c_decl.specs.Whole.{ParsedWhole}
use Rattle.c_decl.proofs.CompleteUnits.{complete_unit}
use Rattle.c_decl.proofs.PlacedItems.{placed_unit}

abbrev reader : Reader IsUnit
reader = record { reads = unit; complete = λ m a xs h ts i. complete_unit h m m refl [] ts i; moved = λ a xs h b i. placed_unit h b i }

-- with room for all of it
pub read_whole : (a : List Leveled) (xs : List Item) → IsUnit a xs
    → unit (limit_of a + 201) (tokens_of a ++ []) ≡ Ok (xs, [])
read_whole a xs h = single.reads_all IsUnit reader (limit_of a + 201) a xs h (below_limit a 201)

pub one_tree : (a b : List Leveled) (xs ys : List Item) → IsUnit a xs → IsUnit b ys
    → tokens_of a ≡ tokens_of b → xs ≡ ys
one_tree = single.one_tree IsUnit reader

none_left : (t : Token) (ts : List Token) → [] ≡ t ∷ ts → ⊥
none_left t ts e = cc

pub one_answer : (ts : List Token) (o q : Result (List Item) ParseFault) → ParsedWhole IsUnit ts o
    → ParsedWhole IsUnit ts q → Agrees o q
one_answer ts (Ok xs) (Ok ys) h i = ap (λ (r : List Item × List Token). Ok r.0) (single.read_read IsUnit reader ts [] [] xs ys h i)
one_answer ts (Ok xs) (Err (Unexpected p)) h i = absurd (single.read_stops IsUnit reader ts [] xs p h i (λ e f. none_left i.next i.rest f))
one_answer ts (Ok xs) (Err (TooDeep p)) h i = absurd (single.read_deep IsUnit reader ts [] xs p h i)
one_answer ts (Ok xs) (Err OutOfMemory) h i = tt
one_answer ts (Err (Unexpected p)) (Ok xs) h i = absurd (single.read_stops IsUnit reader ts [] xs p i h (λ e f. none_left h.next h.rest f))
one_answer ts (Err (Unexpected p)) (Err (Unexpected q)) h i = ap (λ p. Err (Unexpected p)) (single.stops_stops IsUnit reader ts p q h i)
one_answer ts (Err (Unexpected p)) (Err (TooDeep q)) h i = absurd (single.stops_deep IsUnit reader ts p q h i)
one_answer ts (Err (Unexpected p)) (Err OutOfMemory) h i = tt
one_answer ts (Err (TooDeep p)) (Ok xs) h i = absurd (single.read_deep IsUnit reader ts [] xs p i h)
one_answer ts (Err (TooDeep p)) (Err (Unexpected q)) h i = absurd (single.stops_deep IsUnit reader ts q p i h)
one_answer ts (Err (TooDeep p)) (Err (TooDeep q)) h i = ap (λ p. Err (TooDeep p)) (single.deep_deep IsUnit reader ts p q h i)
one_answer ts (Err (TooDeep p)) (Err OutOfMemory) h i = tt
one_answer ts (Err OutOfMemory) q h i = tt
