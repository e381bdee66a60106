-- A reader of whole lists that meets its law, and reads what is spelled where there is enough room, answers what the grammar says.
use Rattle.std.proofs.Common.{◌≡◌, zero, List, [], ◌∷◌, ◌++◌, Ok, Err, refl, sym, subst, arith, append-nil}
use Rattle.std.specs.Prelude.{Result}
use Rattle.c_token.specs.declared.token.Token.{Token}
use Rattle.c_tree.specs.Item.{Item}
use Rattle.c_expr.specs.declared.fault.ParseFault.{ParseFault}
use Rattle.c_expr.specs.declared.fault.ParseFault.TheVariants.{Unexpected, TooDeep, OutOfMemory}
use Rattle.c_expr.specs.Leveled.{Leveled, tokens_of}
use Rattle.c_expr.specs.Next.{Outcome}
use Rattle.c_expr.specs.Parsing.{IsEnded}
use Rattle.c_expr.proofs.ExactExpressions.{wide, read_ends, refused_by, deep_by}
use Rattle.c_decl.specs.Units.{IsUnit}
use Rattle.c_decl.specs.private.UnitReading.{unit}
use Rattle.c_decl.specs.Whole.{ParsedWhole}
use Rattle.c_decl.proofs.SoundUnits.{WholeLaw, unit_law}

-- what a parser of whole lists answers: a token that is left is out of place
abbrev pub whole_of : {X : Type 0} → Outcome X → Result X ParseFault
whole_of (Ok (x, [])) = Ok x
whole_of (Ok (x, next ∷ rest)) = Err (Unexpected next.place)
whole_of (Err e) = Err e

module _ {X : Type 0} (P : List Leveled → X → Type 0) (wider : List Leveled → List Token → Outcome X)
    (complete : (c : List Leveled) (x : X) → P c x → wider c (tokens_of c ++ []) ≡ Ok (x, [])) where
  pub whole_by : (ts : List Token) (o : Outcome X) → IsEnded ts → WholeLaw 201 P wider ts o
      → ParsedWhole P ts (whole_of o)
  whole_by ts (Ok (x, [])) ended h = record { read = h.read; splits = h.splits; spelled = h.holds; low = h.low; no_further = tt }
  whole_by ts (Ok (x, next ∷ rest)) ended h = record {
    read = h.read;
    next = next;
    rest = rest;
    splits = h.splits;
    is_at = refl;
    low = h.low;
    more = [];
    tree = x;
    begins = subst (λ a. P a x) (sym (append-nil h.read)) h.holds;
    no_further = read_ends P wider complete x h.read (next ∷ rest) h.again;
  }
  whole_by ts (Err (Unexpected p)) ended h = (refused_by P wider complete ts p h.read h.rest h.more h.value ended h.splits h.place h.low h.holds h.again).stop
  whole_by ts (Err (TooDeep p)) ended h = deep_by P wider complete ts p h
  whole_by ts (Err OutOfMemory) ended h = tt

-- a whole text, by its own reader with more room
pub unit_by : ((c : List Leveled) (xs : List Item) → IsUnit c xs
    → unit (wide zero c) (tokens_of c ++ []) ≡ Ok (xs, [])) → (ts : List Token) → IsEnded ts
    → ParsedWhole IsUnit ts (whole_of (unit 201 ts))
unit_by complete ts ended =
    whole_by IsUnit (λ c. unit (wide zero c)) complete ts (unit 201 ts) ended (unit_law (List Leveled) 201 201 (wide zero) (omega arith) (omega arith) (λ c. omega arith) ts)
