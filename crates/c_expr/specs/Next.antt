-- What is next in a list of tokens, and what is left after it.
use Rattle.std.specs.Prelude.{ℕ, zero, suc, List, [], ◌∷◌, Bool, true, false, if◌then◌else◌, Option, Some, None, Result, Ok, Err}
use Rattle.std.specs.Borrow.{Bor}
use Rattle.c_tree.specs.declared.operator.Step.{Step}
use Rattle.c_tree.specs.declared.operator.Unary.{Unary}
use Rattle.c_tree.specs.declared.place.Place.{Place}
use Rattle.c_tree.specs.declared.tree.Callee.{Callee}
use Rattle.c_tree.specs.Ty.{Ty}
use Rattle.c_tree.specs.Ty as the_ty
use Rattle.c_token.specs.declared.token.Kind.{Kind}
use Rattle.c_token.specs.declared.token.Kind.TheVariants as k
use Rattle.c_token.specs.declared.token.Token.{Token}
use Rattle.c_expr.specs.declared.fault.ParseFault.{ParseFault}
use Rattle.c_expr.specs.declared.fault.ParseFault.TheVariants.{Unexpected, TooDeep}
use Rattle.c_expr.specs.Spelled.{same, unary_op, first_step, builtin, plain_base}
use Rattle.c_expr.specs.declared.punctuator.TheConstants.{PARENTHESIS_OPEN, PARENTHESIS_CLOSE}
use Rattle.c_expr.specs.declared.keyword.TheConstants.{UNSIGNED, END_OF_FILE}

abbrev pub Outcome : Type 0 → Type 0
Outcome X = Result (X × List Token) ParseFault

infixl 10 ◌>>=◌
abbrev pub ◌>>=◌ : {X Y : Type 0} → Outcome X → (X × List Token → Outcome Y) → Outcome Y
(Ok x) >>= f = f x
(Err e) >>= f = Err e

abbrev pub kind_of : List Token → Kind
kind_of [] = k.End
kind_of (x ∷ xs) = x.kind

-- the kind behind a reference, if there is one
abbrev pub seen : Option (Bor Kind) → Kind
seen None = k.End
seen (Some kind) = kind.now

abbrev pub is_end : Kind → Bool
is_end k.End = true
is_end _ = false

-- whether there are no tokens, or the last is the end of the text
abbrev pub ends : List Token → Bool
ends [] = true
ends (x ∷ []) = is_end x.kind
ends (x ∷ y ∷ ts) = ends (y ∷ ts)

abbrev pub nowhere : Place
nowhere = record { line = 0; column = 0 }

abbrev pub place_of : List Token → Place
place_of [] = nowhere
place_of (x ∷ xs) = x.place

abbrev pub unexpected : List Token → ParseFault
unexpected ts = Unexpected (place_of ts)

abbrev pub refuse : {X : Type 0} → List Token → Outcome X
refuse ts = Err (unexpected ts)

-- The room is how many levels may still be added, and one more: at 0 any token is too deep.
abbrev pub take : ℕ → List Token → Outcome Token
take r [] = refuse []
take zero (x ∷ xs) = Err (TooDeep x.place)
take (suc r) (x ∷ xs) = Ok (x, xs)

abbrev pub expect : Kind → ℕ → List Token → Outcome Token
expect kind r ts = if same (kind_of ts) kind then take r ts else refuse ts

-- what begins an expression
abbrev pub operand_by : Kind → Bool → Option Callee → Bool
operand_by (k.Name n) eof callee = true
operand_by (k.Number ty v) eof callee = true
operand_by (k.Character v) eof callee = true
operand_by _ true callee = true
operand_by _ false (Some callee) = true
operand_by _ false None = false

abbrev pub begins_by : Option Unary → Option Step → Bool → Bool → Bool
begins_by (Some o) how opened operand = true
begins_by None (Some how) opened operand = true
begins_by None None true operand = true
begins_by None None false operand = operand

abbrev pub is_eof : Kind → Bool
is_eof kind = same kind (k.Reserved END_OF_FILE.now)

abbrev pub opens : Kind → Bool
opens kind = same kind (k.Sign PARENTHESIS_OPEN)

abbrev pub closes : Kind → Bool
closes kind = same kind (k.Sign PARENTHESIS_CLOSE)

abbrev pub is_operand : Kind → Bool
is_operand kind = operand_by kind (is_eof kind) (builtin kind)

abbrev pub begins : Kind → Bool
begins kind = begins_by (unary_op kind) (first_step kind) (opens kind) (is_operand kind)

-- where no rule may be opened any more
abbrev pub fault_at_start : List Token → ParseFault
fault_at_start ts = if begins (kind_of ts) then TooDeep (place_of ts) else Unexpected (place_of ts)

abbrev pub unsigned_of : Ty → Ty
unsigned_of the_ty.Int = the_ty.Unsigned
unsigned_of other = other

-- Behind `unsigned`
abbrev pub after_unsigned : Option Ty → ℕ → List Token → Outcome Ty
after_unsigned None r ts = Ok (the_ty.Unsigned, ts)
after_unsigned (Some to) r ts = do
  word ← take r ts
  Ok (unsigned_of to, word.1)

abbrev pub base_by : Option Ty → Bool → ℕ → List Token → Outcome Ty
base_by (Some to) unsigned r ts = do
  word ← take r ts
  Ok (to, word.1)
base_by None true r ts = do
  word ← take r ts
  after_unsigned (plain_base (kind_of word.1)) r word.1
base_by None false r ts = refuse ts

abbrev pub is_unsigned : Kind → Bool
is_unsigned kind = same kind (k.Reserved UNSIGNED.now)

abbrev pub base : ℕ → List Token → Outcome Ty
base r ts = base_by (plain_base (kind_of ts)) (is_unsigned (kind_of ts)) r ts

abbrev pub is_base_by : Option Ty → Bool → Bool
is_base_by (Some to) unsigned = true
is_base_by None unsigned = unsigned

abbrev pub is_base : Kind → Bool
is_base kind = is_base_by (plain_base kind) (is_unsigned kind)
