-- How the parser reads items and texts, as a function on lists. It is a device for proofs: what is read rightly is said by `Units`.
use Rattle.std.specs.Prelude.{ℕ, List, [], length, Bool, true, false, Option, Some, None, Ok, ◌⊎◌}
use Rattle.c_tree.specs.declared.operator.Keep.{Keep}
use Rattle.c_tree.specs.declared.operator.Keep.TheVariants as keep
use Rattle.c_tree.specs.declared.place.Place.{Place}
use Rattle.c_tree.specs.Ty.{Ty}
use Rattle.c_tree.specs.Ty as ty
use Rattle.c_tree.specs.Stmt.{Stmt}
use Rattle.c_tree.specs.Item.{Item}
use Rattle.c_tree.specs.Item as the_item
use Rattle.c_token.specs.declared.token.Kind.TheVariants as k
use Rattle.c_token.specs.declared.token.Token.{Token}
use Rattle.c_expr.specs.Next.{is_end, Outcome, ◌>>=◌, kind_of, take, expect, base}
use Rattle.c_expr.specs.private.ExpressionReading.{turns}
use Rattle.c_decl.specs.Units.{function_item}
use Rattle.c_decl.specs.GrammarWords.{word, keep_of}
use Rattle.c_decl.specs.private.DeclarationReading.{is_next, next_or_end, name, stars_from, behind_name, more_declarators, vars, parameters}
use Rattle.c_decl.specs.private.StatementReading.{body, stated}
use Rattle.c_expr.specs.declared.punctuator.TheConstants.{PARENTHESIS_OPEN, BRACE_OPEN, SEMICOLON}
use Rattle.c_decl.specs.declared.reserved.TheConstants.{VOID}

-- A function, behind its name
abbrev pub function_body_by : Bool → ℕ → List Token → Outcome (Option (List Stmt))
function_body_by true r ts = do
  ended ← take r ts
  Ok (None, ended.1)
function_body_by false r ts = do
  opened ← expect (k.Sign BRACE_OPEN) r ts
  found ← body stated r opened.1
  Ok (Some found.0, found.1)

abbrev pub function_body : ℕ → List Token → Outcome (Option (List Stmt))
function_body r ts = function_body_by (is_next (k.Sign SEMICOLON) ts) r ts

abbrev pub function : Ty → ℕ → List ℕ → Place → ℕ → List Token → Outcome Item
function base stars name place r ts = do
  opened ← expect (k.Sign PARENTHESIS_OPEN) r ts
  found ← parameters r opened.1
  inside ← function_body r found.1
  Ok (function_item base stars name place found.0 inside.0, inside.1)

-- Globals, behind the name of the first, where the first number is the room
abbrev pub globals : Ty → ℕ → List ℕ → Place → ℕ → ℕ → List Token → Outcome Item
globals base stars name place inner r ts = do
  first ← behind_name base stars name place inner ts
  found ← more_declarators base first.0 r first.1
  Ok (the_item.Vars keep.Shared found.0, found.1)

abbrev pub named : Bool → Ty → ℕ → List ℕ → Place → ℕ → ℕ → List Token → Outcome Item
named true base stars name place inner r ts = function base stars name place inner ts
named false base stars name place inner r ts = globals base stars name place inner r ts

abbrev pub typed : ℕ → List Token → Outcome Item
typed r ts = do
  to ← base r ts
  stars ← stars_from r 0 to.1
  n ← name stars.0.1 stars.1
  named (is_next (k.Sign PARENTHESIS_OPEN) n.1) to.0 stars.0.0 n.0.0 n.0.1 stars.0.1 r n.1

abbrev pub item_by : Option Keep → Bool → ℕ → List Token → Outcome Item
item_by (Some how) void r ts = do
  first ← take r ts
  found ← vars r first.1
  Ok (the_item.Vars how found.0, found.1)
item_by None true r ts = do
  first ← take r ts
  n ← name r first.1
  function ty.Void 0 n.0.0 n.0.1 r n.1
item_by None false r ts = typed r ts

abbrev pub item : ℕ → List Token → Outcome Item
item r ts = item_by (keep_of (kind_of ts)) (is_next (word VOID.now) ts) r ts

-- Items, up to and with the end
abbrev pub unit_turn_by : Bool → ℕ → List Item → List Token → Outcome (List Item ⊎ List Item)
unit_turn_by = next_or_end item

abbrev pub unit_turn : ℕ → List Item → List Token → Outcome (List Item ⊎ List Item)
unit_turn r found ts = unit_turn_by (is_end (kind_of ts)) r found ts

abbrev pub unit : ℕ → List Token → Outcome (List Item)
unit r ts = turns (unit_turn r) (length ts) [] ts
