-- How the parser reads statements, as a function on lists. It is a device for proofs: what is read rightly is said by `Statements`.
use Rattle.std.specs.Prelude.{ℕ, zero, suc, List, [], ◌∷◌, length, Bool, true, false, if◌then◌else◌, Option, Some, None, Ok, Err, ◌⊎◌}
use Rattle.c_tree.specs.declared.place.Place.{Place}
use Rattle.c_tree.specs.declared.tree.Count.{Count}
use Rattle.c_tree.specs.declared.tree.Count.TheVariants as count
use Rattle.c_tree.specs.declared.tree.Marker.{Marker}
use Rattle.c_tree.specs.declared.tree.Marker.TheVariants as m
use Rattle.c_tree.specs.Expr.{Expr}
use Rattle.c_tree.specs.First.{First}
use Rattle.c_tree.specs.First as for_first
use Rattle.c_tree.specs.Stmt.{Stmt}
use Rattle.c_tree.specs.Stmt as stmt
use Rattle.c_tree.specs.View.{stmts_list}
use Rattle.c_token.specs.declared.token.Kind.{Kind}
use Rattle.c_token.specs.declared.token.Kind.TheVariants as k
use Rattle.c_token.specs.declared.token.Token.{Token}
use Rattle.c_expr.specs.declared.fault.ParseFault.{ParseFault}
use Rattle.c_expr.specs.declared.fault.ParseFault.TheVariants.{Unexpected, TooDeep}
use Rattle.c_expr.specs.private.ParserRules.{Assign}
use Rattle.c_expr.specs.Spelled.{find}
use Rattle.c_expr.specs.Next.{Outcome, ◌>>=◌, kind_of, place_of, refuse, take, expect, begins, is_base}
use Rattle.c_expr.specs.private.ExpressionReading.{ruled, turns}
use Rattle.c_decl.specs.GrammarWords.{word, marker_of}
use Rattle.c_decl.specs.private.DeclarationReading.{is_next, next_or_end, name, vars}
use Rattle.c_decl.specs.declared.opening.Opening.{Opening}
use Rattle.c_decl.specs.declared.opening.Opening.TheVariants as o
use Rattle.c_expr.specs.declared.punctuator.TheConstants.{PARENTHESIS_OPEN, PARENTHESIS_CLOSE, BRACE_OPEN, BRACE_CLOSE, COMMA, SEMICOLON}
use Rattle.c_decl.specs.declared.reserved.TheConstants.{IF, ELSE, WHILE, DO, FOR, RETURN, BREAK, CONTINUE, BEGIN_PPR, END_PPR, WAIT, POST}

-- Markers
abbrev pub number_by : Kind → ℕ → List Token → Outcome ℕ
number_by (k.Number ty v) r ts = do
  first ← take r ts
  Ok (v, first.1)
number_by _ r ts = refuse ts

abbrev pub number : ℕ → List Token → Outcome ℕ
number r ts = number_by (kind_of ts) r ts

abbrev pub count_by : Kind → ℕ → List Token → Outcome Count
count_by (k.Number ty v) r ts = do
  first ← take r ts
  Ok (count.Number v, first.1)
count_by _ r ts = do
  n ← name r ts
  Ok (count.Name n.0.0 n.0.1, n.1)

abbrev pub count_of : ℕ → List Token → Outcome Count
count_of r ts = count_by (kind_of ts) r ts

abbrev pub close : {X : Type 0} → X → ℕ → List Token → Outcome X
close x r ts = do
  closed ← expect (k.Sign PARENTHESIS_CLOSE) r ts
  ended ← expect (k.Sign SEMICOLON) r closed.1
  Ok (x, ended.1)

abbrev pub numbered : ℕ → List Token → Outcome ℕ
numbered r ts = do
  first ← take r ts
  opened ← expect (k.Sign PARENTHESIS_OPEN) r first.1
  n ← number r opened.1
  close n.0 r n.1

abbrev pub post : ℕ → List Token → Outcome Marker
post r ts = do
  opened ← expect (k.Sign PARENTHESIS_OPEN) r ts
  channel ← number r opened.1
  comma ← expect (k.Sign COMMA) r channel.1
  sent ← name r comma.1
  comma ← expect (k.Sign COMMA) r sent.1
  c ← count_of r comma.1
  close (m.Post channel.0 sent.0.0 sent.0.1 c.0) r c.1

abbrev pub marker_by : Option (ℕ → Marker) → Bool → ℕ → List Token → Outcome Marker
marker_by (Some mark) is_post r ts = do
  n ← numbered r ts
  Ok (mark n.0, n.1)
marker_by None true r ts = do
  first ← take r ts
  post r first.1
marker_by None false r ts = refuse ts

abbrev pub marker : ℕ → List Token → Outcome Marker
marker r ts = marker_by (marker_of (kind_of ts)) (is_next (word POST.now) ts) r ts

-- What a statement begins with; none begins an expression statement or no statement.
abbrev pub openings : List (Kind × Opening)
openings =
    (k.Sign SEMICOLON, o.Empty) ∷ (k.Sign BRACE_OPEN, o.Block) ∷ (word IF.now, o.If)
    ∷ (word WHILE.now, o.While) ∷ (word DO.now, o.Do) ∷ (word FOR.now, o.For)
    ∷ (word RETURN.now, o.Return) ∷ (word BREAK.now, o.Break)
    ∷ (word CONTINUE.now, o.Continue)
    ∷ (word BEGIN_PPR.now, o.Marker) ∷ (word END_PPR.now, o.Marker)
    ∷ (word WAIT.now, o.Marker) ∷ (word POST.now, o.Marker) ∷ []

abbrev pub opening_of : Kind → Option Opening
opening_of = find openings

abbrev pub begins_statement_by : Option Opening → Bool → Bool
begins_statement_by (Some which) expression = true
begins_statement_by None expression = expression

abbrev pub begins_statement : Kind → Bool
begins_statement kind = begins_statement_by (opening_of kind) (begins kind)

-- where no statement may be opened any more
abbrev pub fault_at_statement : List Token → ParseFault
fault_at_statement ts = if begins_statement (kind_of ts) then TooDeep (place_of ts)
    else Unexpected (place_of ts)

-- An expression, if one stands before the sign that closes it; the sign too
abbrev pub optional_by : Bool → Kind → ℕ → List Token → Outcome (Option Expr)
optional_by true closer r ts = do
  closed ← take r ts
  Ok (None, closed.1)
optional_by false closer r ts = do
  x ← ruled Assign r ts
  closed ← expect closer r x.1
  Ok (Some x.0, closed.1)

abbrev pub optional : Kind → ℕ → List Token → Outcome (Option Expr)
optional closer r ts = optional_by (is_next closer ts) closer r ts

abbrev pub beginning_by : Bool → Bool → ℕ → List Token → Outcome First
beginning_by true declares r ts = do
  ended ← take r ts
  Ok (for_first.Nothing, ended.1)
beginning_by false true r ts = do
  found ← vars r ts
  Ok (for_first.Vars found.0, found.1)
beginning_by false false r ts = do
  x ← ruled Assign r ts
  ended ← expect (k.Sign SEMICOLON) r x.1
  Ok (for_first.Expr x.0, ended.1)

abbrev pub beginning : ℕ → List Token → Outcome First
beginning r ts = beginning_by (is_next (k.Sign SEMICOLON) ts) (is_base (kind_of ts)) r ts

-- An expression in parentheses
abbrev pub test : ℕ → List Token → Outcome Expr
test r ts = do
  opened ← expect (k.Sign PARENTHESIS_OPEN) r ts
  x ← ruled Assign r opened.1
  closed ← expect (k.Sign PARENTHESIS_CLOSE) r x.1
  Ok (x.0, closed.1)

abbrev pub expression_at : Place → ℕ → List Token → Outcome Stmt
expression_at place r ts = do
  x ← ruled Assign r ts
  ended ← expect (k.Sign SEMICOLON) r x.1
  Ok (stmt.Expr x.0 place, ended.1)

abbrev pub declaration_at : Place → ℕ → List Token → Outcome Stmt
declaration_at place r ts = do
  found ← vars r ts
  Ok (stmt.Vars found.0 place, found.1)

abbrev pub marker_at : Place → ℕ → List Token → Outcome Stmt
marker_at place r ts = do
  found ← marker r ts
  Ok (stmt.Marker found.0 place, found.1)

abbrev pub expr_stmt : ℕ → List Token → Outcome Stmt
expr_stmt r ts = expression_at (place_of ts) r ts

abbrev pub vars_stmt : ℕ → List Token → Outcome Stmt
vars_stmt r ts = declaration_at (place_of ts) r ts

abbrev pub marker_stmt : ℕ → List Token → Outcome Stmt
marker_stmt r ts = marker_at (place_of ts) r ts

abbrev pub empty : ℕ → List Token → Outcome Stmt
empty r ts = do
  first ← take r ts
  Ok (stmt.Empty first.0.place, first.1)

abbrev pub return_stmt : ℕ → List Token → Outcome Stmt
return_stmt r ts = do
  first ← take r ts
  x ← optional (k.Sign SEMICOLON) r first.1
  Ok (stmt.Return x.0 first.0.place, x.1)

abbrev pub break_stmt : ℕ → List Token → Outcome Stmt
break_stmt r ts = do
  first ← take r ts
  ended ← expect (k.Sign SEMICOLON) r first.1
  Ok (stmt.Break first.0.place, ended.1)

abbrev pub continue_stmt : ℕ → List Token → Outcome Stmt
continue_stmt r ts = do
  first ← take r ts
  ended ← expect (k.Sign SEMICOLON) r first.1
  Ok (stmt.Continue first.0.place, ended.1)

-- Each form, by the reading of the statements in it
module _ (again : ℕ → List Token → Outcome Stmt) where
  abbrev pub else_part_by : Bool → Expr → Stmt → Place → ℕ → List Token → Outcome Stmt
  else_part_by true x s place r ts = do
    first ← take r ts
    t ← again r first.1
    Ok (stmt.If x s (stmt.Else t.0) place, t.1)
  else_part_by false x s place r ts = Ok (stmt.If x s stmt.NoElse place, ts)

  abbrev pub else_part : Expr → Stmt → Place → ℕ → List Token → Outcome Stmt
  else_part x s place r ts = else_part_by (is_next (word ELSE.now) ts) x s place r ts

  abbrev pub if_stmt : ℕ → List Token → Outcome Stmt
  if_stmt r ts = do
    first ← take r ts
    x ← test r first.1
    s ← again r x.1
    else_part x.0 s.0 first.0.place r s.1

  abbrev pub while_stmt : ℕ → List Token → Outcome Stmt
  while_stmt r ts = do
    first ← take r ts
    x ← test r first.1
    s ← again r x.1
    Ok (stmt.While x.0 s.0 first.0.place, s.1)

  abbrev pub do_stmt : ℕ → List Token → Outcome Stmt
  do_stmt r ts = do
    first ← take r ts
    s ← again r first.1
    again_word ← expect (word WHILE.now) r s.1
    x ← test r again_word.1
    ended ← expect (k.Sign SEMICOLON) r x.1
    Ok (stmt.Do s.0 x.0 first.0.place, ended.1)

  abbrev pub for_stmt : ℕ → List Token → Outcome Stmt
  for_stmt r ts = do
    first ← take r ts
    opened ← expect (k.Sign PARENTHESIS_OPEN) r first.1
    f ← beginning r opened.1
    x ← optional (k.Sign SEMICOLON) r f.1
    y ← optional (k.Sign PARENTHESIS_CLOSE) r x.1
    s ← again r y.1
    Ok (stmt.For f.0 x.0 y.0 s.0 first.0.place, s.1)

  abbrev pub part_by : Bool → ℕ → List Token → Outcome Stmt
  part_by true r ts = vars_stmt r ts
  part_by false r ts = again r ts

  abbrev pub part : ℕ → List Token → Outcome Stmt
  part r ts = part_by (is_base (kind_of ts)) r ts

  abbrev pub body_turn_by : Bool → ℕ → List Stmt → List Token → Outcome (List Stmt ⊎ List Stmt)
  body_turn_by = next_or_end part

  abbrev pub body_turn : ℕ → List Stmt → List Token → Outcome (List Stmt ⊎ List Stmt)
  body_turn r found ts = body_turn_by (is_next (k.Sign BRACE_CLOSE) ts) r found ts

  abbrev pub body : ℕ → List Token → Outcome (List Stmt)
  body r ts = turns (body_turn r) (length ts) [] ts

  abbrev pub block : ℕ → List Token → Outcome Stmt
  block r ts = do
    first ← take r ts
    found ← body r first.1
    Ok (stmt.Block (stmts_list found.0) first.0.place, found.1)

  abbrev pub opened_by : Option Opening → ℕ → List Token → Outcome Stmt
  opened_by (Some o.Empty) r ts = empty r ts
  opened_by (Some o.Block) r ts = block r ts
  opened_by (Some o.If) r ts = if_stmt r ts
  opened_by (Some o.While) r ts = while_stmt r ts
  opened_by (Some o.Do) r ts = do_stmt r ts
  opened_by (Some o.For) r ts = for_stmt r ts
  opened_by (Some o.Return) r ts = return_stmt r ts
  opened_by (Some o.Break) r ts = break_stmt r ts
  opened_by (Some o.Continue) r ts = continue_stmt r ts
  opened_by (Some o.Marker) r ts = marker_stmt r ts
  opened_by None r ts = expr_stmt r ts

  unfoldable pub opened : ℕ → List Token → Outcome Stmt
  opened r ts = opened_by (opening_of (kind_of ts)) r ts

-- The first number bounds how deep statements nest.
unfoldable pub statement : ℕ → ℕ → List Token → Outcome Stmt
statement zero r ts = Err (fault_at_statement ts)
statement (suc f) zero ts = Err (fault_at_statement ts)
statement (suc f) (suc r) ts = opened (statement f) r ts

-- a statement with as much depth as room
abbrev pub stated : ℕ → List Token → Outcome Stmt
stated r ts = statement r r ts
