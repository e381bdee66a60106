-- How the parser reads declarations, as a function on lists. It is a device for proofs: what is read rightly is said by `Declarations`.
use Rattle.std.specs.Prelude.{ℕ, zero, suc, ◌-◌, List, [], ◌∷◌, ◌++◌, length, Bool, true, false, Option, Some, None, Ok, ◌⊎◌}
use mathlib.Core.Logic.{inl, inr}
use Rattle.c_tree.specs.declared.place.Place.{Place}
use Rattle.c_tree.specs.Ty.{Ty}
use Rattle.c_tree.specs.Expr.{Expr}
use Rattle.c_tree.specs.Init.{Init}
use Rattle.c_tree.specs.Init as initial
use Rattle.c_tree.specs.Var.{Var}
use Rattle.c_tree.specs.Fun.{Param}
use Rattle.c_tree.specs.View.{exprs_list}
use Rattle.c_token.specs.declared.token.Kind.{Kind}
use Rattle.c_token.specs.declared.token.Kind.TheVariants as k
use Rattle.c_token.specs.declared.token.Token.{Token}
use Rattle.c_expr.specs.private.ParserRules.{Assign, Cond}
use Rattle.c_expr.specs.Spelled.{same}
use Rattle.c_expr.specs.Next.{Outcome, ◌>>=◌, kind_of, place_of, refuse, take, expect, base}
use Rattle.c_expr.specs.private.ExpressionReading.{ruled, turns, after_element}
use Rattle.c_decl.specs.Declarations.{variable}
use Rattle.c_decl.specs.GrammarWords.{word}
use Rattle.c_expr.specs.declared.punctuator.TheConstants.{PARENTHESIS_CLOSE, BRACKET_OPEN, BRACKET_CLOSE, BRACE_OPEN, BRACE_CLOSE, COMMA, SEMICOLON, EQUALS, STAR}
use Rattle.c_decl.specs.declared.reserved.TheConstants.{VOID}

abbrev pub is_next : Kind → List Token → Bool
is_next kind ts = same (kind_of ts) kind

-- The sign that ends a list, or one more of it
abbrev pub next_or_end : {X : Type 0} → (ℕ → List Token → Outcome X) → Bool → ℕ → List X
    → List Token → Outcome (List X ⊎ List X)
next_or_end element true r found ts = do
  ended ← take r ts
  Ok (inr found, ended.1)
next_or_end element false r found ts = do
  x ← element r ts
  Ok (inl (found ++ x.0 ∷ []), x.1)

-- Stars: how many, and the room after them
abbrev pub star_step : (List Token → Outcome (ℕ × ℕ)) → Bool → ℕ → ℕ → List Token → Outcome (ℕ × ℕ)
star_step onward false r n ts = Ok ((n, r), ts)
star_step onward true r n ts = do
  mark ← take r ts
  onward mark.1

abbrev pub stars_from : ℕ → ℕ → List Token → Outcome (ℕ × ℕ)
stars_from zero n ts = star_step (λ us. Ok ((n, zero), us))
    (is_next (k.Sign STAR) ts) zero n ts
stars_from (suc r) n ts =
    star_step (stars_from r (suc n)) (is_next (k.Sign STAR) ts) (suc r) n ts

-- A name, and its place
abbrev pub name_by : Kind → ℕ → List Token → Outcome (List ℕ × Place)
name_by (k.Name n) r ts = do
  first ← take r ts
  Ok ((n, first.0.place), first.1)
name_by _ r ts = refuse ts

abbrev pub name : ℕ → List Token → Outcome (List ℕ × Place)
name r ts = name_by (kind_of ts) r ts

-- Sizes of arrays, and the room behind them
abbrev pub size_step : (List Expr → List Token → Outcome (List Expr × ℕ)) → Bool → ℕ → ℕ
    → List Expr → List Token → Outcome (List Expr × ℕ)
size_step onward false r inner found ts = Ok ((found, r), ts)
size_step onward true r inner found ts = do
  opened ← take r ts
  x ← ruled Cond inner opened.1
  closed ← expect (k.Sign BRACKET_CLOSE) inner x.1
  onward (found ++ x.0 ∷ []) closed.1

abbrev pub sizes_from : ℕ → List Expr → List Token → Outcome (List Expr × ℕ)
sizes_from zero found ts =
    size_step (λ xs us. Ok ((xs, zero), us)) (is_next (k.Sign BRACKET_OPEN) ts) zero zero found ts
sizes_from (suc r) found ts =
    size_step (sizes_from r) (is_next (k.Sign BRACKET_OPEN) ts) (suc r) r found ts

-- What follows a value of a list, and whether that ends the list
abbrev pub after_comma : Bool → ℕ → List Token → Outcome Bool
after_comma true r ts = do
  closed ← take r ts
  Ok (true, closed.1)
after_comma false r ts = Ok (false, ts)

abbrev pub value_end_by : Bool → ℕ → List Token → Outcome Bool
value_end_by true r ts = do
  comma ← take r ts
  after_comma (is_next (k.Sign BRACE_CLOSE) comma.1) r comma.1
value_end_by false r ts = do
  closed ← expect (k.Sign BRACE_CLOSE) r ts
  Ok (true, closed.1)

abbrev pub value_end : ℕ → List Token → Outcome Bool
value_end r ts = value_end_by (is_next (k.Sign COMMA) ts) r ts

abbrev pub listed : {X : Type 0} → Bool → X → X ⊎ X
listed true x = inr x
listed false x = inl x

abbrev pub value_turn : ℕ → List Expr → List Token → Outcome (List Expr ⊎ List Expr)
value_turn r found ts = do
  x ← ruled Assign r ts
  ended ← value_end r x.1
  Ok (listed ended.0 (found ++ x.0 ∷ []), ended.1)

abbrev pub values : ℕ → List Token → Outcome (List Expr)
values r ts = turns (value_turn r) (length ts) [] ts

abbrev pub init_by : Bool → ℕ → List Token → Outcome Init
init_by true r ts = do
  opened ← take r ts
  found ← values r opened.1
  Ok (initial.Many (exprs_list found.0), found.1)
init_by false r ts = do
  x ← ruled Assign r ts
  Ok (initial.One x.0, x.1)

abbrev pub init : ℕ → List Token → Outcome Init
init r ts = init_by (is_next (k.Sign BRACE_OPEN) ts) r ts

abbrev pub initialised_by : Bool → ℕ → List Token → Outcome (Option Init)
initialised_by true r ts = do
  equals ← take r ts
  i ← init r equals.1
  Ok (Some i.0, i.1)
initialised_by false r ts = Ok (None, ts)

abbrev pub initialised : ℕ → List Token → Outcome (Option Init)
initialised r ts = initialised_by (is_next (k.Sign EQUALS) ts) r ts

-- A declarator, behind its name and before it
abbrev pub behind_name : Ty → ℕ → List ℕ → Place → ℕ → List Token → Outcome Var
behind_name base stars name place r ts = do
  sizes ← sizes_from r [] ts
  i ← initialised sizes.0.1 sizes.1
  Ok (variable base stars name place sizes.0.0 i.0, i.1)

abbrev pub declarator : Ty → ℕ → List Token → Outcome Var
declarator base r ts = do
  stars ← stars_from r 0 ts
  n ← name stars.0.1 stars.1
  behind_name base stars.0.0 n.0.0 n.0.1 stars.0.1 n.1

-- Behind a declarator: one more, or the semicolon
abbrev pub declarator_turn_by : Bool → Ty → ℕ → List Var → List Token
    → Outcome (List Var ⊎ List Var)
declarator_turn_by true base r found ts = do
  comma ← take r ts
  d ← declarator base r comma.1
  Ok (inl (found ++ d.0 ∷ []), d.1)
declarator_turn_by false base r found ts = do
  ended ← expect (k.Sign SEMICOLON) r ts
  Ok (inr found, ended.1)

abbrev pub declarator_turn : Ty → ℕ → List Var → List Token → Outcome (List Var ⊎ List Var)
declarator_turn base r found ts = declarator_turn_by (is_next (k.Sign COMMA) ts) base r found ts

abbrev pub more_declarators : Ty → Var → ℕ → List Token → Outcome (List Var)
more_declarators base first r ts = turns (declarator_turn base r) (length ts) (first ∷ []) ts

abbrev pub vars : ℕ → List Token → Outcome (List Var)
vars r ts = do
  to ← base r ts
  first ← declarator to.0 r to.1
  more_declarators to.0 first.0 r first.1

-- Parameters
abbrev pub brackets_by : Bool → ℕ → List Token → Outcome Bool
brackets_by true r ts = do
  opened ← take r ts
  closed ← expect (k.Sign BRACKET_CLOSE) (r - 1) opened.1
  Ok (true, closed.1)
brackets_by false r ts = Ok (false, ts)

abbrev pub brackets : ℕ → List Token → Outcome Bool
brackets r ts = brackets_by (is_next (k.Sign BRACKET_OPEN) ts) r ts

abbrev pub own_name_by : Kind → Place → ℕ → List Token → Outcome (Option (List ℕ) × Place)
own_name_by (k.Name n) place r ts = do
  first ← take r ts
  Ok ((Some n, first.0.place), first.1)
own_name_by _ place r ts = Ok ((None, place), ts)

abbrev pub own_name : Place → ℕ → List Token → Outcome (Option (List ℕ) × Place)
own_name place r ts = own_name_by (kind_of ts) place r ts

abbrev pub behind_stars : Ty → ℕ → Place → ℕ → List Token → Outcome Param
behind_stars base stars first r ts = do
  n ← own_name first r ts
  array ← brackets r n.1
  Ok (record { base = base; stars = stars; name = n.0.0; place = n.0.1; array = array.0 }, array.1)

abbrev pub parameter : ℕ → List Token → Outcome Param
parameter r ts = do
  to ← base r ts
  stars ← stars_from r 0 to.1
  behind_stars to.0 stars.0.0 (place_of ts) stars.0.1 stars.1

abbrev pub parameter_turn : ℕ → List Param → List Token → Outcome (List Param ⊎ List Param)
parameter_turn r found ts = do
  x ← parameter r ts
  after_element (is_next (k.Sign COMMA) x.1) r (found ++ x.0 ∷ []) x.1

abbrev pub parameter_list : ℕ → List Token → Outcome (List Param)
parameter_list r ts = turns (parameter_turn r) (length ts) [] ts

abbrev pub parameters_by : Bool → Bool → ℕ → List Token → Outcome (List Param)
parameters_by true void r ts = do
  closed ← take r ts
  Ok ([], closed.1)
parameters_by false true r ts = do
  first ← take r ts
  closed ← expect (k.Sign PARENTHESIS_CLOSE) r first.1
  Ok ([], closed.1)
parameters_by false false r ts = parameter_list r ts

abbrev pub parameters : ℕ → List Token → Outcome (List Param)
parameters r ts = parameters_by (is_next (k.Sign PARENTHESIS_CLOSE) ts)
    (is_next (word VOID.now) ts) r ts
