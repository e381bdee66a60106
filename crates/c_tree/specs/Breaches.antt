-- The breaches of an expression, in its order.
use Rattle.std.specs.Prelude.{Bool, true, false, not, ◌&&◌, ◌||◌, List, [], ◌∷◌, ◌++◌, Option, Some, None, is_some, if◌then◌else◌}
use Rattle.c_tree.specs.declared.usage.Use.{Use}
use Rattle.c_tree.specs.declared.usage.Use.TheVariants.{Value, Discarded}
use Rattle.c_tree.specs.declared.breach.Breach.{Breach}
use Rattle.c_tree.specs.declared.breach.Broken.TheVariants.{Unknown, Mismatch, NotAPlace, Arguments}
use Rattle.c_tree.specs.declared.operator.Unary.{Unary}
use Rattle.c_tree.specs.declared.operator.Unary.TheVariants as unary
use Rattle.c_tree.specs.declared.place.Place.{Place}
use Rattle.c_tree.specs.Ty.{Ty}
use Rattle.c_tree.specs.Ty as ty
use Rattle.c_tree.specs.Expr.{Expr, Exprs}
use Rattle.c_tree.specs.Expr as expr
use Rattle.c_tree.specs.Scope.{Known, ObjectOf, FunctionOf, Scope, look}
use Rattle.c_tree.specs.Breach.{breach, unless}
use Rattle.c_tree.specs.Shapes.{is_scalar, is_void, decayed}
use Rattle.c_tree.specs.Rules.{is_nought, is_place, binary_rule, conditional_rule, index_rule, assign_rule, unary_rule, step_rule, cast_rule}
use Rattle.c_tree.specs.Typing.{type_at, called, parameters_of, is_none_left, others}

-- A node breaks a rule where no types for its parts that have none would make it right.
-- Of all types it is enough to try int, a pointer to int, and the type of the other part or of the object that takes the value.

abbrev pub possible_one : (Ty → Option Ty) → Option Ty → Bool
possible_one rule (Some t) = is_some (rule t)
possible_one rule None = is_some (rule ty.Int) || is_some (rule (ty.Pointer ty.Int))

abbrev pub possible_right : (Ty → Ty → Option Ty) → Ty → Bool
possible_right rule t = is_some (rule t ty.Int) || is_some (rule t (ty.Pointer ty.Int))
    || is_some (rule t (decayed t))

abbrev pub possible_left : (Ty → Ty → Option Ty) → Ty → Bool
possible_left rule u = is_some (rule ty.Int u) || is_some (rule (ty.Pointer ty.Int) u)
    || is_some (rule (decayed u) u)

abbrev pub possible_both : (Ty → Ty → Option Ty) → Option Ty → Option Ty → Bool
possible_both rule (Some t) (Some u) = is_some (rule t u)
possible_both rule (Some t) None = possible_right rule t
possible_both rule None (Some u) = possible_left rule u
possible_both rule None None = possible_right rule ty.Int || possible_right rule (ty.Pointer ty.Int)

-- an object of a type takes a value, or would take it with some type where the value has none
abbrev pub may_take : Ty → Bool → Option Ty → Bool
may_take to nought t = possible_both (assign_rule None nought) (Some to) t

abbrev pub possible_test : Option Ty → Bool
possible_test None = true
possible_test (Some c) = is_scalar (decayed c)

-- no first parameter refuses an argument
abbrev pub may_take_first : List Ty → Bool → Option Ty → Bool
may_take_first [] nought t = true
may_take_first (to ∷ more) nought t = may_take to nought t

-- a name stands for an object (C11 6.5.1)
abbrev pub name_breaches : Option Known → Place → List Breach
name_breaches None at = breach Unknown at
name_breaches (Some (FunctionOf t parameters defined)) at = breach Mismatch at
name_breaches (Some (ObjectOf t)) at = []

abbrev pub place_breaches : Bool → Bool → Place → List Breach
place_breaches place possible at =
    if place then unless possible Mismatch at else breach NotAPlace at

abbrev pub unary_breaches : Unary → Bool → Option Ty → Place → List Breach
unary_breaches unary.Address place t at = unless place NotAPlace at
unary_breaches op place t at = unless (possible_one (unary_rule op) t) Mismatch at

-- a void value that is used is a mismatch whatever else is wrong, and a wrong count excludes a mismatch of an argument (6.5.2.2)
abbrev pub passing_breaches : Bool → Bool → Bool → Place → List Breach
passing_breaches void_used counts fits at =
    if void_used then breach Mismatch at
    else if counts then unless fits Mismatch at
    else breach Arguments at

abbrev pub is_used : Use → Bool
is_used Value = true
is_used Discarded = false

-- a function that is called and never defined is unknown
abbrev pub call_breaches : Use → Option Known → Bool → Bool → Place → List Breach
call_breaches used None counts fits at = breach Unknown at
call_breaches used (Some (ObjectOf t)) counts fits at = breach Mismatch at
call_breaches used (Some (FunctionOf t parameters defined)) counts fits at =
    unless defined Unknown at ++ passing_breaches (is_void t && is_used used) counts fits at

-- one argument for each parameter
abbrev pub same_count : List Ty → Exprs → Bool
same_count parameters expr.NoMore = is_none_left parameters
same_count parameters (expr.More a rest) =
    not (is_none_left parameters) && same_count (others parameters) rest

module _ (scope : Scope) where
  -- no parameter refuses its argument
  abbrev pub all_possible : List Ty → Exprs → Bool
  all_possible parameters expr.NoMore = true
  all_possible parameters (expr.More a rest) =
      may_take_first parameters (is_nought a) (type_at scope a)
      && all_possible (others parameters) rest

  abbrev mutual
    -- the breaches of an expression and of its parts; whether its value is used matters at a call alone
    pub breaches : Use → Expr → List Breach
    breaches used (expr.Name name at) = name_breaches (look scope name) at
    breaches used (expr.Number shape n at) = []
    breaches used (expr.Character code at) = []
    breaches used (expr.Eof at) = []
    breaches used (expr.Unary op a at) =
        breaches Value a ++ unary_breaches op (is_place a) (type_at scope a) at
    breaches used (expr.Step how a at) =
        breaches Value a ++ place_breaches (is_place a) (possible_one step_rule (type_at scope a)) at
    breaches used (expr.Cast to a at) =
        breaches Value a ++ unless (possible_one (cast_rule to) (type_at scope a)) Mismatch at
    breaches used (expr.Binary op a b at) =
        breaches Value a ++ (breaches Value b
        ++ unless (possible_both (binary_rule op (is_nought a) (is_nought b)) (type_at scope a)
        (type_at scope b)) Mismatch at)
    breaches used (expr.Conditional c a b at) =
        breaches Value c ++ (breaches Value a
        ++ (breaches Value b ++ unless
        (possible_test (type_at scope c)
        && possible_both (conditional_rule (is_nought a) (is_nought b)) (type_at scope a)
        (type_at scope b)) Mismatch at))
    breaches used (expr.Assign how a b at) =
        breaches Value a ++ (breaches Value b
        ++ place_breaches (is_place a)
        (possible_both (assign_rule how (is_nought b)) (type_at scope a) (type_at scope b)) at)
    breaches used (expr.Index a b at) =
        breaches Value a ++ (breaches Value b
        ++ unless (possible_both index_rule (type_at scope a) (type_at scope b)) Mismatch at)
    breaches used (expr.Call name all at) =
        breaches_in all ++ call_breaches used (called scope name)
        (same_count (parameters_of (called scope name)) all)
        (all_possible (parameters_of (called scope name)) all) at

    pub breaches_in : Exprs → List Breach
    breaches_in expr.NoMore = []
    breaches_in (expr.More a rest) = breaches Value a ++ breaches_in rest
