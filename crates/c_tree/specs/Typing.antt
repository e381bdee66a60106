-- The type of an expression.
use Rattle.std.specs.Prelude.{Bool, true, false, ◌&&◌, List, [], ◌∷◌, Option, Some, None, is_some}
use Rattle.c_tree.specs.declared.operator.Unary.{Unary}
use Rattle.c_tree.specs.declared.operator.Unary.TheVariants as unary
use Rattle.c_tree.specs.declared.tree.Callee.{Callee}
use Rattle.c_tree.specs.declared.tree.Callee.TheVariants as callee
use Rattle.c_tree.specs.Ty.{Ty}
use Rattle.c_tree.specs.Ty as ty
use Rattle.c_tree.specs.Expr.{Expr, Exprs}
use Rattle.c_tree.specs.Expr as expr
use Rattle.c_tree.specs.Scope.{Known, ObjectOf, FunctionOf, Scope, look}
use Rattle.c_tree.specs.Shapes.{is_scalar, decayed}
use Rattle.c_tree.specs.Rules.{where_right, is_nought, is_place, binary_rule, conditional_rule, index_rule, assign_rule, unary_rule, step_rule, cast_rule, address_type}

-- A node with a part that has no type has none.

abbrev pub one : (Ty → Option Ty) → Option Ty → Option Ty
one rule None = None
one rule (Some t) = rule t

abbrev pub both : (Ty → Ty → Option Ty) → Option Ty → Option Ty → Option Ty
both rule (Some t) (Some u) = rule t u
both rule (Some t) None = None
both rule None u = None

abbrev pub unary_type : Unary → Bool → Option Ty → Option Ty
unary_type unary.Address place t = address_type place t
unary_type op place t = one (unary_rule op) t

-- a condition is an integer or a pointer
abbrev pub is_test : Option Ty → Bool
is_test None = false
is_test (Some c) = is_scalar (decayed c)

abbrev pub object : Option Known → Option Ty
object (Some (ObjectOf t)) = Some t
object _ = None

-- what a call names
abbrev pub called : Scope → Callee → Option Known
called scope (callee.Name name) = look scope name
called scope callee.Getchar = Some (FunctionOf ty.Int [] true)
called scope callee.Putchar = Some (FunctionOf ty.Int (ty.Int ∷ []) true)

-- the type of a call's value; a void function has none
abbrev pub result_of : Option Known → Option Ty
result_of (Some (FunctionOf ty.Void parameters defined)) = None
result_of (Some (FunctionOf t parameters defined)) = Some t
result_of _ = None

abbrev pub parameters_of : Option Known → List Ty
parameters_of (Some (FunctionOf t parameters defined)) = parameters
parameters_of _ = []

abbrev pub is_none_left : List Ty → Bool
is_none_left [] = true
is_none_left (to ∷ more) = false

abbrev pub others : List Ty → List Ty
others [] = []
others (to ∷ more) = more

-- an object of a type takes a value, as by an assignment: an argument, an initialiser, a value that is returned
abbrev pub is_taken : Ty → Bool → Option Ty → Bool
is_taken to nought t = is_some (both (assign_rule None nought) (Some to) t)

-- the first parameter takes an argument
abbrev pub takes_first : List Ty → Bool → Option Ty → Bool
takes_first [] nought t = false
takes_first (to ∷ more) nought t = is_taken to nought t

module _ (scope : Scope) where
  abbrev mutual
    -- the type of an expression whose value is used (C11 6.5)
    pub type_at : Expr → Option Ty
    type_at (expr.Name name at) = object (look scope name)
    type_at (expr.Number shape n at) = Some shape
    type_at (expr.Character code at) = Some ty.Int
    type_at (expr.Eof at) = Some ty.Int
    type_at (expr.Unary op a at) = unary_type op (is_place a) (type_at a)
    type_at (expr.Step how a at) = where_right (is_place a) (one step_rule (type_at a))
    type_at (expr.Cast to a at) = one (cast_rule to) (type_at a)
    type_at (expr.Binary op a b at) =
        both (binary_rule op (is_nought a) (is_nought b)) (type_at a) (type_at b)
    type_at (expr.Conditional c a b at) =
        where_right (is_test (type_at c))
        (both (conditional_rule (is_nought a) (is_nought b)) (type_at a) (type_at b))
    type_at (expr.Assign how a b at) =
        where_right (is_place a) (both (assign_rule how (is_nought b)) (type_at a) (type_at b))
    type_at (expr.Index a b at) = both index_rule (type_at a) (type_at b)
    type_at (expr.Call name all at) =
        where_right (all_taken (parameters_of (called scope name)) all)
        (result_of (called scope name))

    -- the parameters take the arguments, one each
    pub all_taken : List Ty → Exprs → Bool
    all_taken parameters expr.NoMore = is_none_left parameters
    all_taken parameters (expr.More a rest) =
        takes_first parameters (is_nought a) (type_at a) && all_taken (others parameters) rest
