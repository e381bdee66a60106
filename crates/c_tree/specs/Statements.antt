-- The rules that statements break (C11 6.8).
use Rattle.std.specs.Prelude.{Bool, true, false, not, ◌&&◌, List, [], ◌++◌, Option, Some, None, nat_lt}
use Rattle.c_tree.specs.declared.storage.Storage.TheVariants.{Automatic}
use Rattle.c_tree.specs.declared.usage.Use.TheVariants.{Value, Discarded}
use Rattle.c_tree.specs.declared.limits.TheConstants.{REGIONS, CHANNELS}
use Rattle.c_tree.specs.declared.breach.Breach.{Breach}
use Rattle.c_tree.specs.declared.breach.Broken.TheVariants.{Unknown, Mismatch, Marker as BadMarker}
use Rattle.c_tree.specs.declared.place.Place.{Place}
use Rattle.c_tree.specs.declared.tree.Count.{Count}
use Rattle.c_tree.specs.declared.tree.Count.TheVariants as count
use Rattle.c_tree.specs.declared.tree.Marker.{Marker}
use Rattle.c_tree.specs.declared.tree.Marker.TheVariants as marker
use Rattle.c_tree.specs.Ty.{Ty}
use Rattle.c_tree.specs.Ty as ty
use Rattle.c_tree.specs.Expr.{Expr}
use Rattle.c_tree.specs.First.{First}
use Rattle.c_tree.specs.First as for_first
use Rattle.c_tree.specs.Stmt.{Stmt, Stmts, ElseBranch}
use Rattle.c_tree.specs.Stmt as stmt
use Rattle.c_tree.specs.Scope.{Known, ObjectOf, FunctionOf, Scope, look, entered}
use Rattle.c_tree.specs.Breach.{breach, unless}
use Rattle.c_tree.specs.Shapes.{is_void, is_pointer, decayed}
use Rattle.c_tree.specs.Rules.{is_nought}
use Rattle.c_tree.specs.Typing.{type_at}
use Rattle.c_tree.specs.Breaches.{breaches, may_take, possible_test}
use Rattle.c_tree.specs.Declarators.{with_declarators, declarators_breaches}

-- the scope behind a statement
abbrev pub behind : Stmt → Scope → Scope
behind (stmt.Vars ds at) scope = with_declarators ds scope
behind s scope = scope

abbrev pub behind_beginning : First → Scope → Scope
behind_beginning (for_first.Vars ds) scope = with_declarators ds scope
behind_beginning f scope = scope

-- a condition, whose mismatch stands at its statement
abbrev pub test_breaches : Scope → Expr → Place → List Breach
test_breaches scope c at =
    breaches scope Value c ++ unless (possible_test (type_at scope c)) Mismatch at

abbrev pub optional_test_breaches : Scope → Option Expr → Place → List Breach
optional_test_breaches scope None at = []
optional_test_breaches scope (Some c) at = test_breaches scope c at

-- an expression whose value isn't used
abbrev pub unused_breaches : Scope → Option Expr → List Breach
unused_breaches scope None = []
unused_breaches scope (Some e) = breaches scope Discarded e

abbrev pub beginning_breaches : Scope → First → List Breach
beginning_breaches scope for_first.Nothing = []
beginning_breaches scope (for_first.Vars ds) = declarators_breaches Automatic scope ds
beginning_breaches scope (for_first.Expr e) = breaches scope Discarded e

-- a value is returned where the function has a result, and as an assignment to it (6.8.6.4)
abbrev pub return_breaches : Scope → Ty → Option Expr → Place → List Breach
return_breaches scope result None at = unless (is_void result) Mismatch at
return_breaches scope result (Some e) at =
    breaches scope Value e ++ unless
    (not (is_void result) && may_take result (is_nought e) (type_at scope e)) Mismatch at

-- a name in a marker: a variable of a type that the test allows
abbrev pub named_breaches : (Ty → Bool) → Option Known → Place → Place → List Breach
named_breaches fits None name_at at = breach Unknown name_at
named_breaches fits (Some (ObjectOf t)) name_at at = unless (fits t) BadMarker at
named_breaches fits (Some (FunctionOf t parameters defined)) name_at at = breach BadMarker at

-- what a post sends from: an array or a pointer
abbrev pub is_sent : Ty → Bool
is_sent t = is_pointer (decayed t)

abbrev pub is_int : Ty → Bool
is_int ty.Int = true
is_int _ = false

abbrev pub count_breaches : Scope → Count → Place → List Breach
count_breaches scope (count.Number n) at = []
count_breaches scope (count.Name name name_at) at =
    named_breaches is_int (look scope name) name_at at

-- Regions and channels have numbers below their limits.
abbrev pub marker_breaches : Scope → Marker → Place → List Breach
marker_breaches scope (marker.Begin k) at = unless (nat_lt k REGIONS) BadMarker at
marker_breaches scope (marker.End k) at = unless (nat_lt k REGIONS) BadMarker at
marker_breaches scope (marker.Wait channel) at = unless (nat_lt channel CHANNELS) BadMarker at
marker_breaches scope (marker.Post channel name name_at n) at =
    unless (nat_lt channel CHANNELS) BadMarker at
    ++ (named_breaches is_sent (look scope name) name_at at ++ count_breaches scope n at)

-- The statements of a function with a result; a flag says that a loop is round them. What is under an `if` or a loop is a block (6.8.4, 6.8.5).
module _ (result : Ty) where
  abbrev mutual
    pub statement_breaches : Bool → Stmt → Scope → List Breach
    statement_breaches loop (stmt.Empty at) scope = []
    statement_breaches loop (stmt.Expr e at) scope = breaches scope Discarded e
    statement_breaches loop (stmt.Vars ds at) scope = declarators_breaches Automatic scope ds
    statement_breaches loop (stmt.Block body at) scope = body_breaches loop body (entered scope)
    statement_breaches loop (stmt.Marker m at) scope = marker_breaches scope m at
    statement_breaches loop (stmt.If c s other at) scope =
        test_breaches scope c at
        ++ (statement_breaches loop s (entered scope) ++ else_breaches loop other scope)
    statement_breaches loop (stmt.While c s at) scope =
        test_breaches scope c at ++ statement_breaches true s (entered scope)
    statement_breaches loop (stmt.Do s c at) scope =
        statement_breaches true s (entered scope) ++ test_breaches scope c at
    statement_breaches loop (stmt.For f c d s at) scope =
        beginning_breaches (entered scope) f
        ++ (optional_test_breaches (behind_beginning f (entered scope)) c at
        ++ (unused_breaches (behind_beginning f (entered scope)) d
        ++ statement_breaches true s (entered (behind_beginning f (entered scope)))))
    statement_breaches loop (stmt.Return value at) scope = return_breaches scope result value at
    statement_breaches loop (stmt.Break at) scope = unless loop Mismatch at
    statement_breaches loop (stmt.Continue at) scope = unless loop Mismatch at

    pub else_breaches : Bool → ElseBranch → Scope → List Breach
    else_breaches loop stmt.NoElse scope = []
    else_breaches loop (stmt.Else s) scope = statement_breaches loop s (entered scope)

    pub body_breaches : Bool → Stmts → Scope → List Breach
    body_breaches loop stmt.NoMore scope = []
    body_breaches loop (stmt.More s rest) scope =
        statement_breaches loop s scope ++ body_breaches loop rest (behind s scope)
