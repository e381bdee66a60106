-- What a tree of the code is, form by form: equations that a walk over trees names in its `using(..)`.
use Rattle.std.specs.Prelude.{Box, option_map}
use Rattle.std.proofs.Common.{◌≡◌, ℕ, List, Vec, Global, Option, Some, None, ap, sym, ◌∙◌}
use Rattle.c_tree.specs.declared.ctype.CType.{CType}
use Rattle.c_tree.specs.declared.operator.Binary.{Binary}
use Rattle.c_tree.specs.declared.operator.Step.{Step}
use Rattle.c_tree.specs.declared.operator.Unary.{Unary}
use Rattle.c_tree.specs.declared.place.Place.{Place}
use Rattle.c_tree.specs.declared.tree.Callee.{Callee}
use Rattle.c_tree.specs.declared.tree.Expr.{Expr as ExprTree}
use Rattle.c_tree.specs.declared.tree.ExprKind.{ExprKind}
use Rattle.c_tree.specs.declared.tree.ExprKind.TheVariants as k
use Rattle.c_tree.specs.declared.tree.ExprKind.TheOpen as one
use Rattle.c_tree.specs.declared.tree.ExprKind.TheOpen.{ExprKind-F}
use Rattle.c_tree.specs.declared.tree.ExprKind.TheViews.{roll-ExprKind}
use Rattle.c_tree.specs.declared.tree.ExprKind.TheFolds.{fold-roll-ExprKind, fold_out-Expr, map-ExprKind}
use Rattle.c_tree.specs.declared.tree.First.{First}
use Rattle.c_tree.specs.declared.tree.Marker.{Marker}
use Rattle.c_tree.specs.declared.tree.Stmt.{Stmt as StmtTree}
use Rattle.c_tree.specs.declared.tree.StmtKind.{StmtKind}
use Rattle.c_tree.specs.declared.tree.StmtKind.TheVariants as s
use Rattle.c_tree.specs.declared.tree.StmtKind.TheOpen as level
use Rattle.c_tree.specs.declared.tree.StmtKind.TheOpen.{StmtKind-F}
use Rattle.c_tree.specs.declared.tree.StmtKind.TheViews.{roll-StmtKind}
use Rattle.c_tree.specs.declared.tree.StmtKind.TheFolds.{fold-roll-StmtKind, fold_out-Stmt, map-StmtKind}
use Rattle.c_tree.specs.declared.tree.Var.{Var}
use Rattle.std.specs.Prelude.{map}
use Rattle.c_tree.specs.Expr.{Expr}
use Rattle.c_tree.specs.Expr as expr
use Rattle.c_tree.specs.Stmt.{Stmt}
use Rattle.c_tree.specs.Stmt as stmt
use Rattle.c_tree.specs.View.{ty_of, expr_kind_of, expr_of, exprs_of, expr_step, var_of, first_of, stmt_kind_of, stmt_of, stmts_of, stmt_step, boxed_stmt_of, else_of}

pub expression_is : (e : ExprTree) → expr_of e ≡ expr_kind_of e.kind e.place
expression_is e = fold_out-Expr (Place → Expr) Expr expr_step (λ e. e.kind e.place) e

rolled : (x : ExprKind-F ExprKind ExprTree) (at : Place)
    → expr_kind_of (roll-ExprKind x) at
    ≡ expr_step (map-ExprKind ExprKind ExprTree (Place → Expr) Expr expr_kind_of expr_of x) at
rolled x at = ap (λ f. f at) (fold-roll-ExprKind (Place → Expr) Expr expr_step (λ e. e.kind e.place) x)

pub name_is : (name : List ℕ) (at : Place) → expr_kind_of (k.Name name) at ≡ expr.Name name at
name_is name at = ap (λ k. expr_kind_of k at) (sym (k.rolls-Name name)) ∙ rolled (one.Name name) at

pub number_is : (ty : CType) (value : ℕ) (at : Place)
    → expr_kind_of (k.Number ty value) at ≡ expr.Number (ty_of ty) value at
number_is ty value at = ap (λ k. expr_kind_of k at) (sym (k.rolls-Number ty value)) ∙ rolled (one.Number ty value) at

pub character_is : (code : ℕ) (at : Place)
    → expr_kind_of (k.Character code) at ≡ expr.Character code at
character_is code at = ap (λ k. expr_kind_of k at) (sym (k.rolls-Character code)) ∙ rolled (one.Character code) at

pub eof_is : (at : Place) → expr_kind_of k.Eof at ≡ expr.Eof at
eof_is at = ap (λ k. expr_kind_of k at) (sym k.rolls-Eof) ∙ rolled one.Eof at

pub unary_is : (op : Unary) (a : Box ExprTree Global) (at : Place)
    → expr_kind_of (k.Unary op a) at ≡ expr.Unary op (expr_of a.value) at
unary_is op a at = ap (λ k. expr_kind_of k at) (sym (k.rolls-Unary op a)) ∙ rolled (one.Unary op a) at

pub step_is : (how : Step) (a : Box ExprTree Global) (at : Place)
    → expr_kind_of (k.Step how a) at ≡ expr.Step how (expr_of a.value) at
step_is how a at = ap (λ k. expr_kind_of k at) (sym (k.rolls-Step how a)) ∙ rolled (one.Step how a) at

pub cast_is : (to : CType) (a : Box ExprTree Global) (at : Place)
    → expr_kind_of (k.Cast to a) at ≡ expr.Cast (ty_of to) (expr_of a.value) at
cast_is to a at = ap (λ k. expr_kind_of k at) (sym (k.rolls-Cast to a)) ∙ rolled (one.Cast to a) at

pub binary_is : (op : Binary) (a b : Box ExprTree Global) (at : Place)
    → expr_kind_of (k.Binary op a b) at ≡ expr.Binary op (expr_of a.value) (expr_of b.value) at
binary_is op a b at = ap (λ k. expr_kind_of k at) (sym (k.rolls-Binary op a b)) ∙ rolled (one.Binary op a b) at

pub conditional_is : (c a b : Box ExprTree Global) (at : Place)
    → expr_kind_of (k.Conditional c a b) at
    ≡ expr.Conditional (expr_of c.value) (expr_of a.value) (expr_of b.value) at
conditional_is c a b at = ap (λ k. expr_kind_of k at) (sym (k.rolls-Conditional c a b)) ∙ rolled (one.Conditional c a b) at

pub assign_is : (how : Option Binary) (a b : Box ExprTree Global) (at : Place)
    → expr_kind_of (k.Assign how a b) at ≡ expr.Assign how (expr_of a.value) (expr_of b.value) at
assign_is how a b at = ap (λ k. expr_kind_of k at) (sym (k.rolls-Assign how a b)) ∙ rolled (one.Assign how a b) at

pub index_is : (a b : Box ExprTree Global) (at : Place)
    → expr_kind_of (k.Index a b) at ≡ expr.Index (expr_of a.value) (expr_of b.value) at
index_is a b at = ap (λ k. expr_kind_of k at) (sym (k.rolls-Index a b)) ∙ rolled (one.Index a b) at

pub call_is : (callee : Callee) (args : Vec ExprTree Global) (at : Place)
    → expr_kind_of (k.Call callee args) at ≡ expr.Call callee (exprs_of args.items) at
call_is callee args at = ap (λ k. expr_kind_of k at) (sym (k.rolls-Call callee args)) ∙ rolled (one.Call callee args) at

pub statement_is : (s : StmtTree) → stmt_of s ≡ stmt_kind_of s.kind s.place
statement_is s = fold_out-Stmt (Place → Stmt) Stmt stmt_step (λ s. s.kind s.place) s

built : (x : StmtKind-F StmtKind StmtTree) (at : Place)
    → stmt_kind_of (roll-StmtKind x) at
    ≡ stmt_step (map-StmtKind StmtKind StmtTree (Place → Stmt) Stmt stmt_kind_of stmt_of x) at
built x at = ap (λ f. f at) (fold-roll-StmtKind (Place → Stmt) Stmt stmt_step (λ s. s.kind s.place) x)

pub empty_is : (at : Place) → stmt_kind_of s.Empty at ≡ stmt.Empty at
empty_is at = ap (λ k. stmt_kind_of k at) (sym s.rolls-Empty) ∙ built level.Empty at

pub expr_is : (e : ExprTree) (at : Place) → stmt_kind_of (s.Expr e) at ≡ stmt.Expr (expr_of e) at
expr_is e at = ap (λ k. stmt_kind_of k at) (sym (s.rolls-Expr e)) ∙ built (level.Expr e) at

pub vars_is : (vs : Vec Var Global) (at : Place)
    → stmt_kind_of (s.Vars vs) at ≡ stmt.Vars (map var_of vs.items) at
vars_is vs at = ap (λ k. stmt_kind_of k at) (sym (s.rolls-Vars vs)) ∙ built (level.Vars vs) at

pub block_is : (body : Vec StmtTree Global) (at : Place)
    → stmt_kind_of (s.Block body) at ≡ stmt.Block (stmts_of body.items) at
block_is body at = ap (λ k. stmt_kind_of k at) (sym (s.rolls-Block body)) ∙ built (level.Block body) at

pub marker_is : (m : Marker) (at : Place) → stmt_kind_of (s.Marker m) at ≡ stmt.Marker m at
marker_is m at = ap (λ k. stmt_kind_of k at) (sym (s.rolls-Marker m)) ∙ built (level.Marker m) at

pub while_is : (c : ExprTree) (body : Box StmtTree Global) (at : Place)
    → stmt_kind_of (s.While c body) at ≡ stmt.While (expr_of c) (boxed_stmt_of body) at
while_is c body at = ap (λ k. stmt_kind_of k at) (sym (s.rolls-While c body)) ∙ built (level.While c body) at

pub do_is : (body : Box StmtTree Global) (c : ExprTree) (at : Place)
    → stmt_kind_of (s.Do body c) at ≡ stmt.Do (boxed_stmt_of body) (expr_of c) at
do_is body c at = ap (λ k. stmt_kind_of k at) (sym (s.rolls-Do body c)) ∙ built (level.Do body c) at

pub for_is : (f : First) (c d : Option ExprTree) (body : Box StmtTree Global) (at : Place)
    → stmt_kind_of (s.For f c d body) at
    ≡ stmt.For (first_of f) (option_map expr_of c) (option_map expr_of d) (boxed_stmt_of body) at
for_is f c d body at = ap (λ k. stmt_kind_of k at) (sym (s.rolls-For f c d body)) ∙ built (level.For f c d body) at

pub return_is : (value : Option ExprTree) (at : Place)
    → stmt_kind_of (s.Return value) at ≡ stmt.Return (option_map expr_of value) at
return_is value at = ap (λ k. stmt_kind_of k at) (sym (s.rolls-Return value)) ∙ built (level.Return value) at

pub break_out_is : (at : Place) → stmt_kind_of s.Break at ≡ stmt.Break at
break_out_is at = ap (λ k. stmt_kind_of k at) (sym s.rolls-Break) ∙ built level.Break at

pub go_on_is : (at : Place) → stmt_kind_of s.Continue at ≡ stmt.Continue at
go_on_is at = ap (λ k. stmt_kind_of k at) (sym s.rolls-Continue) ∙ built level.Continue at

pub if_is : (c : ExprTree) (body : Box StmtTree Global) (other : Option (Box StmtTree Global))
    (at : Place) → stmt_kind_of (s.If c body other) at
    ≡ stmt.If (expr_of c) (boxed_stmt_of body) (else_of boxed_stmt_of other) at
if_is c body None at = ap (λ k. stmt_kind_of k at) (sym (s.rolls-If c body None)) ∙ built (level.If c body None) at
if_is c body (Some other) at = ap (λ k. stmt_kind_of k at) (sym (s.rolls-If c body (Some other))) ∙ built (level.If c body (Some other)) at

pub ruleset views = (expression_is, name_is, number_is, character_is, eof_is, unary_is, step_is, cast_is, binary_is, conditional_is, assign_is, index_is, call_is, statement_is, empty_is, expr_is, vars_is, block_is, marker_is, while_is, do_is, for_is, return_is, break_out_is, go_on_is, if_is)
