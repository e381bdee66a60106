-- What a tree of the code is, without its pointers.
use Rattle.std.specs.Prelude.{List, [], ◌∷◌, Option, Some, None, map, option_map, Box}
use Rattle.std.proofs.Common.{Global}
use Rattle.c_tree.specs.declared.ctype.CType.{CType}
use Rattle.c_tree.specs.declared.ctype.CType.TheVariants.{Int, Unsigned, Char, Void, Pointer', Array'}
use Rattle.c_tree.specs.declared.place.Place.{Place}
use Rattle.c_tree.specs.declared.tree.Expr.{Expr as ExprTree}
use Rattle.c_tree.specs.declared.tree.ExprKind.{ExprKind}
use Rattle.c_tree.specs.declared.tree.ExprKind.TheOpen.{ExprKind-F}
use Rattle.c_tree.specs.declared.tree.ExprKind.TheOpen as one
use Rattle.c_tree.specs.declared.tree.ExprKind.TheFolds.{fold-Expr, fold-ExprKind}
use Rattle.c_tree.specs.declared.tree.First.{First as FirstTree}
use Rattle.c_tree.specs.declared.tree.First.TheVariants as code_first
use Rattle.c_tree.specs.declared.tree.Fun.{Fun as FunTree}
use Rattle.c_tree.specs.declared.tree.Init.{Init as InitTree}
use Rattle.c_tree.specs.declared.tree.Init.TheVariants.{One, Many}
use Rattle.c_tree.specs.declared.tree.Item.{Item as ItemTree}
use Rattle.c_tree.specs.declared.tree.Item.TheVariants as code_item
use Rattle.c_tree.specs.declared.tree.Param.{Param as ParamTree}
use Rattle.c_tree.specs.declared.tree.Stmt.{Stmt as StmtTree}
use Rattle.c_tree.specs.declared.tree.StmtKind.{StmtKind}
use Rattle.c_tree.specs.declared.tree.StmtKind.TheOpen.{StmtKind-F}
use Rattle.c_tree.specs.declared.tree.StmtKind.TheOpen as kind
use Rattle.c_tree.specs.declared.tree.StmtKind.TheFolds.{fold-Stmt, fold-StmtKind}
use Rattle.c_tree.specs.declared.tree.Tree.{Tree}
use Rattle.c_tree.specs.declared.tree.Var.{Var as VarTree}
use Rattle.c_tree.specs.Ty.{Ty}
use Rattle.c_tree.specs.Ty as ty
use Rattle.c_tree.specs.Expr.{Expr, Exprs}
use Rattle.c_tree.specs.Expr as expr
use Rattle.c_tree.specs.Init.{Init}
use Rattle.c_tree.specs.Init as initial
use Rattle.c_tree.specs.Var.{Var}
use Rattle.c_tree.specs.First.{First}
use Rattle.c_tree.specs.First as for_first
use Rattle.c_tree.specs.Stmt.{Stmt, Stmts, ElseBranch}
use Rattle.c_tree.specs.Stmt as stmt
use Rattle.c_tree.specs.Fun.{Param, Fun}
use Rattle.c_tree.specs.Item.{Item}
use Rattle.c_tree.specs.Item as item

abbrev pub ty_of : CType → Ty
ty_of Int = ty.Int
ty_of Unsigned = ty.Unsigned
ty_of Char = ty.Char
ty_of Void = ty.Void
ty_of (Pointer' p to) = ty.Pointer (ty_of to)
ty_of (Array' p of count) = ty.Array (ty_of of) count

-- expressions as the list that a pure tree holds
abbrev pub exprs_list : List Expr → Exprs
exprs_list [] = expr.NoMore
exprs_list (e ∷ es) = expr.More e (exprs_list es)

-- one level of an expression, with the pure tree of each operand in its place
abbrev pub expr_step : ExprKind-F (Place → Expr) Expr → Place → Expr
expr_step (one.Name name) at = expr.Name name at
expr_step (one.Number t value) at = expr.Number (ty_of t) value at
expr_step (one.Character code) at = expr.Character code at
expr_step one.Eof at = expr.Eof at
expr_step (one.Unary op a) at = expr.Unary op a.value at
expr_step (one.Step how a) at = expr.Step how a.value at
expr_step (one.Cast t a) at = expr.Cast (ty_of t) a.value at
expr_step (one.Binary op a b) at = expr.Binary op a.value b.value at
expr_step (one.Conditional c a b) at = expr.Conditional c.value a.value b.value at
expr_step (one.Assign how a b) at = expr.Assign how a.value b.value at
expr_step (one.Index a b) at = expr.Index a.value b.value at
expr_step (one.Call callee all) at = expr.Call callee (exprs_list all.items) at

abbrev pub expr_of : ExprTree → Expr
expr_of = fold-Expr (Place → Expr) Expr expr_step (λ e. e.kind e.place)

-- what a kind is at each place
abbrev pub expr_kind_of : ExprKind → Place → Expr
expr_kind_of = fold-ExprKind (Place → Expr) Expr expr_step (λ e. e.kind e.place)

abbrev pub exprs_of : List ExprTree → Exprs
exprs_of es = exprs_list (map expr_of es)

abbrev pub init_of : InitTree → Init
init_of (One e) = initial.One (expr_of e)
init_of (Many es) = initial.Many (exprs_of es.items)

abbrev pub var_of : VarTree → Var
var_of v = record {
  base = ty_of v.base;
  stars = v.stars;
  name = v.name;
  place = v.place;
  sizes = exprs_of v.sizes.items;
  init = option_map init_of v.init;
}

abbrev pub first_of : FirstTree → First
first_of code_first.Nothing = for_first.Nothing
first_of (code_first.Vars vs) = for_first.Vars (map var_of vs.items)
first_of (code_first.Expr e) = for_first.Expr (expr_of e)

-- statements as the list that a pure tree holds
abbrev pub stmts_list : List Stmt → Stmts
stmts_list [] = stmt.NoMore
stmts_list (s ∷ ss) = stmt.More s (stmts_list ss)

-- the branch of an `if` that may be left out, where `part` says what a statement is
abbrev pub else_of : {A : Type 0} → (A → Stmt) → Option A → ElseBranch
else_of part None = stmt.NoElse
else_of part (Some other) = stmt.Else (part other)

-- one level of a statement, with the pure tree of each part in its place
abbrev pub stmt_step : StmtKind-F (Place → Stmt) Stmt → Place → Stmt
stmt_step kind.Empty at = stmt.Empty at
stmt_step (kind.Expr e) at = stmt.Expr (expr_of e) at
stmt_step (kind.Vars vs) at = stmt.Vars (map var_of vs.items) at
stmt_step (kind.Block body) at = stmt.Block (stmts_list body.items) at
stmt_step (kind.Marker m) at = stmt.Marker m at
stmt_step (kind.If c s other) at = stmt.If (expr_of c) s.value (else_of (λ o. o.value) other) at
stmt_step (kind.While c s) at = stmt.While (expr_of c) s.value at
stmt_step (kind.Do s c) at = stmt.Do s.value (expr_of c) at
stmt_step (kind.For f c d s) at =
    stmt.For (first_of f) (option_map expr_of c) (option_map expr_of d) s.value at
stmt_step (kind.Return value) at = stmt.Return (option_map expr_of value) at
stmt_step kind.Break at = stmt.Break at
stmt_step kind.Continue at = stmt.Continue at

abbrev pub stmt_of : StmtTree → Stmt
stmt_of = fold-Stmt (Place → Stmt) Stmt stmt_step (λ s. s.kind s.place)

-- what a kind is at each place
abbrev pub stmt_kind_of : StmtKind → Place → Stmt
stmt_kind_of = fold-StmtKind (Place → Stmt) Stmt stmt_step (λ s. s.kind s.place)

abbrev pub boxed_stmt_of : Box StmtTree Global → Stmt
boxed_stmt_of s = stmt_of s.value

abbrev pub stmts_of : List StmtTree → Stmts
stmts_of ss = stmts_list (map stmt_of ss)

abbrev pub param_of : ParamTree → Param
param_of p = record {
  base = ty_of p.base;
  stars = p.stars;
  name = p.name;
  place = p.place;
  array = p.array;
}

abbrev pub fun_of : FunTree → Fun
fun_of f = record {
  base = ty_of f.base;
  stars = f.stars;
  name = f.name;
  place = f.place;
  parameters = map param_of f.params.items;
  body = option_map (λ body. stmts_of body.items) f.body;
}

abbrev pub item_of : ItemTree → Item
item_of (code_item.Vars keep vs) = item.Vars keep (map var_of vs.items)
item_of (code_item.Fun f) = item.Fun (fun_of f)

-- a whole text
abbrev pub items_of : Tree → List Item
items_of tree = map item_of tree.items.items
