-- What an accepted text evaluates. Its meaning takes types, places, variables and definitions for
-- granted: each has to be there, so that no value that stands in for what is missing is ever used.
use Rattle.std.specs.Prelude.{◌≡◌, ◌≢◌, ℕ, suc, true, false, List, [], ◌∷◌, drop, length, Option, Some, None, IsSome, IfSome}
use Rattle.c_tree.specs.declared.operator.Unary.{Unary}
use Rattle.c_tree.specs.declared.operator.Unary.TheVariants as unary
use Rattle.c_tree.specs.declared.tree.Callee.{Callee}
use Rattle.c_tree.specs.declared.tree.Callee.TheVariants as callee
use Rattle.c_tree.specs.Ty.{Ty}
use Rattle.c_tree.specs.Ty as ty
use Rattle.c_tree.specs.Expr.{Expr, Exprs}
use Rattle.c_tree.specs.Expr as expr
use Rattle.c_tree.specs.Init.{Init}
use Rattle.c_tree.specs.Init as initial
use Rattle.c_tree.specs.Var.{Var}
use Rattle.c_tree.specs.First.{First}
use Rattle.c_tree.specs.First as for_first
use Rattle.c_tree.specs.Stmt.{Stmt, Stmts, ElseBranch}
use Rattle.c_tree.specs.Stmt as stmt
use Rattle.c_tree.specs.Fun.{Param, Fun}
use Rattle.c_tree.specs.Item.{Item}
use Rattle.c_tree.specs.Item as item
use Rattle.c_tree.specs.Accepted.{result_shape}
use Rattle.c_tree.specs.Constant.{value_of}
use Rattle.c_tree.specs.Shapes.{is_void}
use Rattle.c_tree.specs.Typing.{type_at}
use Rattle.c_layout.specs.Frames.{frame_of, beginning_locals}
use Rattle.c_layout.specs.Globals.{globals, addresses}
use Rattle.c_semantics.specs.declared.home.Home.TheVariants.{Nowhere}
use Rattle.c_semantics.specs.Names.{Names, Definition, types, no_names, home_of, definition_of}
use Rattle.c_semantics.specs.Exec.{behind, with_local, named_behind, named_beginning}
use Rattle.c_semantics.specs.Meaning.{global_declarators, definition, names_of, with_parameters, main_name}

-- a function that is defined, with so many parameters
abbrev pub IsDefinedTaking : ℕ → Option Definition → Type 0
IsDefinedTaking n None = ⊥
IsDefinedTaking n (Some d) = length d.function.parameters ≡ n

abbrev pub count_of_arguments : Exprs → ℕ
count_of_arguments expr.NoMore = 0
count_of_arguments (expr.More e rest) = suc (count_of_arguments rest)

-- the operand of `&` is addressed, and each other one is evaluated
abbrev pub IsOperand : Unary → Type 0 → Type 0 → Type 0
IsOperand unary.Address value place = place
IsOperand op value place = value

module _ (names : Names) where
  abbrev pub IsTyped : Expr → Type 0
  IsTyped e = IsSome (type_at (types names) e)

  -- the name stands for a variable, which is somewhere
  abbrev pub IsSomewhere : List ℕ → Type 0
  IsSomewhere name = home_of (names name) ≢ Nowhere

  -- what a call names takes as many arguments as there are
  abbrev pub Takes : Callee → Exprs → Type 0
  Takes (callee.Name name) all =
      IsDefinedTaking (count_of_arguments all) (definition_of (names name))
  Takes callee.Getchar all = count_of_arguments all ≡ 0
  Takes callee.Putchar all = count_of_arguments all ≡ 1

  abbrev mutual
    -- an expression whose value is used
    pub IsEvaluable : Expr → Type 0
    IsEvaluable (expr.Name name at) = IsTyped (expr.Name name at) × IsSomewhere name
    IsEvaluable (expr.Number shape n at) = Unit {0}
    IsEvaluable (expr.Character code at) = Unit {0}
    IsEvaluable (expr.Eof at) = Unit {0}
    IsEvaluable (expr.Unary op a at) =
        IsTyped (expr.Unary op a at) × IsOperand op (IsEvaluable a) (IsAddressable a)
    IsEvaluable (expr.Step how a at) = IsTyped (expr.Step how a at) × IsAddressable a
    IsEvaluable (expr.Cast to a at) = IsTyped (expr.Cast to a at) × IsEvaluable a
    IsEvaluable (expr.Binary op a b at) =
        IsTyped (expr.Binary op a b at) × IsEvaluable a × IsEvaluable b
    IsEvaluable (expr.Conditional c a b at) =
        IsTyped (expr.Conditional c a b at) × IsEvaluable c × IsEvaluable a × IsEvaluable b
    IsEvaluable (expr.Assign how a b at) =
        IsTyped (expr.Assign how a b at) × IsAddressable a × IsEvaluable b
    IsEvaluable (expr.Index a b at) = IsTyped (expr.Index a b at) × IsEvaluable a × IsEvaluable b
    IsEvaluable (expr.Call callee all at) =
        IsTyped (expr.Call callee all at) × AreEvaluable all × Takes callee all

    -- a place, which alone has an address: a name, `*a` or `a[b]`
    pub IsAddressable : Expr → Type 0
    IsAddressable (expr.Name name at) = IsTyped (expr.Name name at) × IsSomewhere name
    IsAddressable (expr.Unary unary.At a at) = IsTyped (expr.Unary unary.At a at) × IsEvaluable a
    IsAddressable (expr.Index a b at) = IsTyped (expr.Index a b at) × IsEvaluable a × IsEvaluable b
    IsAddressable e = ⊥

    pub AreEvaluable : Exprs → Type 0
    AreEvaluable expr.NoMore = Unit {0}
    AreEvaluable (expr.More e rest) = IsEvaluable e × AreEvaluable rest

  -- an expression whose value isn't used: a call needs no type
  abbrev pub IsEvaluableUnused : Expr → Type 0
  IsEvaluableUnused (expr.Call callee all at) = AreEvaluable all × Takes callee all
  IsEvaluableUnused e = IsEvaluable e

  -- a value is returned exactly where the function has a result
  abbrev pub IsReturnable : Ty → Option Expr → Type 0
  IsReturnable result None = is_void result ≡ true
  IsReturnable result (Some e) = (is_void result ≡ false) × IsEvaluable e

  -- a local is initialised with one value
  abbrev pub IsInitialisable : Init → Type 0
  IsInitialisable (initial.One e) = IsEvaluable e
  IsInitialisable (initial.Many es) = ⊥

-- each constant has a value
abbrev pub HaveValues : Exprs → Type 0
HaveValues expr.NoMore = Unit {0}
HaveValues (expr.More e rest) = IsSome (value_of e) × HaveValues rest

-- Places are those of the locals that are still to be declared: the next one has a place.
abbrev pub HasPlace : List ℕ → Type 0
HasPlace [] = ⊥
HasPlace (place ∷ places) = Unit {0}

abbrev pub AreDeclarable : Names → List ℕ → List Var → Type 0
AreDeclarable names places [] = Unit {0}
AreDeclarable names places (d ∷ ds) =
    let inner = with_local places d names in
    HaveValues d.sizes × HasPlace places × IfSome d.init (IsInitialisable inner)
    × AreDeclarable inner (drop 1 places) ds

abbrev pub IsBeginnable : Names → List ℕ → First → Type 0
IsBeginnable names places for_first.Nothing = Unit {0}
IsBeginnable names places (for_first.Vars ds) = AreDeclarable names places ds
IsBeginnable names places (for_first.Expr e) = IsEvaluableUnused names e

-- the statements of a function with a result
module _ (result : Ty) where
  abbrev mutual
    pub IsExecutable : Names → List ℕ → Stmt → Type 0
    IsExecutable names places (stmt.Empty at) = Unit {0}
    IsExecutable names places (stmt.Expr e at) = IsEvaluableUnused names e
    IsExecutable names places (stmt.Vars ds at) = AreDeclarable names places ds
    IsExecutable names places (stmt.Block body at) = AreExecutable names places body
    IsExecutable names places (stmt.Marker marker at) = Unit {0}
    IsExecutable names places (stmt.If c s other at) =
        IsEvaluable names c × IsExecutable names places s
        × IsExecutableElse names (behind s places) other
    IsExecutable names places (stmt.While c s at) =
        IsEvaluable names c × IsExecutable names places s
    IsExecutable names places (stmt.Do s c at) = IsExecutable names places s × IsEvaluable names c
    IsExecutable names places (stmt.For f c d s at) =
        let inner = named_beginning places f names in
        IsBeginnable names places f × IfSome c (IsEvaluable inner)
        × IfSome d (IsEvaluableUnused inner)
        × IsExecutable inner (drop (length (beginning_locals f)) places) s
    IsExecutable names places (stmt.Return value at) = IsReturnable names result value
    IsExecutable names places (stmt.Break at) = Unit {0}
    IsExecutable names places (stmt.Continue at) = Unit {0}

    pub IsExecutableElse : Names → List ℕ → ElseBranch → Type 0
    IsExecutableElse names places stmt.NoElse = Unit {0}
    IsExecutableElse names places (stmt.Else s) = IsExecutable names places s

    pub AreExecutable : Names → List ℕ → Stmts → Type 0
    AreExecutable names places stmt.NoMore = Unit {0}
    AreExecutable names places (stmt.More s rest) =
        IsExecutable names places s
        × AreExecutable (named_behind places s names) (behind s places) rest

-- each parameter has a name and a place
abbrev pub ArePassable : List ℕ → List Param → Type 0
ArePassable places [] = Unit {0}
ArePassable places (p ∷ ps) = HasPlace places × IsSome p.name × ArePassable (drop 1 places) ps

module _ (text : List Item) where
  -- the body of a function, under the names of the text and of its parameters
  abbrev pub IsCallable : Fun → Stmts → Type 0
  IsCallable f body =
      let places = (frame_of f.parameters body).places in
      let names = names_of text (addresses (globals text)) text no_names in
      ArePassable places f.parameters
      × AreExecutable (result_shape f) (with_parameters places f.parameters names)
      (drop (length f.parameters) places) body

  abbrev pub AreCallable : List Item → Type 0
  AreCallable [] = Unit {0}
  AreCallable (item.Vars keep ds ∷ rest) = AreCallable rest
  AreCallable (item.Fun f ∷ rest) = IfSome f.body (IsCallable f) × AreCallable rest

-- a global is initialised with constants
abbrev pub IsConstant : Init → Type 0
IsConstant (initial.One e) = IsSome (value_of e)
IsConstant (initial.Many es) = HaveValues es

abbrev pub AreConstant : List Var → Type 0
AreConstant [] = Unit {0}
AreConstant (d ∷ ds) = HaveValues d.sizes × IfSome d.init IsConstant × AreConstant ds

-- `main` is defined with result int and without parameters
abbrev pub IsMain : Option Definition → Type 0
IsMain None = ⊥
IsMain (Some d) = (result_shape d.function ≡ ty.Int) × (d.function.parameters ≡ [])

-- Each global has an address and its constants have values, each function that has a body can be
-- called, and there is a `main`.
pub record IsRunnable (text : List Item) : Type 0 where
  pub enough_addresses : length (addresses (globals text)) ≡ length (global_declarators text)
  pub constants : AreConstant (global_declarators text)
  pub functions : AreCallable text text
  pub main : IsMain (definition text main_name)
