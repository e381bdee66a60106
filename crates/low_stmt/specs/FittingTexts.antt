-- What holds of the numbers, the declarations and the markers of an accepted text that has a
-- layout, so that its statements, its functions and its program are ready.
use Rattle.std.specs.Prelude.{◌≡◌, ℕ, ◌≤◌, false, List, [], ◌∷◌, drop, length, Option, Some, None, IfSome}
use Rattle.c_tree.specs.Init.{Init}
use Rattle.c_tree.specs.Init as initial
use Rattle.c_tree.specs.Var.{Var}
use Rattle.c_tree.specs.First.{First}
use Rattle.c_tree.specs.First as for_first
use Rattle.c_tree.specs.Fun.{Param, Fun}
use Rattle.c_tree.specs.Item.{Item}
use Rattle.c_tree.specs.Item as item
use Rattle.c_tree.specs.Stmt.{Stmt, Stmts, ElseBranch}
use Rattle.c_tree.specs.Stmt as stmt
use Rattle.c_tree.specs.Accepted.{result_shape}
use Rattle.c_tree.specs.Declarators.{declared_shape, parameter_shape}
use Rattle.c_layout.specs.Frames.{beginning_locals, frames}
use Rattle.c_layout.specs.Laid.{is_data_too_large, first_too_large}
use Rattle.c_layout.specs.Sizes.{size}
use Rattle.c_semantics.specs.Names.{Names, Definition}
use Rattle.c_semantics.specs.Exec.{behind, named_behind, named_beginning}
use Rattle.c_semantics.specs.Meaning.{definition}
use Rattle.low_expr.specs.FittingNames.{SizeFits, ShapeFits, HasWords}
use Rattle.low_stmt.specs.FunCode.{last_word, body_of}
use Rattle.low_stmt.specs.StmtReadiness.{IsReadyMarker}
use Rattle.low_stmt.specs.TextCode.{names_in}

abbrev pub InitFits : Option Init → Type 0
InitFits None = Unit {0}
InitFits (Some (initial.One e)) = HasWords e
InitFits (Some (initial.Many es)) = Unit {0}

-- what is declared has a size that fits
abbrev pub VarsFit : List Var → Type 0
VarsFit [] = Unit {0}
VarsFit (d ∷ ds) =
    SizeFits (declared_shape d) × ShapeFits (declared_shape d) × InitFits d.init × VarsFit ds

abbrev pub FirstFits : First → Type 0
FirstFits for_first.Nothing = Unit {0}
FirstFits (for_first.Vars ds) = VarsFit ds
FirstFits (for_first.Expr e) = HasWords e

-- a parameter has at most a word
abbrev pub ParametersFit : List Param → Type 0
ParametersFit [] = Unit {0}
ParametersFit (p ∷ ps) =
    SizeFits (parameter_shape p) × ShapeFits (parameter_shape p) × (size (parameter_shape p) ≤ 4)
    × ParametersFit ps

-- in a frame with so many slots, whose word number `top` has the return address
module _ (defined : List ℕ → Option Definition) (room top : ℕ) where
  abbrev mutual
    pub StmtFits : Names → List ℕ → Stmt → Type 0
    StmtFits names places (stmt.Empty at) = Unit {0}
    StmtFits names places (stmt.Expr e at) = HasWords e
    StmtFits names places (stmt.Vars ds at) = VarsFit ds
    StmtFits names places (stmt.Block body at) = StmtsFit names places body
    StmtFits names places (stmt.Marker marker at) = IsReadyMarker defined room top names marker
    StmtFits names places (stmt.If c s other at) =
        HasWords c × StmtFits names places s × ElseFits names (behind s places) other
    StmtFits names places (stmt.While c s at) = HasWords c × StmtFits names places s
    StmtFits names places (stmt.Do s c at) = StmtFits names places s × HasWords c
    StmtFits names places (stmt.For f c d s at) =
        FirstFits f × IfSome c HasWords × IfSome d HasWords
        × StmtFits (named_beginning places f names)
        (drop (length (beginning_locals f)) places) s
    StmtFits names places (stmt.Return value at) = IfSome value HasWords
    StmtFits names places (stmt.Break at) = Unit {0}
    StmtFits names places (stmt.Continue at) = Unit {0}

    pub ElseFits : Names → List ℕ → ElseBranch → Type 0
    ElseFits names places stmt.NoElse = Unit {0}
    ElseFits names places (stmt.Else s) = StmtFits names places s

    pub StmtsFit : Names → List ℕ → Stmts → Type 0
    StmtsFit names places stmt.NoMore = Unit {0}
    StmtsFit names places (stmt.More s rest) =
        StmtFits names places s × StmtsFit (named_behind places s names) (behind s places) rest

pub record FunFits (defined : List ℕ → Option Definition) (names : Names) (f : Fun)
    (body : Stmts) : Type 0 where
  pub few : length f.parameters ≤ 8
  pub parameters : ParametersFit f.parameters
  pub statements : (let b = body_of names f body in
      StmtsFit defined b.frame.slots (last_word b.frame.size) b.names b.own body)

abbrev pub FunsFit : (text items : List Item) → Type 0
FunsFit text [] = Unit {0}
FunsFit text (item.Vars keep ds ∷ rest) = FunsFit text rest
FunsFit text (item.Fun f ∷ rest) =
    IfSome f.body (FunFits (definition text) (names_in text) f) × FunsFit text rest

abbrev pub GlobalsFit : List Var → Type 0
GlobalsFit [] = Unit {0}
GlobalsFit (d ∷ ds) =
    SizeFits (declared_shape d) × ShapeFits (declared_shape d) × GlobalsFit ds

abbrev pub ItemsFit : List Item → Type 0
ItemsFit [] = Unit {0}
ItemsFit (item.Vars keep ds ∷ rest) = GlobalsFit ds × ItemsFit rest
ItemsFit (item.Fun f ∷ rest) = ShapeFits (result_shape f) × ItemsFit rest

-- What the text declares fits, and what is in its functions, and it has a layout.
pub record TextFits (text : List Item) : Type 0 where
  pub items : ItemsFit text
  pub functions : FunsFit text text
  pub data_fits : is_data_too_large text ≡ false
  pub frames_fit : first_too_large (frames text) ≡ None
