-- A text that can be run is ready, where its names, numbers, declarations and markers fit.
use Rattle.std.proofs.Common.{◌≡◌, ℕ, ◌*◌, ◌^◌, ◌≤◌, List, [], ◌∷◌, ◌++◌, refl, arith, Option, Some, None}
use Rattle.std.specs.Prelude.{Bool, true, false, nat_lt, if◌then◌else◌, IfSome}
use Rattle.std.proofs.lemmas.Bool.{ltb-false}
use Rattle.c_tree.specs.Fun.{Param, Fun}
use Rattle.c_tree.specs.Item.{Item}
use Rattle.c_tree.specs.Item as item
use Rattle.c_tree.specs.Stmt.{Stmts}
use Rattle.c_tree.specs.Accepted.{result_shape}
use Rattle.c_tree.specs.Declarators.{parameter_shape}
use Rattle.c_layout.specs.Frames.{frame_of, framed, frames, rooms, end_from}
use Rattle.c_layout.specs.Frames.{Framed as Laid}
use Rattle.c_layout.specs.Laid.{first_too_large}
use Rattle.c_layout.specs.Slots.{body_slots}
use Rattle.c_semantics.specs.Names.{Names, Definition}
use Rattle.c_semantics.specs.Exec.{block_locals}
use Rattle.c_semantics.specs.Evaluated.{IsCallable, AreCallable, IsRunnable}
use Rattle.c_semantics.specs.Meaning.{definition, parameter_locals, with_parameter, with_parameters}
use Rattle.low_expr.specs.FittingNames.{NamesFit}
use Rattle.low_stmt.specs.FittingTexts.{ParametersFit, FunFits, FunsFit, TextFits}
use Rattle.low_stmt.specs.FunCode.{last_word, body_of}
use Rattle.low_stmt.specs.FunReadiness.{IsReadyFun}
use Rattle.low_stmt.specs.StmtReadiness.{AreWithin}
use Rattle.low_stmt.specs.TextCode.{names_in}
use Rattle.low_stmt.specs.TextReadiness.{AreReadyFuns, IsReadyText}
use Rattle.low_stmt.proofs.CallFrames.{frame_sized}
use Rattle.low_stmt.proofs.PassedArguments.{within_front}
use Rattle.low_stmt.proofs.PlacesOfGlobals.{globals_between, data_apart, globals_low}
use Rattle.low_stmt.proofs.FileNamesFit.{file_names_fit}
use Rattle.low_stmt.proofs.PlacesOfLocals.{all_within}
use Rattle.low_stmt.proofs.StatementsAreReady.{local_fits, stmts_ready}

module _ (defined : List ℕ → Option Definition) (room top : ℕ) (small : 4 * top ≤ 2 ^ 16) where
  -- the names after parameters
  parameters_fit : (names : Names) (places : List ℕ) (ps : List Param) → NamesFit defined names
      → AreWithin defined room top (parameter_locals places ps) → ParametersFit ps
      → NamesFit defined (with_parameters places ps names)
  parameters_fit names places [] fit w ps = fit
  parameters_fit names [] (p ∷ ps) fit w fits = parameters_fit names [] ps fit (none ps) fits.3
    where
      none : (ps : List Param) → AreWithin defined room top (parameter_locals [] ps)
      none [] = tt
      none (q ∷ qs) = tt
  parameters_fit names (place ∷ places) (p ∷ ps) fit w fits =
      parameters_fit (with_parameter (place ∷ places) (parameter_shape p) p.name names) places ps
      (one p.name) w.2 fits.3
    where
      one : (name : Option (List ℕ))
          → NamesFit defined (with_parameter (place ∷ places) (parameter_shape p) name names)
      one None = fit
      one (Some name) =
          local_fits defined names name (parameter_shape p) place fit (omega (arith, w.1)) fits.0 fits.1

pub frame_ends : (ps : List Param) (body : Stmts)
    → end_from (4 * body_slots body) (rooms ps body) ≤ 4 * last_word (frame_of ps body).size
frame_ends ps body = omega arith

module _ (text : List Item) where
  fun_ready : (f : Fun) (body : Stmts) → NamesFit (definition text) (names_in text)
      → (frame_of f.parameters body).size ≤ 2 ^ 16 → IsCallable text f body → FunFits (definition text) (names_in text) f body
      → IsReadyFun (definition text) (names_in text) f body
  fun_ready f body fit near can fits =
      let defined = definition text in
      let b = body_of (names_in text) f body in
      let room = b.frame.slots in
      let top = last_word b.frame.size in
      let z = frame_sized f.parameters body in
      let small : 4 * top ≤ 2 ^ 16 = omega (arith, z.last, near) in
      let all = all_within defined room top (4 * room) f.parameters body fits.parameters (omega arith) (frame_ends f.parameters body) in
      let ps = within_front defined room top (parameter_locals b.frame.places f.parameters) (block_locals b.own body) all.0 in
      record {
        few = fits.few;
        small = near;
        within = all.0;
        statements = stmts_ready defined room top small (result_shape f) b.names b.own body
            (parameters_fit defined room top small (names_in text) b.frame.places f.parameters fit ps
            fits.parameters)
            can.1 all.1 fits.statements (omega arith);
      }

  -- the frames of a function and of those after it aren't too large
  pub small_frames : (f : Fun) (body : Option Stmts) (rest : List Laid)
      → first_too_large (framed f body ++ rest) ≡ None
      → IfSome body (λ b. (frame_of f.parameters b).size ≤ 2 ^ 16) × (first_too_large rest ≡ None)
  small_frames f None rest e = (tt, e)
  small_frames f (Some body) rest e = decided (nat_lt (2 ^ 16) (frame_of f.parameters body).size) refl e
    where
      decided : (b : Bool) → nat_lt (2 ^ 16) (frame_of f.parameters body).size ≡ b
          → (if b then Some f.place else first_too_large rest) ≡ None
          → ((frame_of f.parameters body).size ≤ 2 ^ 16) × (first_too_large rest ≡ None)
      decided true h e = cc
      decided false h e = (ltb-false (2 ^ 16) (frame_of f.parameters body).size h, e)

  body_ready : (f : Fun) (body : Option Stmts) → NamesFit (definition text) (names_in text)
      → IfSome body (λ b. (frame_of f.parameters b).size ≤ 2 ^ 16)
      → IfSome body (IsCallable text f) → IfSome body (FunFits (definition text) (names_in text) f)
      → IfSome body (IsReadyFun (definition text) (names_in text) f)
  body_ready f None fit near can fits = tt
  body_ready f (Some body) fit near can fits = fun_ready f body fit near can fits

  funs_ready : (items : List Item) → NamesFit (definition text) (names_in text)
      → first_too_large (frames items) ≡ None
      → AreCallable text items → FunsFit text items → AreReadyFuns text items
  funs_ready [] fit small can fits = tt
  funs_ready (item.Vars keep ds ∷ rest) fit small can fits = funs_ready rest fit small can fits
  funs_ready (item.Fun f ∷ rest) fit small can fits =
      let h = small_frames f f.body (frames rest) small in
      (body_ready f f.body fit h.0 can.0 fits.0, funs_ready rest fit h.1 can.1 fits.1)

pub text_ready : (text : List Item) → IsRunnable text → TextFits text → IsReadyText text
text_ready text can fits = record {
  functions = funs_ready text text
      (file_names_fit text fits.functions (globals_low text fits.data_fits) fits.items) fits.frames_fit can.functions fits.functions;
  main = can.main;
  placed = globals_between text;
  apart = data_apart text fits.data_fits;
}
