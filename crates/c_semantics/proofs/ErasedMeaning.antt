-- A text without its markers means what the text means.
use Rattle.std.proofs.Common.{◌≡◌, ℕ, zero, suc, List, [], ◌∷◌, ◌++◌, drop, length, Bool, true, false, Option, Some, None, refl, ap, ap₂, ◌∙◌}
use Rattle.std.specs.Prelude.{option_map, bytes_eq, replicate}
use Rattle.bop_bits.specs.declared.map.TheConstants.{STACK_TO, MEMORY_BYTES}
use Rattle.c_tree.specs.Stmt.{Stmts}
use Rattle.c_tree.specs.Fun.{Fun}
use Rattle.c_tree.specs.Item.{Item}
use Rattle.c_tree.specs.Item as item
use Rattle.c_tree.specs.Accepted.{result_shape, parameter_shapes}
use Rattle.c_tree.specs.Erase.{erased_all, erased_text}
use Rattle.c_layout.specs.Frames.{Planned, frame_of}
use Rattle.c_layout.specs.Globals.{Global, globals, addresses}
use Rattle.c_layout.proofs.ErasedLayout.{same_globals, same_frame}
use Rattle.c_semantics.specs.Run.{Run, ◌>>◌, count}
use Rattle.c_semantics.specs.Names.{Definition, Names, Routine, no_names, with_name}
use Rattle.c_semantics.specs.Eval.{Calls, enter}
use Rattle.c_semantics.specs.Exec.{with_locals, exec_all}
use Rattle.c_semantics.specs.Meaning.{with_globals, with_function, names_of, global_declarators, global_objects, with_first_bytes, start, defined_by, definition, parameter_locals, with_parameters, pass, main_name, names, body_run, in_frame, whole_run, calls_at, ended, meant}
use Rattle.c_semantics.proofs.ErasedNames.{erased_function, erased_definition, erased_names, erased_with, erased_globals, erased_parameters}
use Rattle.c_semantics.proofs.ErasedEval.{same_enter}
use Rattle.c_semantics.proofs.ErasedExec.{same_block, same_exec_all}

same_declarators : (ps : List Item) → global_declarators (erased_text ps) ≡ global_declarators ps
same_declarators [] = refl
same_declarators (item.Vars keep ds ∷ rest) = ap (λ those. ds ++ those) (same_declarators rest)
same_declarators (item.Fun f ∷ rest) = same_declarators rest

same_start : (text : List Item) → start (erased_text text) ≡ start text
same_start text = ap₂ (λ (gs : List Global) ds. record {
  bytes = with_first_bytes (addresses gs) ds (replicate MEMORY_BYTES None);
  live = global_objects (addresses gs) ds;
  sp = STACK_TO;
  cursor = 0;
  output = [];
}) (same_globals text) (same_declarators text)

erased_defined : (b : Bool) (f : Fun) (body : Option Stmts) (bare other : Option Definition)
    → bare ≡ option_map erased_definition other →
    defined_by b (erased_function f) (option_map erased_all body) bare ≡ option_map erased_definition (defined_by b f body other)
erased_defined true f None bare other h = h
erased_defined true f (Some body) bare other h = refl
erased_defined false f body bare other h = h

erased_definitions : (ps : List Item) (name : List ℕ)
    → definition (erased_text ps) name ≡ option_map erased_definition (definition ps name)
erased_definitions [] name = refl
erased_definitions (item.Vars keep ds ∷ rest) name = erased_definitions rest name
erased_definitions (item.Fun f ∷ rest) name = erased_defined (bytes_eq f.name name) f f.body (definition (erased_text rest) name) (definition rest name) (erased_definitions rest name)

module _ (text : List Item) where
  erased_routine : (f : Fun) (those : Names)
      → with_function (erased_text text) (erased_function f) (erased_names those)
      ≡ erased_names (with_function text f those)
  erased_routine f those =
      ap (λ found. with_name f.name (Routine (result_shape f) (parameter_shapes f.parameters) found) (erased_names those)) (erased_definitions text f.name)
      ∙ erased_with f.name (Routine (result_shape f) (parameter_shapes f.parameters) (definition text f.name)) those

  erased_names_of : (places : List ℕ) (ps : List Item) (those : Names)
      → names_of (erased_text text) places (erased_text ps) (erased_names those)
      ≡ erased_names (names_of text places ps those)
  erased_names_of places [] those = refl
  erased_names_of places (item.Vars keep ds ∷ rest) those =
      ap (names_of (erased_text text) (drop (length ds) places) (erased_text rest)) (erased_globals places ds those)
      ∙ erased_names_of (drop (length ds) places) rest (with_globals places ds those)
  erased_names_of places (item.Fun f ∷ rest) those =
      ap (names_of (erased_text text) places (erased_text rest)) (erased_routine f those) ∙ erased_names_of places rest (with_function text f those)

module _ (text : List Item) (input : List ℕ) where
  names_erased : names (erased_text text) input ≡ erased_names (names text input)
  names_erased = ap (λ (gs : List Global). names_of (erased_text text) (addresses gs) (erased_text text) no_names) (same_globals text)
      ∙ erased_names_of text (addresses (globals text)) text no_names

  module _ (calls bare : Calls) (h : (d : Definition) → bare (erased_definition d) ≡ calls d) where
    same_body : (places : List ℕ) (f : Fun) (body : Stmts) (vs : List ℕ) →
        body_run (erased_text text) input bare places (erased_function f) (erased_all body) vs ≡ body_run text input calls places f body vs
    same_body places f body vs =
        let own = drop (length f.parameters) places in
        let inner = with_parameters places f.parameters (names text input) in
        let within = ap (with_parameters places f.parameters) names_erased ∙ erased_parameters places f.parameters (names text input) in
        ap₂ (λ ls go. with_locals (parameter_locals places f.parameters ++ ls) (pass places f.parameters vs >> go)) (same_block own body)
        (ap (λ those. exec_all input bare (result_shape f) those own (erased_all body)) within ∙ same_exec_all input calls bare h (result_shape f) inner own body)

    same_whole : (d : Definition) (vs : List ℕ) →
        whole_run (erased_text text) input bare (frame_of d.function.parameters (erased_all d.body)) (erased_function d.function) (erased_all d.body) vs
        ≡ whole_run text input calls (frame_of d.function.parameters d.body) d.function d.body vs
    same_whole d vs =
        let same = same_frame d.function.parameters d.body in
        ap₂ (λ (frame : Planned) go. in_frame (bytes_eq d.function.name main_name) frame.size go) same
        (ap (λ (frame : Planned). body_run (erased_text text) input bare frame.places (erased_function d.function) (erased_all d.body) vs) same
        ∙ same_body (frame_of d.function.parameters d.body).places d.function d.body vs)

  same_calls : (depth : ℕ) (d : Definition)
      → calls_at (erased_text text) input depth (erased_definition d) ≡ calls_at text input depth d
  same_calls zero d = refl
  same_calls (suc depth) d = λ i vs. same_whole (calls_at text input depth) (calls_at (erased_text text) input depth) (same_calls depth) d vs i

  same_main : (n : ℕ) → enter (calls_at (erased_text text) input n)
      (definition (erased_text text) main_name)
      ≡ enter (calls_at text input n) (definition text main_name)
  same_main n = ap (enter (calls_at (erased_text text) input n)) (erased_definitions text main_name)
      ∙ same_enter input (calls_at text input n) (calls_at (erased_text text) input n) (same_calls n) (definition text main_name)

  pub same_meaning : (n : ℕ) → meant (erased_text text) input n ≡ meant text input n
  unfolding meant
  same_meaning n = ap₂ (λ (main : List ℕ → Run (Option ℕ)) store. ended ((count >> main []) store n)) (same_main n) (same_start text)
