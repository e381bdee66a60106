-- The code of a text begins with a call of `main`.
use Rattle.std.proofs.Common.{◌≡◌, ℕ, zero, suc, ◌+◌, ◌≤◌, subst, Bool, true, false, ◌||◌, ◌&&◌, is_some, List, [], ◌∷◌, ◌++◌, length, map, replicate, Option, Some, None, refl, ap, sym, ◌∙◌, true≢false, arith}
use Rattle.std.specs.Prelude.{bytes_eq, IfSome}
use Rattle.std.specs.List.{range_with_len}
use Rattle.std.proofs.lemmas.List.{replicate-append-replicate}
use Rattle.std.proofs.lemmas.Slice.Eq.{bytes_eq-Decides}
use Rattle.c_tree.specs.Accepted.{is_defined}
use Rattle.c_tree.specs.Fun.{Fun}
use Rattle.c_tree.specs.Item.{Item}
use Rattle.c_tree.specs.Item as item
use Rattle.c_tree.specs.Stmt.{Stmts}
use Rattle.c_layout.specs.Frames.{Planned, frames}
use Rattle.c_layout.specs.Laid.{planned}
use Rattle.c_resolve.specs.Routines.{definitions_of, own_definition}
use Rattle.c_semantics.specs.Evaluated.{IsMain}
use Rattle.c_semantics.specs.Meaning.{definition, defined_by, main_name}
use Rattle.c_semantics.specs.Names.{Definition}
use Rattle.c_semantics.proofs.FileScope.{same_bytes}
use Rattle.bop_bits.specs.declared.map.TheConstants.{STACK_TO}
use Rattle.low_labels.specs.declared.fault.AsmFault.{AsmFault}
use Rattle.low_labels.specs.declared.fault.AsmFault.TheVariants.{CodeTooLong, OutOfMemory}
use Rattle.low_labels.specs.Closed.{place_in}
use Rattle.low_labels.specs.Emission.{Emission, emit_all, fresh, labelled}
use Rattle.low_expr.specs.CodePieces.{all_do, constant}
use Rattle.low_expr.specs.ExprCode.{machine_call}
use Rattle.low_expr.specs.declared.names.Names.{Names as Labelled}
use Rattle.low_expr.specs.LabelledNames.{scope_in, functions_in, AreFunctionsOf, HasLabels}
use Rattle.low_expr.specs.Lowering.{fresh_by, lowered}
use Rattle.low_expr.specs.Registers.{sp}
use Rattle.low_expr.proofs.Emitting.{labels_same, lines_more}
use Rattle.low_expr.proofs.MarkLemmas.{MarksBelow, lowered_behind, lowered_length, marks_append, marks_do}
use Rattle.low_labels.specs.Operation as op
use Rattle.low_stmt.specs.declared.count.TheConstants.{MOST_PARTS}
use Rattle.low_stmt.specs.CodeBound.{count_text}
use Rattle.low_stmt.specs.DefinedOnce.{AreDefinedOnce}
use Rattle.low_stmt.specs.RegionEnds.{ends_in_functions, ends_in_text, with_ends}
use Rattle.low_stmt.specs.TextCode.{boot_code, counted_with, definitions_in, emitted, functions_code, label_of, labels_in_functions, labels_in_text, names_in, text_code}
use Rattle.low_stmt.specs.TextReadiness.{IsReadyText}
use Rattle.low_stmt.proofs.FunctionLabels.{HasOwnLabel, own_label}
use Rattle.low_stmt.proofs.FunctionNumbers.{functions_are_labels}
use Rattle.low_stmt.proofs.ValueParts.{fresh_lines}
use Rattle.low_stmt.proofs.WordsOfTexts.{boot_words}
use Rattle.low_link.specs.private.BegunCode.{AreDefinedIn, AreRestOfEnds, IsBegun, IsRest}

-- a name that no item defines has no definition
undefined : (items : List Item) (name : List ℕ) → is_defined items name ≡ false
    → definition items name ≡ None
undefined [] name h = refl
undefined (item.Vars keep ds ∷ rest) name h = undefined rest name h
undefined (item.Fun f ∷ rest) name h =
    by f.body (bytes_eq f.name name) (is_defined rest name) h (undefined rest name)
  where
    by : (body : Option Stmts) (b found : Bool) → ((is_some body && b) || found) ≡ false
        → (found ≡ false → definition rest name ≡ None)
        → defined_by b f body (definition rest name) ≡ None
    by None true found h none = none h
    by None false found h none = none h
    by (Some body) true found h none = absurd (true≢false h)
    by (Some body) false found h none = none h

-- a function of another name is defined as before
module _ (f : Fun) (rest : List Item) where
  still_defined : (o : Option Stmts) (name : List ℕ) (d : Definition) (b : Bool)
      → bytes_eq f.name name ≡ b → IfSome o (λ body. is_defined rest f.name ≡ false)
      → definition rest name ≡ Some d → defined_by b f o (definition rest name) ≡ Some d
  still_defined None name d true e once h = h
  still_defined None name d false e once h = h
  still_defined (Some body) name d true e once h =
      let none = undefined rest f.name once in
      let same : definition rest f.name ≡ Some d = ap (definition rest) (same_bytes f.name name e) ∙ h in
      cc
  still_defined (Some body) name d false e once h = h

  defined_behind : (items : List Item) → IfSome f.body (λ body. is_defined rest f.name ≡ false)
      → AreDefinedIn rest items → AreDefinedIn (item.Fun f ∷ rest) items
  defined_behind [] once h = tt
  defined_behind (item.Vars keep ds ∷ items) once h = defined_behind items once h
  defined_behind (item.Fun g ∷ items) once h =
      (own g.body h.0, defined_behind items once h.1)
    where
      own : (o : Option Stmts)
          → IfSome o (λ body. definition rest g.name ≡ Some (record { function = g; body = body }))
          → IfSome o (λ body. definition (item.Fun f ∷ rest) g.name
          ≡ Some (record { function = g; body = body }))
      own None h = tt
      own (Some body) h =
          still_defined f.body g.name (record { function = g; body = body }) (bytes_eq f.name g.name) refl
          once h

-- functions that are defined once are what their names are defined as
all_defined : (items : List Item) → AreDefinedOnce items → AreDefinedIn items items
all_defined [] once = tt
all_defined (item.Vars keep ds ∷ rest) once = behind_vars rest (all_defined rest once)
  where
    behind_vars : (items : List Item) → AreDefinedIn rest items
        → AreDefinedIn (item.Vars keep ds ∷ rest) items
    behind_vars [] h = tt
    behind_vars (item.Vars k es ∷ items) h = behind_vars items h
    behind_vars (item.Fun f ∷ items) h = (h.0, behind_vars items h.1)
all_defined (item.Fun f ∷ rest) once =
    (own f.body, defined_behind f rest rest once.0 (all_defined rest once.1))
  where
    same : bytes_eq f.name f.name ≡ true
    same = (bytes_eq-Decides f.name f.name).1 refl

    own : (o : Option Stmts)
        → IfSome o (λ body. defined_by (bytes_eq f.name f.name) f o (definition rest f.name)
        ≡ Some (record { function = f; body = body }))
    own None = tt
    own (Some body) = ap (λ b. defined_by b f (Some body) (definition rest f.name)) same

-- as many definitions as functions with a body
count_definitions : (items : List Item) → length (definitions_of items) ≡ definitions_in items
count_definitions [] = refl
count_definitions (item.Vars keep ds ∷ rest) = count_definitions rest
count_definitions (item.Fun f ∷ rest) = own f.body ∙ ap (counted_with f.body) (count_definitions rest)
  where
    own : (o : Option Stmts) → length (own_definition f o ++ definitions_of rest)
        ≡ counted_with o (length (definitions_of rest))
    own None = refl
    own (Some body) = let one : suc (length (definitions_of rest)) ≡ 1 + length (definitions_of rest) = omega arith in one

-- labels that are made one by one
made_labels : (n k : ℕ) → fresh_by n (labelled k) ≡ labelled (k + n)
made_labels zero k = let same : k ≡ k + 0 = omega arith in ap labelled same
made_labels (suc n) k =
    let one : k + 1 ≡ suc k = omega arith in
    let same : suc k + n ≡ k + suc n = omega arith in
    let next : fresh (labelled k) ≡ labelled (suc k) =
    ap (λ places. record { lines = []; places = places }) (replicate-append-replicate k 1 None ∙ ap (λ n. replicate n None) one) in
    ap (fresh_by n) next ∙ (made_labels n (suc k) ∙ ap labelled same)

boot_marks : (n main : ℕ) → MarksBelow n (boot_code main)
boot_marks n main =
    let first = constant sp STACK_TO in
    marks_append n (all_do first) (op.Jump 1 main ∷ machine_call 0) (marks_do n first) tt

-- `main` has a label
pub main_label : (names : Labelled) (labels : ℕ) (text : List Item) → HasLabels names labels
    → AreFunctionsOf text names → IsMain (definition text main_name)
    → HasOwnLabel names labels main_name
main_label names labels text has functions main = by (definition text main_name) refl main
  where
    by : (o : Option Definition) → definition text main_name ≡ o → IsMain o
        → HasOwnLabel names labels main_name
    by None e h = absurd h
    by (Some d) e h = own_label names labels text main_name d has functions e

-- labels add no words
pub made_lines : (n : ℕ) (e made : Emission) → e ≡ labelled 0 → made ≡ fresh_by n e
    → length made.lines ≡ 0
made_lines n e made empty is =
    ap (λ (x : Emission). length x.lines) is
    ∙ (fresh_lines n e ∙ ap (λ (x : Emission). length x.lines) empty)

-- code that isn't too long is refused for want of memory alone
pub only_lack : (fault : AsmFault) → (fault ≡ CodeTooLong → ⊥) → fault ≡ OutOfMemory
only_lack CodeTooLong h = absurd (h refl)
only_lack OutOfMemory h = refl

-- the labels of the functions, and the call of `main`
module _ (text : List Item) (booted : Emission)
    (is : booted ≡ lowered (definitions_in text) (boot_code (label_of text main_name)) (labelled 0)) where
  abbrev n : ℕ
  n = definitions_in text

  abbrev boot : List op.Operation
  boot = boot_code (label_of text main_name)

  booted_places : length booted.places ≡ n
  booted_places =
      let none : 0 + n ≡ n = omega arith in
      ap (λ (e : Emission). length e.places) is ∙ (lowered_length n boot (labelled 0) ∙ none)

  booted_lines : length booted.lines ≤ 5
  booted_lines =
      omega (
        arith,
        ap (λ (e : Emission). length e.lines) is,
        lines_more boot (fresh_by n (labelled 0)),
        fresh_lines n (labelled 0),
        boot_words (label_of text main_name),
      )

  booted_code : (new : Emission) → IsRest text text booted new → new ≡ emitted text
  booted_code new rest =
      let m = labels_in_functions text in
      let code = functions_code text n text in
      let all : 0 + (n + m) ≡ labels_in_text text = omega arith in
      rest
      ∙ (ap (λ k. lowered m (functions_code text k text) booted) booted_places
      ∙ (ap (lowered m code) is
      ∙ (lowered_behind n m boot code (labelled 0) (boot_marks (0 + n) (label_of text main_name))
      ∙ ap (emit_all (text_code text)) (made_labels (n + m) 0 ∙ ap labelled all))))

  booted_ends : (new : Emission) (after : List ℕ)
      → AreRestOfEnds text booted new (replicate 256 0) after
      → after ≡ with_ends (place_in new.places) (ends_in_text text) (replicate 256 0)
  booted_ends new after rest =
      rest ∙ ap (λ k. with_ends (place_in new.places) (ends_in_functions k text) (replicate 256 0)) booted_places

-- by names that were made first
module _ (text : List Item) (names : Labelled)
    (functions : AreFunctionsOf text names)
    (numbered : names.labels.items ≡ range_with_len 0 names.numbers.count) where
  functions_same : functions_in names ≡ label_of text
  functions_same = λ i. λ name. functions_are_labels text names functions numbered name i

  pub begun : (all : List Planned) (made booted : Emission) → IsReadyText text
      → AreDefinedOnce text → count_text text ≤ MOST_PARTS → all ≡ map planned (frames text)
      → scope_in (definitions_of text) names ≡ names_in text → HasLabels names (length made.places)
      → made ≡ fresh_by (length (definitions_of text)) (labelled 0)
      → booted ≡ emit_all (boot_code (functions_in names main_name)) made
      → IsBegun text all text 0 names booted (replicate 256 0)
  begun all made booted ready once few framed scope labels first then =
      let main = functions_same in
      let is : booted ≡ lowered (definitions_in text) (boot_code (label_of text main_name)) (labelled 0) =
      then
      ∙ (λ i. emit_all (boot_code (main i main_name)) (first i))
      ∙ ap (λ n. lowered n (boot_code (label_of text main_name)) (labelled 0)) (count_definitions text) in
      let places = booted_places text booted is in
      let lines = booted_lines text booted is in
      let same : length made.places ≡ length booted.places =
      sym (ap (λ (e : Emission). length e.places) then ∙ labels_same (boot_code (functions_in names main_name)) made) in
      record {
        known = record { scope = scope; known = functions; functions = main };
        labels = subst (HasLabels names) same labels;
        enough = omega (arith, places);
        items = record {
          labels = record { from = 0; once = once; last = omega arith; are = λ name here. omega arith };
          ready = ready.functions;
          defined = all_defined text once;
          framed = framed;
          numbered = omega (arith, few);
          few = omega (arith, few, lines);
        };
        code = booted_code text booted is;
        written = λ new after rest last. booted_ends text booted is new after last;
      }
