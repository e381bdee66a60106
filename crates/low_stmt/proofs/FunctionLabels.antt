-- The label of a function that a text defines, and the function with it.
use Rattle.std.proofs.Common.{◌≡◌, ℕ, ◌+◌, ◌<◌, List, [], ◌∷◌, length, Some, ap, sym, ◌∙◌, arith}
use Rattle.std.specs.Prelude.{slice_index}
use Rattle.std.proofs.lemmas.List.Elements.{All-get_or}
use Rattle.std.proofs.lemmas.Option.{slice_get-get_or}
use Rattle.c_tree.specs.Fun.{Fun}
use Rattle.c_tree.specs.Item.{Item}
use Rattle.c_tree.specs.Stmt.{Stmts}
use Rattle.c_layout.specs.Frames.{Planned, frame_of}
use Rattle.c_resolve.specs.DeclaredNames.{indexed_at}
use Rattle.c_semantics.specs.Meaning.{definition}
use Rattle.c_semantics.specs.Names.{Definition}
use Rattle.low_labels.specs.Emission.{Emission, emit}
use Rattle.low_labels.specs.Operation.{Operation, Mark}
use Rattle.low_expr.specs.declared.names.Names.{Names as Labelled}
use Rattle.low_expr.specs.LabelledNames.{found_label, functions_in, label_at, scope_in, AreFunctionsOf, HasLabels}
use Rattle.low_expr.specs.Lowering.{lowered}
use Rattle.low_expr.proofs.Emitting.{labels_same}
use Rattle.low_expr.proofs.LoweredCalls.{has_number}
use Rattle.low_expr.proofs.MarkLemmas.{lowered_behind}
use Rattle.low_stmt.specs.FunCode.{fun_code, labels_in_body}
use Rattle.low_stmt.specs.private.Parts.{Writes}
use Rattle.low_stmt.specs.private.StmtParts.{fun_part, scopes}

-- a function that the text defines has a label among those that there are
pub record HasOwnLabel (names : Labelled) (labels : ℕ) (name : List ℕ) : Type 0 where
  pub found : found_label names.labels.items (indexed_at names.numbers.numbers name)
      ≡ Some (functions_in names name)
  pub low : functions_in names name < labels

pub own_label : (names : Labelled) (labels : ℕ) (text : List Item) (name : List ℕ) (d : Definition)
    → HasLabels names labels → AreFunctionsOf text names → definition text name ≡ Some d
    → HasOwnLabel names labels name
own_label names labels text name d has functions is =
    let items = names.labels.items in
    let n = has_number names labels text name d has functions is in
    let here : functions_in names name ≡ slice_index items n.number = ap (label_at items) n.is in
    let low : slice_index items n.number < labels = All-get_or (λ label. label < labels) items n.number 0 n.low has.below in
    record {
      found = ap (found_label items) n.is ∙ (slice_get-get_or items n.number 0 n.low ∙ ap Some (sym here));
      low = omega (arith, here, low);
    }

-- a function behind its label
pub fun_lowered : (names : Labelled) (f : Fun) (body : Stmts) (frame : Planned) (label : ℕ)
    (old mid new : Emission) (e0 e1 : List ℕ) → label < length old.places
    → label ≡ functions_in names f.name → frame ≡ frame_of f.parameters body
    → mid ≡ emit (Mark label) old
    → Writes (fun_part (functions_in names) (scopes names) f frame body) mid new e0 e1
    → (ds : List Definition) → new
    ≡ lowered (labels_in_body body) (fun_code (functions_in names) (scope_in ds names) f body (length old.places)) old
fun_lowered names f body frame label old mid new e0 e1 low named framed marked h ds =
    let n = length old.places in
    let m = labels_in_body body in
    let code : ℕ → Planned → List Operation = λ k plan. (fun_part (functions_in names) (scopes names) f plan body k).code ds in
    let whole = code n (frame_of f.parameters body) in
    let same = ap (λ (e : Emission). length e.places) marked ∙ labels_same (Mark label ∷ []) old in
    let none : 0 + m ≡ m = omega arith in
    let there : label < n + 0 = omega arith in
    h.added.code ds
    ∙ ((λ i. lowered m (code (same i) (framed i)) (marked i))
    ∙ (lowered_behind 0 m (Mark label ∷ []) whole old (there, tt)
    ∙ (λ i. lowered (none i) (Mark (named i) ∷ whole) old)))
