-- The code of a text whose functions are defined once places each label at most once.
use Rattle.std.proofs.Common.{◌≡◌, ℕ, ◌+◌, ◌*◌, ◌≤◌, ◌==◌, List, [], ◌∷◌, ◌++◌, refl, arith, Option, Some, None, ap, sym, ◌∙◌, pos, true≢false}
use Rattle.std.specs.Prelude.{Bool, true, false, bytes_eq, IfSome, ◌||◌, ◌&&◌, is_some}
use Rattle.std.proofs.lemmas.Bool.{or_right}
use Rattle.std.proofs.lemmas.Slice.Eq.{bytes_eq-Decides}
use Rattle.rv_code.specs.declared.instr.Instr.TheVariants as instr
use Rattle.bop_bits.specs.declared.map.TheConstants.{STACK_FROM, STACK_TO}
use Rattle.c_tree.specs.Accepted.{result_shape, is_defined, is_defined_by}
use Rattle.c_tree.specs.Declarators.{parameter_shape}
use Rattle.c_tree.specs.Fun.{Param, Fun}
use Rattle.c_tree.specs.Item.{Item}
use Rattle.c_tree.specs.Item as item
use Rattle.c_tree.specs.Stmt.{Stmts}
use Rattle.c_semantics.specs.Meaning.{main_name}
use Rattle.c_semantics.specs.Names.{Names, held}
use Rattle.c_semantics.proofs.FileScope.{same_bytes}
use Rattle.low_labels.specs.Closed.{ArePlacedOnce}
use Rattle.low_labels.specs.Operation.{Operation}
use Rattle.low_labels.specs.Operation as op
use Rattle.low_labels.specs.declared.test.Test.TheVariants as test
use Rattle.low_expr.specs.CodePieces.{all_do, constant, take_slot, frame_address}
use Rattle.low_expr.specs.ExprCode.{machine_call}
use Rattle.low_stmt.specs.DefinedOnce.{AreDefinedOnce}
use Rattle.low_stmt.specs.FunCode.{last_word, enter_code, leave_code, pass_code, end_code, labels_in_body, body_of, targets_from, fun_code}
use Rattle.low_stmt.specs.StmtCode.{write_code, labels_in_stmts, stmts_code}
use Rattle.low_stmt.specs.TextCode.{counted_with, definitions_in, before_by, before_in, label_of, boot_code, labels_with, names_in, labels_in_functions, definition_code, functions_code, text_code}
use Rattle.low_stmt.proofs.Placings.{one_if, placings, among, placings-append, placings_do, among_next, among_most, among_same, placed_once}
use Rattle.low_stmt.proofs.PlacingsOfStatements.{write_placings, stmts_place}

module _ (k : ℕ) where
  enter_placings : (size label : ℕ)
      → placings k (enter_code size label) + among label k ≡ among (label + 1) k
  enter_placings size label =
      let limit = constant 5 (STACK_FROM + size) in
      let make = constant 5 size ++ instr.Sub 2 2 5 ∷ frame_address 7 (4 * last_word size) in
      let save : List Operation = op.Do (instr.Sw 7 1 (pos 0)) ∷ [] in
      let last : List Operation = op.Mark label ∷ (all_do make ++ save) in
      omega (
        arith,
        placings-append k (all_do limit) (op.Branch test.GeU 2 5 label ∷ (machine_call 7 ++ last)),
        placings_do k limit,
        placings-append k (all_do make) save,
        placings_do k make,
        among_next k label,
      )

  leave_placings : (size : ℕ) → placings k (leave_code size) ≡ 0
  leave_placings size =
      let xs = take_slot 1 (last_word size) ++ (constant 5 size ++ instr.Add 2 2 5 ∷ []) in
      let jump : List Operation = op.Do (instr.Jalr 0 1 (pos 0)) ∷ [] in
      omega (arith, placings-append k (all_do xs) jump, placings_do k xs)

  pass_placings : (r : ℕ) (places : List ℕ) (ps : List Param)
      → placings k (pass_code r places ps) ≡ 0
  pass_placings r [] ps = refl
  pass_placings r (place ∷ places) [] = refl
  pass_placings r (place ∷ places) (p ∷ ps) =
      let xs = instr.Addi 5 r (pos 0) ∷ frame_address 7 place in
      let h = held (parameter_shape p) in
      omega (
        arith,
        placings-append k (write_code xs h) (pass_code (r + 1) places ps),
        write_placings k xs h,
        pass_placings (r + 1) places ps,
      )

  -- a function's own label, and those within it
  pub fun_places : (functions : List ℕ → ℕ) (names : Names) (f : Fun) (body : Stmts) (label : ℕ)
      → placings k (fun_code functions names f body label) + among label k
      ≤ one_if (k == functions f.name) + among (label + labels_in_body body) k
  fun_places functions names f body label =
      let b = body_of names f body in
      let enter = enter_code b.frame.size label in
      let pass = pass_code 10 b.frame.places f.parameters in
      let statements = stmts_code functions (result_shape f) b.names b.own (targets_from label) (label + 3) body in
      let ending = end_code (bytes_eq f.name main_name) in
      let leave = leave_code b.frame.size in
      let last : List Operation = op.Mark (label + 1) ∷ (all_do ending ++ (op.Mark (label + 2) ∷ leave)) in
      omega (
        arith,
        placings-append k enter (pass ++ (statements ++ last)),
        placings-append k pass (statements ++ last),
        placings-append k statements last,
        placings-append k (all_do ending) (op.Mark (label + 2) ∷ leave),
        placings_do k ending,
        enter_placings b.frame.size label,
        leave_placings b.frame.size,
        pass_placings 10 b.frame.places f.parameters,
        stmts_place k functions (result_shape f) b.names b.own (targets_from label) (label + 3) body,
        among_next k (label + 1),
        among_next k (label + 2),
        among_same k (label + 1 + 1) (label + 2) (omega arith),
        among_same k (label + 2 + 1) (label + 3) (omega arith),
        among_same k (label + 3 + labels_in_stmts body) (label + labels_in_body body) (omega arith),
      )

-- a name that is defined isn't that of another function
other_name : (f : Fun) (rest : List Item) (name : List ℕ) (b : Bool) → bytes_eq f.name name ≡ b
    → is_defined rest f.name ≡ false → is_defined rest name ≡ true → b ≡ false
other_name f rest name true e once here =
    absurd (true≢false (sym here ∙ ap (is_defined rest) (sym (same_bytes f.name name e)) ∙ once))
other_name f rest name false e once here = refl

other_names : (f : Fun) (rest : List Item) (name : List ℕ) (body : Option Stmts)
    → IfSome body (λ b. is_defined rest f.name ≡ false) → is_defined rest name ≡ true
    → IfSome body (λ b. bytes_eq f.name name ≡ false)
other_names f rest name None once here = tt
other_names f rest name (Some body) once here =
    other_name f rest name (bytes_eq f.name name) refl once here

before_more : (body : Option Stmts) (b : Bool) (from n : ℕ) → IfSome body (λ s. b ≡ false)
    → from + before_by b body n ≡ counted_with body from + n
before_more None true from n other = refl
before_more None false from n other = refl
before_more (Some body) true from n other = absurd (true≢false other)
before_more (Some body) false from n other = omega arith

before_none : (body : Option Stmts) (b found : Bool) (label from n : ℕ) → b ≡ true
    → (((is_some body && b) || found) ≡ true → label ≡ from + before_by b body n)
    → IfSome body (λ s. label ≡ from)
before_none None b found label from n same is = tt
before_none (Some body) true found label from n same is = omega (arith, is refl)
before_none (Some body) false found label from n same is = absurd (true≢false (sym same))

pub labels_more : (body : Option Stmts) (label n : ℕ)
    → labels_with body label + n ≡ label + labels_with body n
labels_more None label n = refl
labels_more (Some body) label n = omega arith

counted_more : (body : Option Stmts) (from n : ℕ)
    → counted_with body from + n ≡ from + counted_with body n
counted_more None from n = refl
counted_more (Some body) from n = omega arith

module _ (text : List Item) where
  -- functions have their labels in the order of their definitions, from one on
  abbrev HaveLabels : (from : ℕ) → List Item → Type 0
  HaveLabels from items = (name : List ℕ) → is_defined items name ≡ true
      → label_of text name ≡ from + before_in items name

  pub labels_behind : (from : ℕ) (f : Fun) (rest : List Item) → AreDefinedOnce (item.Fun f ∷ rest)
      → HaveLabels from (item.Fun f ∷ rest) → HaveLabels (counted_with f.body from) rest
  labels_behind from f rest once have = λ name here.
      have name (or_right (is_defined_by name (item.Fun f)) (is_defined rest name) here)
      ∙ before_more f.body (bytes_eq f.name name) from (before_in rest name)
      (other_names f rest name f.body once.0 here)

  pub own_label : (from : ℕ) (f : Fun) (rest : List Item) → HaveLabels from (item.Fun f ∷ rest)
      → IfSome f.body (λ s. label_of text f.name ≡ from)
  own_label from f rest have =
      before_none f.body (bytes_eq f.name f.name) (is_defined rest f.name) (label_of text f.name) from
      (before_in rest f.name) ((bytes_eq-Decides f.name f.name).1 refl) (have f.name)

  module _ (k : ℕ) where
    definition_places : (f : Fun) (body : Option Stmts) (label from : ℕ)
        → IfSome body (λ s. label_of text f.name ≡ from)
        → placings k (definition_code text f body label) + among label k + among from k
        ≤ among (labels_with body label) k + among (counted_with body from) k
    definition_places f None label from own = omega arith
    definition_places f (Some body) label from own =
        omega (
          arith,
          fun_places k (label_of text) (names_in text) f body label,
          ap (λ n. one_if (k == n)) own,
          among_next k from,
          among_same k (1 + from) (from + 1) (omega arith),
        )

    pub functions_place : (label from : ℕ) (items : List Item) → AreDefinedOnce items
        → HaveLabels from items
        → placings k (functions_code text label items) + among label k + among from k
        ≤ among (label + labels_in_functions items) k + among (from + definitions_in items) k
    functions_place label from [] once have =
        omega (
          arith,
          among_same k (label + 0) label (omega arith),
          among_same k (from + 0) from (omega arith),
        )
    functions_place label from (item.Vars keep ds ∷ rest) once have =
        functions_place label from rest once have
    functions_place label from (item.Fun f ∷ rest) once have =
        let label1 = labels_with f.body label in
        let from1 = counted_with f.body from in
        omega (
          arith,
          placings-append k (definition_code text f f.body label) (functions_code text label1 rest),
          definition_places f f.body label from (own_label from f rest have),
          functions_place label1 from1 rest once.1 (labels_behind from f rest once have),
          ap (λ n. among n k) (labels_more f.body label (labels_in_functions rest)),
          ap (λ n. among n k) (counted_more f.body from (definitions_in rest)),
        )

boot_placings : (k main : ℕ) → placings k (boot_code main) ≡ 0
boot_placings k main =
    let first = constant 2 STACK_TO in
    omega (
      arith,
      placings-append k (all_do first) (op.Jump 1 main ∷ machine_call 0),
      placings_do k first,
    )

pub text_placed_once : (text : List Item) → AreDefinedOnce text → ArePlacedOnce (text_code text)
text_placed_once text once = placed_once (text_code text) at_most
  where
    at_most : (k : ℕ) → placings k (text_code text) ≤ 1
    at_most k =
        let main = label_of text main_name in
        let label = definitions_in text in
        omega (
          arith,
          placings-append k (boot_code main) (functions_code text label text),
          boot_placings k main,
          functions_place text k label 0 text once (λ name here. omega arith),
          among_same k (0 + label) label (omega arith),
          among_most k (label + labels_in_functions text),
        )
