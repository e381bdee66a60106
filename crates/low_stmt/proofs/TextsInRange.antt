-- The code of a text that is ready has operations whose fields are in range.
use Rattle.std.proofs.Common.{ℕ, ◌+◌, ◌*◌, ◌<◌, ◌≤◌, List, [], ◌∷◌, ◌++◌, length, arith, Option, Some, None, pos}
use Rattle.std.specs.Prelude.{Bool, true, false, bytes_eq, IfSome}
use Rattle.std.proofs.lemmas.List.Elements.{All-from_recursion}
use Rattle.bop_bits.specs.declared.map.TheConstants.{STACK_FROM, STACK_TO}
use Rattle.rv_code.specs.declared.instr.Instr.{Instr}
use Rattle.rv_code.specs.declared.instr.Instr.TheVariants as instr
use Rattle.c_tree.specs.Accepted.{result_shape}
use Rattle.c_tree.specs.Declarators.{parameter_shape}
use Rattle.c_tree.specs.Fun.{Param, Fun}
use Rattle.c_tree.specs.Item.{Item}
use Rattle.c_tree.specs.Item as item
use Rattle.c_tree.specs.Stmt.{Stmts}
use Rattle.c_semantics.specs.Evaluated.{IsMain}
use Rattle.c_semantics.specs.Meaning.{main_name, definition, defined_by}
use Rattle.c_semantics.specs.Names.{Names, Definition, held}
use Rattle.low_labels.specs.Emission.{IsOperation, AreOperations}
use Rattle.low_labels.specs.Operation.{Operation}
use Rattle.low_labels.specs.Operation as op
use Rattle.low_labels.specs.declared.test.Test.TheVariants as test
use Rattle.low_expr.specs.CodePieces.{all_do, constant, take_slot, frame_address}
use Rattle.low_expr.specs.ExprCode.{machine_call}
use Rattle.low_stmt.specs.FunCode.{last_word, enter_code, leave_code, pass_code, end_code, labels_in_body, body_of, targets_from, fun_code}
use Rattle.low_stmt.specs.FunReadiness.{IsReadyFun}
use Rattle.low_stmt.specs.StmtCode.{write_code, stmts_code}
use Rattle.low_stmt.specs.TextCode.{counted_with, definitions_in, before_by, before_in, label_of, boot_code, labels_with, names_in, labels_in_functions, labels_in_text, definition_code, functions_code, text_code}
use Rattle.low_stmt.specs.TextReadiness.{AreReadyFuns, IsReadyText}
use Rattle.low_stmt.proofs.InstructionsInRange.{AreInstrs, instrs_append, constant_fits, frame_address_fits, take_fits, move_fits, store_fits, back_fits}
use Rattle.low_stmt.proofs.ExpressionsInRange.{InRange, fit_append, do_then, machine_fits}
use Rattle.low_stmt.proofs.StatementsInRange.{write_code_fits, stmts_fit}
use Rattle.low_stmt.proofs.PlacingsOfTexts.{labels_more}

end_fits : (main : Bool) → AreInstrs (end_code main)
end_fits true = constant_fits 10 0 (omega arith)
end_fits false = tt

-- with so many labels
module _ (n : ℕ) where
  enter_fits : (size label : ℕ) → label < n → InRange n (enter_code size label)
  enter_fits size label low =
      let limit = constant 5 (STACK_FROM + size) in
      let find = frame_address 7 (4 * last_word size) in
      let make = constant 5 size ++ instr.Sub 2 2 5 ∷ find in
      let save : List Operation = op.Do (instr.Sw 7 1 (pos 0)) ∷ [] in
      let last : List Operation = op.Mark label ∷ (all_do make ++ save) in
      let room = op.Branch test.GeU 2 5 label ∷ (machine_call 7 ++ last) in
      let made = instrs_append (constant 5 size) (instr.Sub 2 2 5 ∷ find) (constant_fits 5 size (omega arith))
      ((omega arith, omega arith, omega arith), frame_address_fits 7 (4 * last_word size) (omega arith)) in
      do_then n limit room (constant_fits 5 (STACK_FROM + size) (omega arith)) (
        (omega arith, omega arith, low),
        fit_append n (machine_call 7) last (machine_fits n 7 (omega arith))
            (low, do_then n make save made (store_fits 7 1 (omega arith) (omega arith), tt)),
      )

  leave_fits : (size : ℕ) → InRange n (leave_code size)
  leave_fits size =
      let take = take_slot 1 (last_word size) in
      let add : List Instr = instr.Add 2 2 5 ∷ [] in
      let jump : List Operation = op.Do (instr.Jalr 0 1 (pos 0)) ∷ [] in
      do_then n (take ++ (constant 5 size ++ add)) jump
      (instrs_append take (constant 5 size ++ add) (take_fits 1 (last_word size) (omega arith))
      (instrs_append (constant 5 size) add (constant_fits 5 size (omega arith)) ((omega arith, omega arith, omega arith), tt)))
      (back_fits, tt)

  pass_fits : (r : ℕ) (places : List ℕ) (ps : List Param) → r + length ps ≤ 32
      → InRange n (pass_code r places ps)
  pass_fits r [] ps le = tt
  pass_fits r (place ∷ places) [] le = tt
  pass_fits r (place ∷ places) (p ∷ ps) le =
      let xs = instr.Addi 5 r (pos 0) ∷ frame_address 7 place in
      let h = held (parameter_shape p) in
      fit_append n (write_code xs h) (pass_code (r + 1) places ps)
      (write_code_fits n xs h (move_fits 5 r (omega arith) (omega (arith, le)), frame_address_fits 7 place (omega arith)))
      (pass_fits (r + 1) places ps (omega (arith, le)))

  boot_fits : (main : ℕ) → main < n → InRange n (boot_code main)
  boot_fits main low =
      do_then n (constant 2 STACK_TO) (op.Jump 1 main ∷ machine_call 0) (constant_fits 2 STACK_TO (omega arith))
      ((omega arith, low), machine_fits n 0 (omega arith))

  module _ (functions : List ℕ → ℕ) (known : (name : List ℕ) → functions name < n)
      (defined : List ℕ → Option Definition) (names : Names) where
    fun_fits : (f : Fun) (body : Stmts) (label : ℕ) → label + labels_in_body body ≤ n
        → IsReadyFun defined names f body → InRange n (fun_code functions names f body label)
    fun_fits f body label le ready =
        let b = body_of names f body in
        let few = ready.few in
        let enter = enter_code b.frame.size label in
        let pass = pass_code 10 b.frame.places f.parameters in
        let statements = stmts_code functions (result_shape f) b.names b.own (targets_from label) (label + 3) body in
        let ending = end_code (bytes_eq f.name main_name) in
        let leave : List Operation = op.Mark (label + 2) ∷ leave_code b.frame.size in
        let last : List Operation = op.Mark (label + 1) ∷ (all_do ending ++ leave) in
        let second : label + 1 < n = omega (arith, le) in
        let third : label + 2 < n = omega (arith, le) in
        let ends = do_then n ending leave (end_fits (bytes_eq f.name main_name)) (third, leave_fits b.frame.size) in
        let inner = stmts_fit n functions known defined b.frame.slots (last_word b.frame.size) (result_shape f)
        b.names b.own (targets_from label) (label + 3) body (record { at_break = second; at_continue = second; at_return = third }) (omega (arith, le)) ready.statements in (
          known f.name,
          fit_append n enter (pass ++ (statements ++ last))
              (enter_fits b.frame.size label (omega (arith, le)))
              (fit_append n pass (statements ++ last) (pass_fits 10 b.frame.places f.parameters (omega (arith, few)))
              (fit_append n statements last inner (second, ends))),
        )

-- the label of a function is among those of the definitions, or the next one
before_by_most : (b : Bool) (body : Option Stmts) (n m : ℕ) → n ≤ m
    → before_by b body n ≤ counted_with body m
before_by_most true None n m le = le
before_by_most false None n m le = le
before_by_most true (Some body) n m le = omega arith
before_by_most false (Some body) n m le = omega (arith, le)

before_most : (items : List Item) (name : List ℕ) → before_in items name ≤ definitions_in items
before_most [] name = omega arith
before_most (item.Vars keep ds ∷ rest) name = before_most rest name
before_most (item.Fun f ∷ rest) name =
    before_by_most (bytes_eq f.name name) f.body (before_in rest name) (definitions_in rest)
    (before_most rest name)

-- a function that is defined takes labels
labels_by : (b : Bool) (f : Fun) (body : Option Stmts) (other : Option Definition) (n : ℕ)
    → (IsMain other → 0 < n) → IsMain (defined_by b f body other) → 0 < labels_with body n
labels_by true f None other n some h = some h
labels_by false f None other n some h = some h
labels_by true f (Some body) other n some h = omega arith
labels_by false f (Some body) other n some h = omega arith

some_labels : (items : List Item) (name : List ℕ) → IsMain (definition items name)
    → 0 < labels_in_functions items
some_labels [] name h = absurd h
some_labels (item.Vars keep ds ∷ rest) name h = some_labels rest name h
some_labels (item.Fun f ∷ rest) name h =
    labels_by (bytes_eq f.name name) f f.body (definition rest name) (labels_in_functions rest)
    (some_labels rest name) h

module _ (text : List Item) (n : ℕ) (known : (name : List ℕ) → label_of text name < n) where
  definition_fits : (f : Fun) (body : Option Stmts) (label : ℕ) → labels_with body label ≤ n
      → IfSome body (IsReadyFun (definition text) (names_in text) f)
      → InRange n (definition_code text f body label)
  definition_fits f None label le ready = tt
  definition_fits f (Some body) label le ready =
      fun_fits n (label_of text) known (definition text) (names_in text) f body label le ready

  functions_fit : (label : ℕ) (items : List Item) → label + labels_in_functions items ≤ n
      → AreReadyFuns text items → InRange n (functions_code text label items)
  functions_fit label [] le ready = tt
  functions_fit label (item.Vars keep ds ∷ rest) le ready = functions_fit label rest le ready
  functions_fit label (item.Fun f ∷ rest) le ready =
      let label1 = labels_with f.body label in
      let more = labels_more f.body label (labels_in_functions rest) in
      fit_append n (definition_code text f f.body label) (functions_code text label1 rest)
      (definition_fits f f.body label (omega (arith, le, more)) ready.0)
      (functions_fit label1 rest (omega (arith, le, more)) ready.1)

pub text_in_range : (text : List Item) → IsReadyText text
    → AreOperations (labels_in_text text) (text_code text)
text_in_range text ready =
    let n = labels_in_text text in
    let main = label_of text main_name in
    let label = definitions_in text in
    let some = some_labels text main_name ready.main in
    let known : (name : List ℕ) → label_of text name < n = λ name. omega (arith, some, before_most text name) in
    All-from_recursion (IsOperation n) (text_code text)
    (fit_append n (boot_code main) (functions_code text label text) (boot_fits n main (known main_name))
    (functions_fit text n known label text (omega arith) ready.functions))
