-- How many words the code of a function has, and that of a text.
use Rattle.std.proofs.Common.{ℕ, ◌+◌, ◌*◌, ◌≤◌, List, [], ◌∷◌, ◌++◌, length, arith, Option, Some, None, length-append}
use Rattle.std.specs.Prelude.{bytes_eq, IfSome, pos}
use Rattle.bop_bits.specs.declared.map.TheConstants.{STACK_FROM, STACK_TO}
use Rattle.rv_code.specs.declared.instr.Instr.{Instr}
use Rattle.rv_code.specs.declared.instr.Instr.TheVariants as instr
use Rattle.c_tree.specs.Fun.{Param, Fun}
use Rattle.c_tree.specs.Item.{Item}
use Rattle.c_tree.specs.Item as item
use Rattle.c_tree.specs.Stmt.{Stmts}
use Rattle.c_tree.specs.Accepted.{result_shape}
use Rattle.c_tree.specs.Declarators.{parameter_shape}
use Rattle.c_semantics.specs.Names.{Names, Definition, held}
use Rattle.c_semantics.specs.Meaning.{main_name, definition}
use Rattle.low_labels.specs.Operation.{Operation, width_of}
use Rattle.low_labels.specs.Operation as op
use Rattle.low_labels.specs.declared.test.Test.TheVariants as test
use Rattle.low_expr.specs.CodePieces.{is_near, all_do, constant, take_slot, frame_address}
use Rattle.low_expr.specs.ExprCode.{machine_call}
use Rattle.low_expr.proofs.CodePiecesLemmas.{frame_length}
use Rattle.low_expr.proofs.CodeLengths.{number_length, slot_length}
use Rattle.low_expr.proofs.KeptValues.{all_width, width-append}
use Rattle.low_stmt.specs.CodeBound.{count_body, count_stmts, count_items, count_text}
use Rattle.low_stmt.specs.StmtCode.{write_code, stmts_code}
use Rattle.low_stmt.specs.FunCode.{last_word, enter_code, leave_code, pass_code, end_code, body_of, targets_from, fun_code}
use Rattle.low_stmt.specs.FunReadiness.{IsReadyFun}
use Rattle.low_stmt.specs.TextCode.{label_of, names_in, labels_with, definitions_in, boot_code, definition_code, functions_code, text_code}
use Rattle.low_stmt.specs.TextReadiness.{AreReadyFuns, IsReadyText}
use Rattle.low_stmt.proofs.FunctionsFollow.{end_length}
use Rattle.low_stmt.proofs.WordsOfStatements.{write_words, stmts_words}

pub enter_words : (size label : ℕ) → width_of (enter_code size label) ≤ 13
enter_words size label =
    let limit = constant 5 (STACK_FROM + size) in
    let find = frame_address 7 (4 * last_word size) in
    let make : List Instr = constant 5 size ++ instr.Sub 2 2 5 ∷ find in
    let save : List Operation = op.Do (instr.Sw 7 1 (pos 0)) ∷ [] in
    let last : List Operation = op.Mark label ∷ (all_do make ++ save) in
    omega (
      arith,
      width-append (all_do limit) (op.Branch test.GeU 2 5 label ∷ (machine_call 7 ++ last)),
      all_width limit,
      number_length 5 (STACK_FROM + size),
      width-append (all_do make) save,
      all_width make,
      length-append (constant 5 size) (instr.Sub 2 2 5 ∷ find),
      number_length 5 size,
      frame_length (is_near (4 * last_word size)) 7 (4 * last_word size),
    )

pub leave_words : (size : ℕ) → width_of (leave_code size) ≤ 7
leave_words size =
    let take = take_slot 1 (last_word size) in
    let add : List Instr = instr.Add 2 2 5 ∷ [] in
    let jump : List Operation = op.Do (instr.Jalr 0 1 (pos 0)) ∷ [] in
    omega (
      arith,
      width-append (all_do (take ++ (constant 5 size ++ add))) jump,
      all_width (take ++ (constant 5 size ++ add)),
      length-append take (constant 5 size ++ add),
      length-append (constant 5 size) add,
      slot_length 1 (last_word size),
      number_length 5 size,
    )

pass_words : (r : ℕ) (places : List ℕ) (ps : List Param)
    → width_of (pass_code r places ps) ≤ 6 * length ps
pass_words r [] ps = omega arith
pass_words r (place ∷ places) [] = omega arith
pass_words r (place ∷ places) (p ∷ ps) =
    let xs : List Instr = instr.Addi 5 r (pos 0) ∷ frame_address 7 place in
    omega (
      arith,
      width-append (write_code xs (held (parameter_shape p))) (pass_code (r + 1) places ps),
      write_words xs (held (parameter_shape p)),
      frame_length (is_near place) 7 place,
      pass_words (r + 1) places ps,
    )

module _ (functions : List ℕ → ℕ) (defined : List ℕ → Option Definition) (names : Names) where
  fun_words : (f : Fun) (body : Stmts) (label : ℕ) → IsReadyFun defined names f body
      → width_of (fun_code functions names f body label)
      ≤ 32 * (1 + length f.parameters + count_stmts body)
  fun_words f body label ready =
      let b = body_of names f body in
      let enter = enter_code b.frame.size label in
      let pass = pass_code 10 b.frame.places f.parameters in
      let statements = stmts_code functions (result_shape f) b.names b.own (targets_from label) (label + 3) body in
      let ending = end_code (bytes_eq f.name main_name) in
      let leave = leave_code b.frame.size in
      let last : List Operation = op.Mark (label + 1) ∷ (all_do ending ++ (op.Mark (label + 2) ∷ leave)) in
      omega (
        arith,
        width-append enter (pass ++ (statements ++ last)),
        width-append pass (statements ++ last),
        width-append statements last,
        width-append (all_do ending) (op.Mark (label + 2) ∷ leave),
        all_width ending,
        end_length (bytes_eq f.name main_name),
        enter_words b.frame.size label,
        leave_words b.frame.size,
        pass_words 10 b.frame.places f.parameters,
        stmts_words functions defined b.frame.slots (last_word b.frame.size) (result_shape f) b.names
            b.own (targets_from label) (label + 3) body ready.statements,
      )

module _ (text : List Item) where
  pub definition_words : (f : Fun) (body : Option Stmts) (label : ℕ)
      → IfSome body (IsReadyFun (definition text) (names_in text) f)
      → width_of (definition_code text f body label)
      ≤ 32 * (1 + length f.parameters + count_body body)
  definition_words f None label ready = omega arith
  definition_words f (Some body) label ready =
      fun_words (label_of text) (definition text) (names_in text) f body label ready

  functions_words : (label : ℕ) (items : List Item) → AreReadyFuns text items
      → width_of (functions_code text label items) ≤ 32 * count_items items
  functions_words label [] ready = omega arith
  functions_words label (item.Vars keep ds ∷ rest) ready =
      omega (arith, functions_words label rest ready)
  functions_words label (item.Fun f ∷ rest) ready =
      omega (
        arith,
        width-append (definition_code text f f.body label)
            (functions_code text (labels_with f.body label) rest),
        definition_words f f.body label ready.0,
        functions_words (labels_with f.body label) rest ready.1,
      )

pub boot_words : (main : ℕ) → width_of (boot_code main) ≤ 5
boot_words main =
    omega (
      arith,
      width-append (all_do (constant 2 STACK_TO)) (op.Jump 1 main ∷ machine_call 0),
      all_width (constant 2 STACK_TO),
      number_length 2 STACK_TO,
    )

pub text_words : (text : List Item) → IsReadyText text
    → width_of (text_code text) ≤ 32 * count_text text
text_words text ready =
    let main = label_of text main_name in
    let label = definitions_in text in
    omega (
      arith,
      width-append (boot_code main) (functions_code text label text),
      boot_words main,
      functions_words text label text ready.functions,
    )
