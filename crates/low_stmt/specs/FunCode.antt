-- The code of a function.
use Rattle.std.specs.Prelude.{ℕ, ◌+◌, ◌-◌, ◌*◌, ◌/◌, Bool, true, false, bytes_eq, List, [], ◌∷◌, ◌++◌, drop, length, pos}
use Rattle.bop_bits.specs.declared.map.TheConstants.{STACK_FROM}
use Rattle.rv_code.specs.declared.instr.Instr.{Instr}
use Rattle.rv_code.specs.declared.instr.Instr.TheVariants as instr
use Rattle.low_labels.specs.Operation.{Operation}
use Rattle.low_labels.specs.Operation as op
use Rattle.low_labels.specs.declared.test.Test.TheVariants as test
use Rattle.c_tree.specs.Stmt.{Stmts}
use Rattle.c_tree.specs.Fun.{Param, Fun}
use Rattle.c_tree.specs.Accepted.{result_shape}
use Rattle.c_tree.specs.Declarators.{parameter_shape}
use Rattle.c_layout.specs.Frames.{Planned, frame_of}
use Rattle.c_semantics.specs.Names.{Names, held}
use Rattle.c_semantics.specs.Meaning.{with_parameters, main_name}
use Rattle.low_expr.specs.Registers.{x0, ra, sp, t0, t2, a0}
use Rattle.low_expr.specs.CodePieces.{all_do, constant, take_slot, frame_address}
use Rattle.low_expr.specs.ExprCode.{machine_call}
use Rattle.low_stmt.specs.declared.targets.Targets.{Targets}
use Rattle.low_stmt.specs.StmtCode.{write_code, labels_in_stmts, stmts_code}

-- the return address is in the last word of the frame
abbrev pub last_word : ℕ → ℕ
last_word size = size / 4 - 1

-- Where the stack has no room for the frame, the machine stops, before all else; else the frame is
-- made, and keeps the return address.
abbrev pub enter_code : (size label : ℕ) → List Operation
enter_code size label =
    all_do (constant t0 (STACK_FROM + size)) ++ (op.Branch test.GeU sp t0 label
    ∷ (machine_call 7 ++ (op.Mark label
    ∷ (all_do (constant t0 size ++ instr.Sub sp sp t0 ∷ frame_address t2 (4 * last_word size))
    ++ op.Do (instr.Sw t2 ra (pos 0)) ∷ []))))

-- the frame is given back
abbrev pub leave_code : (size : ℕ) → List Operation
leave_code size =
    all_do (take_slot ra (last_word size) ++ (constant t0 size ++ instr.Add sp sp t0 ∷ []))
    ++ op.Do (instr.Jalr x0 ra (pos 0)) ∷ []

-- arguments, in registers from one on, into the places of the parameters
abbrev pub pass_code : (r : ℕ) → List ℕ → List Param → List Operation
pass_code r (place ∷ places) (p ∷ ps) =
    write_code (instr.Addi t0 r (pos 0) ∷ frame_address t2 place) (held (parameter_shape p))
    ++ pass_code (r + 1) places ps
pass_code r _ _ = []

-- the end of `main` gives 0
abbrev pub end_code : Bool → List Instr
end_code true = constant a0 0
end_code false = []

-- what the body of a function takes as it begins
pub record Body : Type 0 where
  pub frame : Planned
  pub own : List ℕ
  pub names : Names

abbrev pub body_of : Names → Fun → Stmts → Body
body_of names f body =
    let frame = frame_of f.parameters body in
    record {
      frame = frame;
      own = drop (length f.parameters) frame.places;
      names = with_parameters frame.places f.parameters names;
    }

-- how many labels a function takes beside its own: that of the room, of the body's end and of what
-- follows a `return`, and those of the body
abbrev pub labels_in_body : Stmts → ℕ
labels_in_body body = 3 + labels_in_stmts body

-- A `break` or `continue` outside of a loop would end the body; no accepted text has one.
abbrev pub targets_from : ℕ → Targets
targets_from label =
    record { at_break = label + 1; at_continue = label + 1; at_return = label + 2 }

-- under the names of the text
module _ (functions : List ℕ → ℕ) (names : Names) where
  abbrev pub fun_code : Fun → Stmts → (label : ℕ) → List Operation
  fun_code f body label =
      let b = body_of names f body in
      op.Mark (functions f.name) ∷ (enter_code b.frame.size label
      ++ (pass_code a0 b.frame.places f.parameters
      ++ (stmts_code functions (result_shape f) b.names b.own (targets_from label) (label + 3) body
      ++ (op.Mark (label + 1) ∷ (all_do (end_code (bytes_eq f.name main_name))
      ++ (op.Mark (label + 2) ∷ leave_code b.frame.size))))))
