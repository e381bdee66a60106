use Rattle.c_meaning.proofs.evaluation.Evaluation.run_task.Goals as goal

pub returns-in-Eval : goal.returns-in-Eval
returns-in-Eval c = λ text are. rw c.in-Eval.is (c.run_eval.ensures (record { text = text; input = c.args.input.now }))

pub returns-in-Constant : goal.returns-in-Constant
returns-in-Constant c = λ text are. rw c.in-Constant.is (c.run_constant.ensures (record { text = text; input = c.args.input.now }))

pub returns-in-Zero : goal.returns-in-Zero
returns-in-Zero c = λ text are. rw c.in-Zero.is (c.run_zero.ensures (record { text = text; input = c.args.input.now }))

pub returns-in-Name : goal.returns-in-Name
returns-in-Name c = λ text are. rw c.in-Name.is (c.run_name.ensures (record { text = text; input = c.args.input.now }))

pub returns-in-Values : goal.returns-in-Values
returns-in-Values c = λ text are. rw c.in-Values.is (c.run_values.ensures (record { text = text; input = c.args.input.now }))

pub returns-in-Load : goal.returns-in-Load
returns-in-Load c = λ text are. rw c.in-Load.is (c.run_load.ensures (record { text = text; input = c.args.input.now }))

pub returns-in-Count : goal.returns-in-Count
returns-in-Count c = λ text are. rw c.in-Count.is (c.run_count.ensures (record { text = text; input = c.args.input.now }))

pub returns-in-Unary : goal.returns-in-Unary
returns-in-Unary c = λ text are. rw c.in-Unary.is (c.run_unary.ensures (record { text = text; input = c.args.input.now }))

pub returns-in-Step : goal.returns-in-Step
returns-in-Step c = λ text are. rw c.in-Step.is (c.run_step.ensures (record { text = text; input = c.args.input.now }))

pub returns-in-Cast : goal.returns-in-Cast
returns-in-Cast c = λ text are. rw c.in-Cast.is (c.run_cast.ensures (record { text = text; input = c.args.input.now }))

pub returns-in-Binary : goal.returns-in-Binary
returns-in-Binary c = λ text are. rw c.in-Binary.is (c.run_binary.ensures (record { text = text; input = c.args.input.now }))

pub returns-in-Logic : goal.returns-in-Logic
returns-in-Logic c = λ text are. rw c.in-Logic.is (c.run_logic.ensures (record { text = text; input = c.args.input.now }))

pub returns-in-Truth : goal.returns-in-Truth
returns-in-Truth c = λ text are. rw c.in-Truth.is (c.run_truth.ensures (record { text = text; input = c.args.input.now }))

pub returns-in-Conditional : goal.returns-in-Conditional
returns-in-Conditional c = λ text are. rw c.in-Conditional.is (c.run_conditional.ensures (record { text = text; input = c.args.input.now }))

pub returns-in-Assign : goal.returns-in-Assign
returns-in-Assign c = λ text are. rw c.in-Assign.is (c.run_assign.ensures (record { text = text; input = c.args.input.now }))

pub returns-in-Vars : goal.returns-in-Vars
returns-in-Vars c = λ text are. rw c.in-Vars.is (c.run_vars.ensures (record { text = text; input = c.args.input.now }))

pub returns-in-Var : goal.returns-in-Var
returns-in-Var c = λ text are. rw c.in-Var.is (c.run_var.ensures (record { text = text; input = c.args.input.now }))

pub returns-in-Init : goal.returns-in-Init
returns-in-Init c = λ text are. rw c.in-Init.is (c.run_init.ensures (record { text = text; input = c.args.input.now }))

pub returns-in-Execute : goal.returns-in-Execute
returns-in-Execute c = λ text are. rw c.in-Execute.is (c.run_stmt.ensures (record { text = text; input = c.args.input.now }))

pub returns-in-All : goal.returns-in-All
returns-in-All c = λ text are. rw c.in-All.is (c.run_all.ensures (record { text = text; input = c.args.input.now }))

pub returns-in-Block : goal.returns-in-Block
returns-in-Block c = λ text are. rw c.in-Block.is (c.run_block.ensures (record { text = text; input = c.args.input.now }))

pub returns-in-For : goal.returns-in-For
returns-in-For c = λ text are. rw c.in-For.is (c.run_for.ensures (record { text = text; input = c.args.input.now }))

pub returns-in-If : goal.returns-in-If
returns-in-If c = λ text are. rw c.in-If.is (c.run_if.ensures (record { text = text; input = c.args.input.now }))

pub returns-in-Loop : goal.returns-in-Loop
returns-in-Loop c = λ text are. rw c.in-Loop.is (c.run_loop.ensures (record { text = text; input = c.args.input.now }))
