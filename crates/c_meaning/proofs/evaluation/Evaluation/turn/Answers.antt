use Rattle.c_meaning.proofs.evaluation.Evaluation.turn.Goals as goal

pub returns-in-Normal : goal.returns-in-Normal
returns-in-Normal c = rw (c.in-Task.is, c.in-Normal.is) c.run_task.ensures

pub returns-in-Edge : goal.returns-in-Edge
returns-in-Edge c = λ text are. rw c.in-Edge.is (c.pass_edge.ensures (record { text = text; input = c.args.input.now }))
