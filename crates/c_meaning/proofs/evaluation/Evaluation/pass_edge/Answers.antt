use Rattle.c_meaning.proofs.evaluation.Evaluation.pass_edge.Goals as goal

pub returns-in-Use : goal.returns-in-Use
returns-in-Use c = rw c.in-Use.is c.take_value.ensures

pub returns-in-Turned : goal.returns-in-Turned
returns-in-Turned c = rw c.in-Turned.is c.end_turn.ensures

pub returns-in-Leave : goal.returns-in-Leave
returns-in-Leave c = rw c.in-Leave.is c.leave.ensures
