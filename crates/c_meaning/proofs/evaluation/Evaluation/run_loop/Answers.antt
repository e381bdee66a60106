use Rattle.c_meaning.proofs.evaluation.Evaluation.run_loop.Goals as goal

pub returns-in-Begins : goal.returns-in-Begins
returns-in-Begins c = rw c.in-Begins.is c.begin_loop.ensures

pub returns-in-Tests : goal.returns-in-Tests
returns-in-Tests c = rw c.in-Tests.is c.test_loop.ensures

pub returns-in-Turns : goal.returns-in-Turns
returns-in-Turns c = rw c.in-Turns.is c.turn_loop.ensures
