use Rattle.bop_words.proofs.CommandRequests.{no_schedule, replay_asks}
use Rattle.bop_words.proofs.read.replay.Goals as goal

pub returns-in_default-schedule : goal.returns-in_default-schedule
returns-in_default-schedule c =
    no_schedule _ c.in-Some.line.options c.in-Some.line.program.now c.in-Some.ensures c.in_default-schedule.is

pub returns-in_default-to_string : goal.returns-in_default-to_string
returns-in_default-to_string c =
    replay_asks _ c.in-Some.line.options c.in-Some.line.program.now c.in-Some-schedule.schedule c.in-Some.ensures
    c.in-Some-schedule.is

pub returns-in_default-to_string-2 : goal.returns-in_default-to_string-2
returns-in_default-to_string-2 c =
    replay_asks _ c.in-Some.line.options c.in-Some.line.program.now c.in-Some-schedule.schedule c.in-Some.ensures
    c.in-Some-schedule.is
