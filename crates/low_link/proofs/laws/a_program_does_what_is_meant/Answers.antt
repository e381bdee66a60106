use Rattle.low_link.proofs.SourceRuns.{simulated}
use Rattle.low_link.proofs.laws.a_program_does_what_is_meant.Goals as goal

pub returns : goal.returns
returns c = simulated
