use Rattle.rv_step.proofs.ReplayProof.{replay}
use Rattle.rv_step.proofs.SpotsEverywhere.{records-replay}
use Rattle.rv_step.proofs.laws.replay_law.Goals as goal

pub returns-clause-runs : goal.returns-clause-runs
returns-clause-runs c = replay

pub returns-clause-records : goal.returns-clause-records
returns-clause-records c = records-replay
