use Rattle.std.proofs.Common.{◌≡◌, ◌≤◌, ◌*◌, ◌-◌, [], length, true}
use Rattle.rv_run.specs.declared.piece.TheConstants.{PIECE_BYTES}
use Rattle.bop_top.proofs.Running.{Stands}
use Rattle.bop_top.proofs.run.run.Given as goal

abbrev pub invariant-loop-count : goal.invariant-loop-count
invariant-loop-count g l = record {
  stands : Stands l.job.program l.job.input l.state (g.K.Sink.content l.initial.sink)
      (g.K.Sink.content l.sink) l.bytes;
  empty : l.piece ≡ [];
  owned : l.state.image.owned ≡ true;
  faults : g.K.Sink.faults l.sink ≡ g.K.Sink.faults l.initial.sink;
  count : l.state.count ≤ l.job.budget;
  few : l.bytes ≤ PIECE_BYTES * l.state.count;
}

abbrev pub decreases-loop-count : goal.decreases-loop-count
decreases-loop-count g l = l.job.budget - l.state.count
