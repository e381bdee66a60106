use Rattle.std.proofs.Common.{◌≡◌, ◌<◌, ◌≤◌, ◌-◌, ◌++◌, ℕ, List, length, true, None}
use Rattle.rv_code.specs.SequentialRun.{run}
use Rattle.rv_step.specs.InPlace.{machine_of}
use Rattle.rv_run.specs.declared.piece.TheConstants.{PIECE_BYTES}
use Rattle.rv_run.proofs.run.advance.Given as goal

abbrev pub invariant-loop-state : goal.invariant-loop-state
invariant-loop-state l = record {
  ran : (before : List ℕ)
      → run l.job.program.code l.job.input (l.state.count - l.initial.state.count)
      (machine_of l.initial.state (before ++ l.initial.out))
      ≡ machine_of l.state (before ++ l.out);
  least : l.initial.state.count ≤ l.state.count;
  most : l.state.count ≤ l.end;
  going : l.state.stop ≡ None;
  room : length l.out < PIECE_BYTES;
  owned : l.state.image.owned ≡ true;
}

abbrev pub decreases-loop-state : goal.decreases-loop-state
decreases-loop-state l = l.end - l.state.count
