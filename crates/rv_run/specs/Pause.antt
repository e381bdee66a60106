-- Why a run pauses.
use Rattle.std.specs.Prelude.{ℕ, ◌==◌, if◌then◌else◌, List, length, Option, Some, None}
use Rattle.rv_code.specs.declared.stop.Stop.{Stop}
use Rattle.rv_run.specs.declared.piece.TheConstants.{PIECE_BYTES}
use Rattle.rv_run.specs.declared.run.Paused.{Paused}
use Rattle.rv_run.specs.declared.run.Paused.TheVariants as paused

-- before its last step, if it does: it has stopped, or its piece is full
abbrev pub pause_of : Option Stop → List ℕ → Option Paused
pause_of (Some how) piece = Some paused.Stopped
pause_of None piece = if length piece == PIECE_BYTES then Some paused.Full else None

-- what a run answers
abbrev pub answer_of : Option Paused → Paused
answer_of (Some why) = why
answer_of None = paused.Took
