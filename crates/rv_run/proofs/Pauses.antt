-- Why a run pauses.
use Rattle.std.proofs.Common.{◌≡◌, ◌<◌, ◌≤◌, ℕ, List, Option, Some, None, false, length, refl, arith}
use Rattle.std.specs.Prelude.{is_some}
use Rattle.std.proofs.lemmas.Bool.Decides.{nat_tests}
use Rattle.rv_code.specs.declared.stop.Stop.{Stop}
use Rattle.rv_run.specs.Pause.{pause_of}
use Rattle.rv_run.specs.declared.piece.TheConstants.{PIECE_BYTES}

pub none_of : (how : Option Stop) → is_some how ≡ false → how ≡ None
none_of None e = refl
none_of (Some how) e = cc

-- a run that doesn't pause hasn't stopped, and its piece isn't full
pub goes-on : (how : Option Stop) (piece : List ℕ) → pause_of how piece ≡ None → how ≡ None
goes-on None piece e = refl
goes-on (Some how) piece e = cc

pub has-room : (how : Option Stop) (piece : List ℕ) → pause_of how piece ≡ None
    → length piece ≤ PIECE_BYTES → length piece < PIECE_BYTES
has-room None piece e most = grind (arith, nat_tests)
has-room (Some how) piece e most = cc
