use Rattle.std.proofs.Common.{◌≡◌, None}
use Rattle.access_log.specs.Held.{has}
use Rattle.value_check.specs.FirstOf.{first_of}
use Rattle.conflict_check.specs.Verdict.{byte_conflict}
use Rattle.conflict_check.proofs.bytes.bytes_conflict.Given as goal

abbrev pub invariant-loop-place : goal.invariant-loop-place
invariant-loop-place l =
    first_of (byte_conflict (has l.first) (has l.changed) l.seen.bytes l.now.bytes l.class l.page) l.place ≡ None
