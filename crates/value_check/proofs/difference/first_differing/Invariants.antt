use Rattle.std.proofs.Common.{◌≡◌, None}
use Rattle.bop_bits.specs.BitSets.{is_in}
use Rattle.value_check.specs.FirstOf.{first_of}
use Rattle.value_check.proofs.FirstDifferenceLemmas.{asked}
use Rattle.value_check.proofs.difference.first_differing.Given as goal

abbrev pub invariant-loop-place : goal.invariant-loop-place
invariant-loop-place l =
    first_of (asked l.now.bytes l.seen.bytes l.page (is_in l.which.words)) l.place ≡ None
