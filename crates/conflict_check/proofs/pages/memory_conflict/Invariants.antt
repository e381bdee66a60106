use Rattle.std.proofs.Common.{◌≡◌, None}
use Rattle.value_check.specs.FirstOf.{first_of}
use Rattle.conflict_check.specs.Verdict.{conflict_of_page}
use Rattle.conflict_check.proofs.pages.memory_conflict.Given as goal

abbrev pub invariant-loop-page : goal.invariant-loop-page
invariant-loop-page l = first_of (conflict_of_page l.job l.truth l.changed l.done) l.page ≡ None
