use Rattle.std.proofs.Common.{ℕ, List, [], ap, subst, sym}
use Rattle.std.proofs.KnownBytes.{Appends-nil}
use Rattle.low_link.proofs.SourceRuns.{simulated}
use Rattle.bop_words.specs.WordRequests.{Seq}
use Rattle.bop_top.specs.private.RunEnds.{HasPassed}
use Rattle.bop_top.proofs.Refusals.{unready_done}
use Rattle.bop_top.proofs.TextRuns.{passed_done}
use Rattle.bop_top.proofs.sequential.seq_text.Goals as goal

pub returns-in-Err-clause-done : goal.returns-in-Err-clause-done
returns-in-Err-clause-done g c =
    let refused = c.in-Err.ensures.refused in
    λ name. rw c.of.ensures (unready_done (Seq name c.args.budget) _ c.in-Err.outcome c.args.text.now refused.0 _ _ _ c.requires.text tt refused.2 refused.1)

pub returns-in_default-clause-done : goal.returns-in_default-clause-done
returns-in_default-clause-done g c =
    let job = c.in-Ok.ensures.job in
    λ name. rw c.of-in_default.ensures (unready_done (Seq name c.args.budget) _ _ c.args.text.now job.0 _ _ _ c.requires.text tt tt job.1)

pub returns-clause-done : goal.returns-clause-done
returns-clause-done g c =
    let job = c.in-Ok.ensures.job in
    let of = job.2 in
    let passed = rw (of.program, of.input, of.budget_is) at c.run-ran.ensures.passed in
    λ name. rw (c.outcome_of_run.ensures.outcome, c.of_run.ensures) (passed_done name c.args.text.now job.0 c.args.budget of.ps c.run-ran.new.state _ _ _ _ c.requires.text of.source (simulated c.args.text.now of.ps of.source job.0 of.small c.args.budget) job.1 job.3 _ c.run-ran.result.end c.run-ran.result.bytes passed)
