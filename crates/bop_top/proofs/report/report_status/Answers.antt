use Rattle.std.proofs.Common.{◌≡◌, ◌∙◌}
use Rattle.bop_top.specs.Report.{report_of}
use Rattle.bop_top.proofs.Reports.{failed}
use Rattle.bop_top.proofs.report.report_status.Goals as goal

pub returns-in-Err : goal.returns-in-Err
returns-in-Err g c =
    let said : c.as_bytes.result.now ≡ report_of c.args.inner c.args.told = c.as_bytes.ensures.value ∙ c.as_str.ensures.value ∙ c.text.ensures in
    failed c.args.inner _ c.args.told _ _ _ _ c.in-Err.ensures.bytes.0 _ c.unreported.ensures said c.in-Err.ensures.bytes.1 c.in-Err.ensures.cause.failed
