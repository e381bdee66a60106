use Rattle.low_labels.proofs.EmissionLemmas.{emit_all_fresh}
use Rattle.low_labels.proofs.laws.labels_may_come_first.Goals as goal

pub returns : goal.returns
returns c = emit_all_fresh
