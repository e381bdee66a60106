use Rattle.low_labels.proofs.Standing.{closed}
use Rattle.low_labels.proofs.laws.closed_code_has_its_operations.Goals as goal

pub returns : goal.returns
returns c = closed
