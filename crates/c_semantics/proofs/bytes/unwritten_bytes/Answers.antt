use Rattle.std.proofs.Common.{rules}
use Rattle.c_semantics.specs.Contents.{unwritten}
use Rattle.c_semantics.proofs.bytes.unwritten_bytes.Goals as goal

pub returns-clause-unwritten : goal.returns-clause-unwritten
unfolding unwritten
returns-clause-unwritten c = search rules
