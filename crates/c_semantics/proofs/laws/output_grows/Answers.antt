use Rattle.c_semantics.proofs.Later.{meaning_grows}
use Rattle.c_semantics.proofs.laws.output_grows.Goals as goal

pub returns : goal.returns
returns c = meaning_grows
