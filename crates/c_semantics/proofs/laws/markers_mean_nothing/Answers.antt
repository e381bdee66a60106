use Rattle.c_semantics.proofs.ErasedMeaning.{same_meaning}
use Rattle.c_semantics.proofs.laws.markers_mean_nothing.Goals as goal

pub returns : goal.returns
returns c = same_meaning
