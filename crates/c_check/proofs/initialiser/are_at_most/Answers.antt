use Rattle.c_check.proofs.Initialisers.{at_most}
use Rattle.c_check.proofs.initialiser.are_at_most.Goals as goal

pub returns : goal.returns
returns c = at_most c.args.most c.args.values.now
