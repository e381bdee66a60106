use Rattle.std.proofs.Common.{codes}
use Rattle.std.specs.Fmt.{decimal}
use Rattle.std.proofs.lemmas.List.{append_assoc}
use Rattle.bop_gen.proofs.generator.source_of.Goals as goal

pub returns : goal.returns
returns c = rw (append_assoc (decimal c.args.seed) (codes "u")) c.in_ok-text.ensures.ok
