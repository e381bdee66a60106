use Rattle.std.proofs.Common.{refl}
use Rattle.bop_words.specs.declared.command.Command.TheVariants as command
use Rattle.bop_words.proofs.CommandRequests.{no_seed, no_regions}
use Rattle.bop_words.proofs.WordRequestsLemmas.{wrong_words}
use Rattle.bop_words.proofs.read.demo.Goals as goal

pub returns-in_default : goal.returns-in_default
returns-in_default c = wrong_words command.Demo _ refl c.in_default.ensures

pub returns-in_default-seed : goal.returns-in_default-seed
returns-in_default-seed c = no_seed _ c.in-Some.options c.in-Some.ensures c.in_default-seed.is

pub returns-in_default-regions : goal.returns-in_default-regions
returns-in_default-regions c = no_regions _ c.in-Some.options c.in-Some.ensures c.in_default-regions.is
