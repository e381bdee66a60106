use Rattle.std.proofs.Common.{refl}
use Rattle.bop_words.specs.declared.command.Command.TheVariants as command
use Rattle.bop_words.proofs.CommandRequests.{no_source_seed, no_source_regions, source_request}
use Rattle.bop_words.proofs.WordRequestsLemmas.{wrong_words}
use Rattle.bop_words.proofs.read.source.Goals as goal

pub returns-in_default : goal.returns-in_default
returns-in_default c = wrong_words command.Source _ refl c.in_default.ensures

pub returns-in_default-seed : goal.returns-in_default-seed
returns-in_default-seed c = no_source_seed _ c.in-Some.options c.in-Some.ensures c.in_default-seed.is

pub returns-in_default-regions : goal.returns-in_default-regions
returns-in_default-regions c = no_source_regions _ c.in-Some.options c.in-Some.ensures c.in_default-regions.is

pub returns : goal.returns
returns c =
    source_request _ c.in-Some.options c.in-Some-seed.seed c.in-Some-regions.regions c.in-Some.ensures
    c.in-Some-seed.is c.in-Some-regions.is
