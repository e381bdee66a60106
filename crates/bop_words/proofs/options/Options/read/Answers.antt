use Rattle.bop_words.proofs.UpdatedOptions.{confirm_set}
use Rattle.bop_words.proofs.options.Options.read.Goals as goal

pub returns-in-Confirm-default-clause-one : goal.returns-in-Confirm-default-clause-one
returns-in-Confirm-default-clause-one c = confirm_set c.args.self c.args.option _ c.in-Confirm-default.is-0
