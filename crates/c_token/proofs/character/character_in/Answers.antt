use Rattle.c_token.proofs.CharacterTokens.{in_from}
use Rattle.c_token.proofs.character.character_in.Goals as goal

pub returns-then-rest-len-eq39 : goal.returns-then-rest-len-eq39
returns-then-rest-len-eq39 c = in_from c.args.rest.now c.args.len c.requires c.if-len-rest.true c.if-rest-eq39.true c.if-rest-len-eq39.true c.quoted.result c.quoted.ensures
