use Rattle.std.proofs.Common.{arith, sym, ⊎_elim, ◌∙◌, ap, ◌≡◌}
use Rattle.std.proofs.lemmas.Bool.{cases_eq}
use Rattle.c_token.proofs.CharacterTokens.{in_some, none_in}
use Rattle.c_token.specs.private.Quotes.{character_in}
use Rattle.c_token.proofs.character.character.Goals as goal

pub returns-in-Some : goal.returns-in-Some
returns-in-Some c = in_some c.args.rest.now c.loop-len.len c.in-Some.value (omega arith) c.in-Some.ensures

pub returns : goal.returns
returns c = none_in c.args.rest.now (λ k three seven. c.loop-len.invariant k three (omega arith))

pub loop-len-preserved : goal.loop-len-preserved
loop-len-preserved c = λ k three less. ⊎_elim (λ (e : k ≡ c.loop-len.len). ap (character_in c.args.rest.now) e ∙ sym c.in_default.ensures) (λ other. c.loop-len.invariant k three (omega (arith, other))) (cases_eq k c.loop-len.len)
