use Rattle.std.proofs.Common.{sym, eq-eqb, ne_eqb, ◌∙◌}
use Rattle.c_token.proofs.CharacterTokens.{character_found, character_fails}
use Rattle.c_token.proofs.SignTokens.{sign_found_at, sign_fails}
use Rattle.c_token.proofs.WordTokens.{number_found_at, number_fails_at, word_found_at}
use Rattle.c_token.proofs.lexeme.lexeme_at.Goals as goal

pub returns-in-Some : goal.returns-in-Some
returns-in-Some c = character_found c.args.rest.now _ _ c.in-Some.ensures

pub returns-in-None : goal.returns-in-None
returns-in-None c = character_fails c.args.rest.now (eq-eqb _ 39 c.if-first-eq39.true) c.in-None.ensures

pub returns-in-Ok : goal.returns-in-Ok
returns-in-Ok c = number_found_at c.args.rest.now _ c.word_len-len.ensures c.in-Ok.number (sym c.if-is_ascii_digit.ensures.value) c.in-Ok.ensures

pub returns-in-Err : goal.returns-in-Err
returns-in-Err c = number_fails_at c.args.rest.now _ c.word_len-len.ensures c.in-Err.fault (sym c.if-is_ascii_digit.ensures.value) c.in-Err.ensures

pub returns-then-is_word : goal.returns-then-is_word
returns-then-is_word c = word_found_at c.args.rest.now _ c.word_len.ensures (sym c.if-is_word.ensures) (sym c.if-is_ascii_digit.ensures.value)

pub returns-then-len-eq0 : goal.returns-then-len-eq0
returns-then-len-eq0 c = sign_fails c.args.rest.now (sym c.if-is_word.ensures) (ne_eqb _ 39 c.if-first-eq39.false) (sym c.sign_len-len.ensures ∙ c.if-len-eq0.true)

pub returns-else-len-eq0 : goal.returns-else-len-eq0
returns-else-len-eq0 c = sign_found_at c.args.rest.now _ c.sign_len-len.ensures (sym c.if-is_word.ensures) (ne_eqb _ 39 c.if-first-eq39.false) c.if-len-eq0.false
