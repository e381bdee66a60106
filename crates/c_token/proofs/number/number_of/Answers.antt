use Rattle.std.proofs.Common.{sym, ◌∙◌}
use Rattle.c_token.proofs.ConstantTokens.{number_at, number_none, same_test, typed_at}
use Rattle.c_token.proofs.number.number_of.Goals as goal

pub returns-then-are_digits : goal.returns-then-are_digits
returns-then-are_digits c =
    number_at c.args.word.now c.number_from.result
    (sym (same_test c.args.word.now c.body_of-body.ensures c.base_of-base.ensures c.digits_of-digits.ensures) ∙ sym c.are_digits.ensures ∙ c.if-are_digits.true)
    (typed_at c.args.word.now c.body_of-body.ensures c.base_of-base.ensures c.digits_of-digits.ensures _ _ c.is_suffixed-suffixed.ensures c.number_from.ensures)

pub returns-else-are_digits : goal.returns-else-are_digits
returns-else-are_digits c =
    number_none c.args.word.now (sym (same_test c.args.word.now c.body_of-body.ensures c.base_of-base.ensures c.digits_of-digits.ensures) ∙ sym c.are_digits.ensures ∙ c.if-are_digits.false)
