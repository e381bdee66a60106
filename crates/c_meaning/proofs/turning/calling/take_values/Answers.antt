use Rattle.std.proofs.Common.{◌≡◌, ◌∙◌, ◌-◌, ap, drop, length, reverse, take, rules}
use Rattle.c_meaning.proofs.Arguments.{ends}
use Rattle.c_meaning.proofs.turning.calling.take_values.Goals as goal

pub returns-clause-taken : goal.returns-clause-taken
returns-clause-taken c =
    let values = c.args.values.now.items in
    let from : c.saturating_sub-from.result ≡ length values - c.args.count = search rules in
    c.in_ok-split_off.ensures.tail ∙ ap (λ k. drop k values) from ∙ (ends values c.args.count).0

pub returns-clause-left : goal.returns-clause-left
returns-clause-left c =
    let values = c.args.values.now.items in
    let from : c.saturating_sub-from.result ≡ length values - c.args.count = search rules in
    ap reverse c.in_ok-split_off.ensures.items ∙ ap (λ k. reverse (take k values)) from ∙ (ends values c.args.count).1
