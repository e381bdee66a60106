use Rattle.std.proofs.Common.{◌≡◌, ◌-◌, length, arith}
use Rattle.c_semantics.proofs.Owners.{kept_outside}
use Rattle.c_semantics.proofs.live.give.Goals as goal

pub returns-clause-kept : goal.returns-clause-kept
returns-clause-kept c =
    let filled : length c.fill.new.self ≡ c.cells-from.result.1 - c.cells-from.result.0 = search (arith) in
    kept_outside c.args.owners.now c.fill.new.self c.args.object c.cells-from.result.0 c.cells-from.result.1 c.cells-from.ensures.from c.cells-from.ensures.to c.requires.inside c.requires.cells filled
