use Rattle.std.proofs.Common.{◌<◌, length, arith}
use Rattle.bop_top.specs.declared.top.TheConstants.{MOST_BYTES}
use Rattle.c_token.specs.declared.limits.TheConstants.{TEXT_BYTES}
use Rattle.bop_top.proofs.Loads.{whole_file, longer_file}
use Rattle.bop_top.proofs.top.load.Goals as goal

pub returns-in-Ok-clause-refused : goal.returns-in-Ok-clause-refused
returns-in-Ok-clause-refused g c =
    let file = g.H.Shelf.file c.args.shelf.now c.args.name.now in
    let long : TEXT_BYTES < length c.in-Ok.text.items = omega arith in
    λ tells. longer_file file MOST_BYTES c.in-Ok.text.items (c.in-Ok.ensures.bytes tells) long

pub returns-in-Ok-2-clause-text : goal.returns-in-Ok-2-clause-text
returns-in-Ok-2-clause-text g c =
    let file = g.H.Shelf.file c.args.shelf.now c.args.name.now in
    let few : length c.in-Ok.text.items < MOST_BYTES = omega arith in
    λ tells. whole_file file MOST_BYTES c.in-Ok.text.items (c.in-Ok.ensures.bytes tells) few
