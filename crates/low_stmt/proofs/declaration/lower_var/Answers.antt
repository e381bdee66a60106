use Rattle.std.proofs.Common.{length, subst}
use Rattle.c_tree.specs.View.{var_of}
use Rattle.low_stmt.specs.private.Parts.{IsAdded}
use Rattle.low_stmt.specs.private.StmtParts.{init_part}
use Rattle.low_stmt.proofs.ReadyParts.{functions_same}
use Rattle.low_stmt.proofs.declaration.lower_var.Goals as goal

pub returns-clause-lowered : goal.returns-clause-lowered
returns-clause-lowered c =
    let first = length c.args.asm.now.places in
    let h = c.in_ok-declare_local.ensures in
    let same = functions_same c.args.names.now c.declare_local.new.names h.functions in
    subst (λ part. IsAdded first first part c.args.asm.now c.lower_init.new.asm)
    (λ i. init_part (same i) (λ definitions. h.names definitions i) (c.first_place.ensures i) (var_of c.args.v.now) first)
    c.in_ok-lower_init.ensures.lowered
