use Rattle.std.proofs.Common.{rules, arith, None}
use Rattle.std.proofs.lemmas.Grind.{common_steps}
use Rattle.c_tree.specs.declared.tree.Stmt.{roll-Stmt}
use Rattle.c_tree.specs.declared.tree.StmtKind.{If}
use Rattle.c_tree.proofs.ViewLemmas.{if_is, statement_is}
use Rattle.c_decl.proofs.node.build_if.Goals as goal

pub returns : goal.returns
returns c =
    let v = if_is c.args.test c.in_ok-new.field-0 None c.args.place in
    let e = statement_is (roll-Stmt (record { kind = If c.args.test c.in_ok-new.field-0 None; place = c.args.place })) in
    first_of (search rules, grind (arith, common_steps))
