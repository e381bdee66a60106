use Rattle.std.proofs.Common.{rules, arith, map}
use Rattle.std.proofs.lemmas.Grind.{common_steps}
use Rattle.c_tree.specs.View as view
use Rattle.c_decl.specs.private.DeclarationReading as read
use Rattle.c_expr.proofs.Opens.{counted}
use Rattle.c_decl.proofs.declarator.parse_sizes.Goals as goal

pub returns-in_err-expect : goal.returns-in_err-expect
returns-in_err-expect c =
    let e = counted (λ n. read.sizes_from n (map view.expr_of c.loop-alloc.found.items) c.loop-alloc.cursor.tokens.now) c.loop-alloc.cursor.room c.in_ok-take.ensures.room c.loop-alloc.invariant.read in
    first_of (search rules, grind (arith, common_steps))

pub loop-alloc-preserved : goal.loop-alloc-preserved
loop-alloc-preserved c =
    let e = counted (λ n. read.sizes_from n (map view.expr_of c.loop-alloc.found.items) c.loop-alloc.cursor.tokens.now) c.loop-alloc.cursor.room c.in_ok-take.ensures.room c.loop-alloc.invariant.read in
    let b = c.loop-alloc.invariant.bound in
    record { bound = first_of (search rules, grind (arith, common_steps)); read = first_of (search rules, grind (arith, common_steps)) }
