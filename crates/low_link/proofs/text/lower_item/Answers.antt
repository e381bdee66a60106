use Rattle.std.proofs.Common.{◌≡◌, ◌∷◌, Option, Some, Vec, Global, ap, sym, subst}
use Rattle.std.specs.Option.{option_map}
use Rattle.std.specs.Prelude.{IfSome}
use Rattle.c_tree.specs.declared.tree.Item.{Item as ItemTree}
use Rattle.c_tree.specs.declared.tree.Stmt.{Stmt}
use Rattle.c_tree.specs.Stmt.{Stmts}
use Rattle.c_tree.specs.View.{fun_of, item_of, stmts_of}
use Rattle.c_layout.specs.Frames.{frame_of}
use Rattle.c_layout.specs.LayoutAnswers.{plan_of, planned_of}
use Rattle.c_resolve.proofs.Numbering.{next_is}
use Rattle.low_link.specs.private.BegunCode.{IsBegun}
use Rattle.low_link.proofs.BegunText.{framed_next, ready_next, stepped}
use Rattle.low_link.proofs.text.lower_item.Goals as goal

pub lower_fun-requires-clause-ready : goal.lower_fun-requires-clause-ready
lower_fun-requires-clause-ready c =
    let r = c.requires in
    let a = c.args in
    let all = (plan_of a.layout.now).frames in
    let f = fun_of c.in-Fun.f in
    let has : f.body ≡ Some (stmts_of c.in-Some.field-0.items) = ap (λ (o : Option (Vec Stmt Global)). option_map (λ body. stmts_of body.items) o) c.in-Some.is in
    let begun = subst (λ (i : ItemTree). IsBegun r.0 all (item_of i ∷ r.1) a.number a.names.now a.asm.now a.ends.now) c.in-Fun.is r.2 in
    ready_next r.0 all f (stmts_of c.in-Some.field-0.items) r.1 a.number a.names.now a.asm.now a.ends.now has begun

pub lower_fun-requires-clause-frame : goal.lower_fun-requires-clause-frame
lower_fun-requires-clause-frame c =
    let r = c.requires in
    let a = c.args in
    let all = (plan_of a.layout.now).frames in
    let f = fun_of c.in-Fun.f in
    let body = stmts_of c.in-Some.field-0.items in
    let has : f.body ≡ Some body = ap (λ (o : Option (Vec Stmt Global)). option_map (λ body. stmts_of body.items) o) c.in-Some.is in
    let begun = subst (λ (i : ItemTree). IsBegun r.0 all (item_of i ∷ r.1) a.number a.names.now a.asm.now a.ends.now) c.in-Fun.is r.2 in
    let next = framed_next r.0 all f body r.1 a.number a.names.now a.asm.now a.ends.now has begun in
    subst (λ (o : Option Stmts). IfSome o (λ b. planned_of c.frame.result.now ≡ frame_of f.parameters b)) (sym has)
    (next_is all a.number (frame_of f.parameters body) (planned_of c.frame.result.now) _ next c.frame.ensures)

pub returns-in_ok-lower_fun-in-Some-clause-begun : goal.returns-in_ok-lower_fun-in-Some-clause-begun
returns-in_ok-lower_fun-in-Some-clause-begun c = λ text left h.
    let a = c.args in
    let all = (plan_of a.layout.now).frames in
    let f = fun_of c.in-Fun.f in
    let body = stmts_of c.in-Some.field-0.items in
    let has : f.body ≡ Some body = ap (λ (o : Option (Vec Stmt Global)). option_map (λ body. stmts_of body.items) o) c.in-Some.is in
    let begun = subst (λ (i : ItemTree). IsBegun text all (item_of i ∷ left) a.number a.names.now a.asm.now a.ends.now) c.in-Fun.is h in
    let went = c.in_ok-lower_fun-in-Some.ensures in
    stepped text all f body left a.number a.names.now c.lower_fun.new.names a.asm.now c.lower_fun.new.asm a.ends.now c.lower_fun.new.ends has begun went.lowered went.ends went.same went.functions
