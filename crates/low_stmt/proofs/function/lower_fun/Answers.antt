use Rattle.std.proofs.Common.{◌≡◌, ◌*◌, List, Option, Some, None, Vec, Global, length, drop, ap, sym, subst, ◌∙◌, arith}
use Rattle.std.specs.Option.{option_map}
use Rattle.std.specs.Prelude.{IfSome}
use Rattle.std.proofs.lemmas.Result.{on_ok_weaker}
use Rattle.c_tree.specs.declared.tree.Stmt.{Stmt}
use Rattle.c_tree.specs.Stmt.{Stmts}
use Rattle.c_tree.specs.Accepted.{result_shape}
use Rattle.c_tree.specs.View.{fun_of, stmts_of}
use Rattle.c_layout.specs.Frames.{Planned, frame_of, rooms}
use Rattle.c_layout.specs.Slots.{body_slots}
use Rattle.c_layout.specs.LayoutAnswers.{planned_of}
use Rattle.c_resolve.specs.Routines.{definitions_of}
use Rattle.c_semantics.specs.Meaning.{definition, with_parameters}
use Rattle.c_semantics.specs.Names.{Definition}
use Rattle.low_expr.specs.LabelledNames.{functions_in, scope_in}
use Rattle.low_expr.specs.Lowering.{lowered}
use Rattle.low_stmt.specs.FunCode.{fun_code, labels_in_body, last_word}
use Rattle.low_stmt.specs.StmtReadiness.{AreReadyStmts}
use Rattle.low_stmt.proofs.CallFrames.{end_after}
use Rattle.low_stmt.proofs.FunctionLabels.{fun_lowered, own_label}
use Rattle.low_stmt.proofs.function.lower_fun.Goals as goal

pub unreachable-requires-in_default-find_label : goal.unreachable-requires-in_default-find_label
unreachable-requires-in_default-find_label c =
    let r = c.requires.ready in
    let own = own_label c.args.names.now (length c.args.asm.now.places) r.text c.args.fun.now.name _ c.requires.labels r.functions r.defined in
    let no : None ≡ Some (functions_in c.args.names.now c.args.fun.now.name) = sym c.in_default-find_label.is ∙ (c.find_label.ensures ∙ own.found) in
    cc

pub place-requires : goal.place-requires
place-requires c =
    let r = c.requires.ready in
    let own = own_label c.args.names.now (length c.args.asm.now.places) r.text c.args.fun.now.name _ c.requires.labels r.functions r.defined in
    let is : Some c.in-Some-find_label.label ≡ Some (functions_in c.args.names.now c.args.fun.now.name) = sym c.in-Some-find_label.is ∙ (c.find_label.ensures ∙ own.found) in
    let same : c.in-Some-find_label.label ≡ functions_in c.args.names.now c.args.fun.now.name = cc in
    omega (arith, own.low, same)

pub lower_whole-requires-clause-ready : goal.lower_whole-requires-clause-ready
lower_whole-requires-clause-ready c =
    let r = c.requires.ready in
    let f = fun_of c.args.fun.now in
    let names = c.args.names.now in
    let frame = planned_of c.args.frame.now in
    let result = result_shape f in
    let written = stmts_of c.deref.result.now in
    let is : Some r.body ≡ Some written = sym r.has_body ∙ (ap (λ (o : Option (Vec Stmt Global)). option_map (λ body. stmts_of body.items) o) c.in-Some.is ∙ ap (λ ss. Some (stmts_of ss)) (sym c.deref.ensures.value)) in
    let same : r.body ≡ written = cc in
    let plan : frame ≡ frame_of f.parameters r.body = subst (λ (o : Option Stmts). IfSome o (λ body. frame ≡ frame_of f.parameters body)) r.has_body c.requires.frame in
    let small = r.ready.small in
    let high = end_after (4 * body_slots r.body) (rooms f.parameters r.body) in
    record {
      text = r.text;
      room = body_slots r.body;
      top = last_word (frame_of f.parameters r.body).size;
      functions = r.functions;
      small = omega arith;
      holds =
          subst (λ body. AreReadyStmts (definition r.text) (body_slots r.body) (last_word (frame_of f.parameters r.body).size) result
          (with_parameters frame.places f.parameters (scope_in (definitions_of r.text) names)) (drop (length f.parameters) frame.places) body) same
          (subst (λ (p : Planned). AreReadyStmts (definition r.text) (body_slots r.body) (last_word (frame_of f.parameters r.body).size) result
          (with_parameters p.places f.parameters (scope_in (definitions_of r.text) names)) (drop (length f.parameters) p.places) r.body) (sym plan) r.ready.statements);
    }

pub returns-clause-lowered : goal.returns-clause-lowered
returns-clause-lowered c =
    let r = c.requires.ready in
    let f = fun_of c.args.fun.now in
    let names = c.args.names.now in
    let old = c.args.asm.now in
    let mid = c.place.new.self in
    let new = c.lower_whole.new.asm in
    let frame = planned_of c.args.frame.now in
    let written = stmts_of c.deref.result.now in
    let has : f.body ≡ Some written = ap (λ (o : Option (Vec Stmt Global)). option_map (λ body. stmts_of body.items) o) c.in-Some.is ∙ ap (λ ss. Some (stmts_of ss)) (sym c.deref.ensures.value) in
    let own = own_label names (length old.places) r.text c.args.fun.now.name _ c.requires.labels r.functions r.defined in
    let is : Some c.in-Some-find_label.label ≡ Some (functions_in names c.args.fun.now.name) = sym c.in-Some-find_label.is ∙ (c.find_label.ensures ∙ own.found) in
    let same : c.in-Some-find_label.label ≡ functions_in names c.args.fun.now.name = cc in
    let plan : frame ≡ frame_of f.parameters written = subst (λ (o : Option Stmts). IfSome o (λ body. frame ≡ frame_of f.parameters body)) has c.requires.frame in
    on_ok_weaker c.lower_whole.result
    (λ h. subst (λ (o : Option Stmts). IfSome o (λ body. (ds : List Definition) → new ≡ lowered (labels_in_body body) (fun_code (functions_in names) (scope_in ds names) f body (length old.places)) old)) (sym has)
    (fun_lowered names f written frame c.in-Some-find_label.label old mid new c.args.ends.now c.lower_whole.new.ends (omega (arith, own.low, same)) same plan c.place.ensures h))
    c.lower_whole.ensures.lowered
