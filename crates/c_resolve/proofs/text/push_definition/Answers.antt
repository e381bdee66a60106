use Rattle.std.proofs.Common.{◌≡◌, [], ◌∷◌, ◌++◌, length, map, ap, sym, ◌∙◌, arith}
use Rattle.std.proofs.lemmas.Grind.{common_steps}
use Rattle.std.proofs.lemmas.List.{map-append}
use Rattle.std.specs.Prelude.{slice_get}
use Rattle.c_tree.specs.View.{fun_of, stmts_of}
use Rattle.c_layout.specs.LayoutAnswers.{planned_of, plan_of}
use Rattle.c_semantics.specs.Names.{Definition}
use Rattle.c_resolve.specs.Actions.{routine_run}
use Rattle.c_resolve.specs.Routines.{definition_frame}
use Rattle.c_resolve.proofs.Numbering.{next_is}
use Rattle.c_resolve.proofs.text.push_definition.Goals as goal

pub resolve_fun-requires : goal.resolve_fun-requires
resolve_fun-requires c =
    let fs = (plan_of c.args.layout.now).frames in
    let out = c.args.out.now.items in
    let d : Definition = record { function = fun_of c.args.f.now; body = stmts_of c.args.body.now } in
    let number : c.in-Ok.number ≡ length out = grind (arith, common_steps) in
    next_is fs (length out) (definition_frame d) (planned_of c.frame-frame.result.now) c.requires.0 c.requires.1 (ap (slice_get fs) (sym number) ∙ c.frame-frame.ensures)

pub returns-clause-means : goal.returns-clause-means
returns-clause-means c = λ context text known.
    let run = routine_run context in
    let out = c.args.out.now.items in
    let does = c.in_ok-resolve_fun.ensures.means context text known in
    ap (map run) c.in_ok-push.ensures.items
    ∙ (map-append run out (c.in_ok-resolve_fun.field-0 ∷ [])
    ∙ (λ i. map run out ++ (λ vs. does vs i) ∷ []))
