use Rattle.std.proofs.Common.{◌≡◌, ◌++◌, length, map, drop, ap, ◌∙◌, arith}
use Rattle.std.proofs.lemmas.List.{length-map}
use Rattle.c_tree.specs.View.{param_of, stmts_of}
use Rattle.c_layout.specs.Frames.{Planned, frame_of}
use Rattle.c_semantics.specs.Run.{◌>>◌}
use Rattle.c_semantics.specs.Exec.{block_locals, with_locals, exec_all}
use Rattle.c_resolve.specs.Actions.{arguments_run}
use Rattle.c_resolve.specs.private.Acted.{parameters_at}
use Rattle.c_semantics.specs.Meaning.{in_frame, parameter_locals, with_parameters}
use Rattle.c_tree.proofs.BlocksLemmas.{left_is, entered_long, from_entered}
use Rattle.c_resolve.specs.DeclaredNames.{blocks_in}
use Rattle.c_resolve.proofs.BlockNamesLemmas.{names_entered}
use Rattle.c_resolve.proofs.Passing.{arguments_are}
use Rattle.c_resolve.proofs.function.resolve_fun.Goals as goal

pub leave-requires : goal.leave-requires
leave-requires c =
    let old = blocks_in c.args.names.now in
    let end = blocks_in c.resolve_body.new.names in
    entered_long old end (from_entered old (blocks_in c.enter.new.self) end c.in_ok-enter.ensures.entered (c.in_ok-block.ensures.kept ∙ c.in_ok-declare_params.ensures.kept))

pub returns-clause-same : goal.returns-clause-same
returns-clause-same c =
    let old = blocks_in c.args.names.now in
    let end = blocks_in c.resolve_body.new.names in
    left_is old end (blocks_in c.leave.new.self) (from_entered old (blocks_in c.enter.new.self) end c.in_ok-enter.ensures.entered (c.in_ok-block.ensures.kept ∙ c.in_ok-declare_params.ensures.kept)) c.leave.ensures

pub returns-clause-means : goal.returns-clause-means
returns-clause-means c = λ context text known vs.
    let f = c.args.f.now in
    let ps = map param_of f.params.items in
    let body = stmts_of c.args.body.now in
    let plan = frame_of ps body in
    let size = ap (λ (p : Planned). p.size) c.requires in
    let places : c.as_slice-places.result.now ≡ plan.places = c.as_slice-places.ensures.value ∙ ap (λ (p : Planned). p.places) c.requires in
    let passed : c.push_params.new.out.items ≡ parameters_at plan.places ps =
    c.in_ok-push_params.ensures.parameters ∙ (λ i. c.new-parameters.ensures.items i ++ parameters_at (places i) (map param_of (c.deref.ensures.value i))) in
    let arguments = ap (λ xs. arguments_run context xs vs) passed ∙ arguments_are context plan.places ps vs in
    let first : c.push_params.new.locals.items ≡ parameter_locals plan.places ps =
    c.in_ok-push_params.ensures.locals ∙ (λ i. c.new-locals.ensures.items i ++ parameter_locals (places i) (map param_of (c.deref.ensures.value i))) in
    let counted : c.len.result ≡ length ps = omega (arith, c.len.ensures, f.params.ok.0, length-map f.params.items param_of) in
    let own : c.past-own.result.now ≡ drop (length ps) plan.places = c.past-own.ensures ∙ (λ i. drop (counted i) (places i)) in
    let more = c.deref-3.ensures.value ∙ (c.in_ok-block.ensures.locals ∙ ap (λ at. block_locals at body) own) in
    let locals = c.in_ok-extend_from_slice.ensures.items ∙ (λ i. first i ++ more i) in
    let inside = names_entered context.definitions (blocks_in c.args.names.now) (blocks_in c.enter.new.self) c.in_ok-enter.ensures.entered in
    let named = c.in_ok-declare_params.ensures.names context.definitions ∙ (λ i. with_parameters (places i) (map param_of (c.deref-2.ensures.value i)) ((inside ∙ known) i)) in
    let acts = c.in_ok-block.ensures.means context ∙ (λ i. exec_all context.input context.calls (c.in_ok-gives.ensures i) (named i) (own i) body) in
    λ i. in_frame (c.is_main.ensures i) (size i) (with_locals (locals i) (arguments i >> acts i))
