use Rattle.std.proofs.Common.{◌≡◌, ◌∙◌, ℕ, List, [], ◌∷◌, ◌++◌, Option, ap, reverse}
use Rattle.c_semantics.specs.declared.flow.Flow.TheVariants.{Normal}
use Rattle.c_meaning.specs.declared.pending.Task.TheVariants as task
use Rattle.c_meaning.specs.declared.pending.Work.{Work}
use Rattle.c_meaning.specs.declared.pending.Work.TheVariants as work
use Rattle.c_semantics.specs.Eval.{enter}
use Rattle.c_meaning.specs.private.EvaluatorState.{store_of}
use Rattle.c_semantics.specs.Meaning.{calls_at, definition, main_name, start}
use Rattle.c_semantics.specs.Names.{Definition}
use Rattle.c_resolve.specs.Nodes.{target_run}
use Rattle.c_meaning.specs.private.Pending.{context_at, Program, after}
use Rattle.c_semantics.specs.Run.{Store, Run, ◌>>◌, count}
use Rattle.c_semantics.proofs.RunLemmas.{then_pure}
use Rattle.c_meaning.proofs.meaning.call_main.Goals as goal

pub returns : goal.returns
returns c = λ text input machine stands full found.
    let program : Program = record { text = text; input = input } in
    let steps = c.args.steps in
    let context = context_at program steps in
    let calls = calls_at text input steps in
    let called : Run (Option ℕ) = target_run context c.target_of-target.result [] in
    let main : Run (Option ℕ) = enter calls (definition text main_name) [] in
    let call : Work = work.Task (task.Call c.target_of-target.result 0) in
    let same : called ≡ main = ap (λ (g : List ℕ → Run (Option ℕ)). g []) (c.target_of-target.ensures context) ∙ ap (λ (d : Option Definition). enter calls d []) found in
    ap (λ (l : List Work). after program (reverse l) steps Normal (reverse c.new.result.items) (store_of machine) machine.left) c.in_ok-push.ensures.items
    ∙ ap (λ (l : List Work). after program (reverse (l ++ call ∷ [])) steps Normal (reverse c.new.result.items) (store_of machine) machine.left) c.new-work.ensures.items
    ∙ ap (λ (vs : List ℕ). after program (call ∷ []) steps Normal (reverse vs) (store_of machine) machine.left) c.new.ensures.items
    ∙ ap (λ (q : Run (Option ℕ)). (count >> q) (store_of machine) machine.left) ((λ i store left. then_pure (called store left) i) ∙ same)
    ∙ ap (λ (s : Store). (count >> main) s machine.left) stands
    ∙ ap (λ n. (count >> main) (start text) n) full
