use Rattle.std.proofs.Common.{refl, subst, sym}
use mathlib.Core.Logic.{⊎_elim}
use Rattle.bop_words.specs.WordRequests.{request_of}
use Rattle.bop_words.specs.declared.request.Request.TheVariants.{Plain}
use Rattle.bop_words.specs.declared.request.PlainRequest.{PlainRequest}
use Rattle.bop_top.proofs.Services.{unbuilt_done}
use Rattle.bop_top.specs.BuiltCommands.{IsBuilt}
use Rattle.bop_top.proofs.top.execute.Goals as goal

abbrev Unbuilt : PlainRequest → Type 0
Unbuilt request = IsBuilt (request_of (Plain request)) → ⊥

pub returns-in-Replay-clause-ended : goal.returns-in-Replay-clause-ended
returns-in-Replay-clause-ended g c =
    let request = request_of (Plain c.args.request.now) in
    let unbuilt : IsBuilt request → ⊥ =
    ⊎_elim (λ replay. subst Unbuilt (sym replay.4) (λ built. built)) (λ text. subst Unbuilt (sym text.2) (λ built. built)) c.in-Replay.is in
    rw c.of-in-Replay.ensures (record { done = unbuilt_done request _ _ _ _ unbuilt; counts = refl })
