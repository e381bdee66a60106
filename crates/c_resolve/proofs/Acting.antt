-- Statements that are executed one after another, before what follows them.
use Rattle.std.proofs.Common.{◌≡◌, List, [], ◌∷◌, ◌++◌, refl, ap}
use Rattle.c_semantics.specs.declared.flow.Flow.{Flow}
use Rattle.c_semantics.specs.declared.flow.Flow.TheVariants.{Normal}
use Rattle.c_semantics.specs.Run.{Run, pure, ◌>>=◌}
use Rattle.c_semantics.specs.Exec.{next}
use Rattle.c_resolve.specs.Actions.{in_order}

-- statements, and then what follows them
abbrev pub in_order_then : List (Run Flow) → Run Flow → Run Flow
in_order_then [] go = go
in_order_then (r ∷ rs) go = r >>= λ f. next f (in_order_then rs go)

pub in_order_push : (rs : List (Run Flow)) (r go : Run Flow)
    → in_order_then (rs ++ r ∷ []) go ≡ in_order_then rs (r >>= λ f. next f go)
in_order_push [] r go = refl
in_order_push (q ∷ rs) r go = ap (λ (rest : Run Flow). q >>= λ f. next f rest) (in_order_push rs r go)

pub in_order_is : (rs : List (Run Flow)) → in_order rs ≡ in_order_then rs (pure Normal)
in_order_is [] = refl
in_order_is (r ∷ rs) = ap (λ (rest : Run Flow). r >>= λ f. next f rest) (in_order_is rs)
