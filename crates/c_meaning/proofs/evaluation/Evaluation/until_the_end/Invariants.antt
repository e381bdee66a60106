use Rattle.std.proofs.Common.{◌≡◌, ℕ, suc, List, [], ◌∷◌}
use Rattle.c_tree.specs.Item.{Item}
use Rattle.c_meaning.specs.declared.pending.Work.{Work}
use Rattle.c_resolve.specs.Routines.{AreRoutinesOf}
use Rattle.c_meaning.specs.private.Turned.{all_after}
use Rattle.c_meaning.specs.private.Pending.{Program}
use Rattle.c_meaning.proofs.evaluation.Evaluation.until_the_end.Given as goal

-- how many rounds there may be: none where nothing is left to be done, else one more than there are steps
abbrev pub rounds : List Work → ℕ → ℕ
rounds [] left = 0
rounds (w ∷ ws) left = suc left

-- what all that is still to be done comes to is what it came to at the start
abbrev pub invariant-loop-self : goal.invariant-loop-self
invariant-loop-self l = (text : List Item) → AreRoutinesOf text l.routines →
    let program : Program = record { text = text; input = l.input } in
    all_after program l.fn.self ≡ all_after program l.self

abbrev pub decreases-loop-self : goal.decreases-loop-self
decreases-loop-self l = rounds l.self.pending.work.items l.self.machine.left
