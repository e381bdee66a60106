use Rattle.std.proofs.Common.{◌≡◌, List}
use Rattle.c_tree.specs.Item.{Item}
use Rattle.c_resolve.specs.Routines.{AreRoutinesOf}
use Rattle.c_meaning.specs.private.Turned.{all_after}
use Rattle.c_meaning.specs.private.Pending.{Program}
use Rattle.c_meaning.proofs.evaluation.Evaluation.until_a_step.Given as goal

-- what all that is still to be done comes to is what it came to at the start
abbrev pub invariant-loop : goal.invariant-loop
invariant-loop l = (text : List Item) → AreRoutinesOf text l.routines →
    let program : Program = record { text = text; input = l.input } in
    all_after program l.fn.self ≡ all_after program l.self
