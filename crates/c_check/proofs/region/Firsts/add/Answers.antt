use Rattle.std.proofs.lemmas.Result.{on_ok_weaker}
use Rattle.c_check.proofs.RegionLemmas.{more_begins, more_ends}
use Rattle.c_check.proofs.region.Firsts.add.Goals as goal

pub returns-then-edge : goal.returns-then-edge
returns-then-edge c =
    on_ok_weaker c.keep_first.result (λ h es f. more_begins c.args.self.now c.keep_first.new.edges c.args.edge es c.if-edge.true h f) c.keep_first.ensures

pub returns-else-edge : goal.returns-else-edge
returns-else-edge c =
    on_ok_weaker c.keep_first-else-edge.result (λ h es f. more_ends c.args.self.now c.keep_first-else-edge.new.edges c.args.edge es c.if-edge.false h f) c.keep_first-else-edge.ensures
