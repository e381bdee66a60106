use Rattle.std.proofs.Common.{◌+◌, ap, sym, ◌∙◌, map, drop}
use Rattle.c_tree.proofs.TreeLists.{cut_at}
use Rattle.c_tree.specs.View.{item_of}
use Rattle.c_layout.specs.private.Capped.{near}
use Rattle.c_layout.specs.Globals.{end_of, kept, globals}
use Rattle.c_layout.proofs.Nearness.{globals-cons}
use Rattle.c_layout.proofs.globals.section_end.Goals as goal

pub loop-item-preserved : goal.loop-item-preserved
loop-item-preserved c =
    let here = cut_at c.args.items.now c.loop-item.item-index c.item-item.result c.loop-item-test.true c.item-item.is in
    let rest = map item_of (drop (c.loop-item.item-index + 1) c.args.items.now) in
    record {
      limit = c.item_end-at.ensures.limit;
      done =
          c.item_end-at.ensures.end (globals rest)
          ∙ ap (λ gs. near (end_of c.loop-item.at (kept c.args.keep gs))) (sym (globals-cons (item_of c.item-item.result) rest))
          ∙ ap (λ is. near (end_of c.loop-item.at (kept c.args.keep (globals (map item_of is))))) (sym here)
          ∙ c.loop-item.invariant.done;
    }
