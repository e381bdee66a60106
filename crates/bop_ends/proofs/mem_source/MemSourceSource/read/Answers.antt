use Rattle.std.proofs.Common.{arith, take-append-drop}
use Rattle.std.proofs.lemmas.List.{drop-drop}
use Rattle.std.proofs.lemmas.Grind.{common_steps}
use Rattle.bop_ends.specs.MemSource.{mem_source_left}
use Rattle.bop_ends.proofs.mem_source.MemSourceSource.read.Goals as goal

pub returns-clause-bytes : goal.returns-clause-bytes
returns-clause-bytes c =
    let count = c.min-count.result in
    let whole = take-append-drop count (mem_source_left c.args.self.now) in
    let rest = drop-drop count c.args.self.now.at c.args.self.now.content.items in
    (grind (arith, common_steps, whole, rest), λ none room. grind (arith, common_steps, none, room))
