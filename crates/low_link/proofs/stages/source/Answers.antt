use Rattle.low_link.proofs.Sources.{long_text}
use Rattle.low_link.proofs.stages.source.Goals as goal

pub returns-else-has_few_parts : goal.returns-else-has_few_parts
returns-else-has_few_parts c =
    long_text c.args.text.now c.in_ok-checked.checked c.in_ok-checked.layout c.in_ok-checked.ensures c.has_few_parts.result c.if-has_few_parts.false (rw c.tree.ensures.same at c.has_few_parts.ensures.1)
