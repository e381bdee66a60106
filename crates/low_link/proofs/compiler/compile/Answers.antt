use Rattle.c_tree.specs.View.{items_of}
use Rattle.low_stmt.proofs.DefinedOnceLemmas.{accepted_once}
use Rattle.low_link.proofs.Sources.{source_of}
use Rattle.low_link.proofs.SpelledTexts.{fitting_ready}
use Rattle.low_link.proofs.compiler.compile.Goals as goal

pub assemble-requires-clause-ready : goal.assemble-requires-clause-ready
assemble-requires-clause-ready c =
    let source = source_of c.args.text.now c.in_ok-checked.checked c.in_ok-checked.layout c.in_ok-checked.ensures in
    fitting_ready c.args.text.now (items_of c.in_ok-checked.checked.tree) source.accepted source.fits

pub assemble-requires-clause-once : goal.assemble-requires-clause-once
assemble-requires-clause-once c =
    accepted_once (items_of c.in_ok-checked.checked.tree) (source_of c.args.text.now c.in_ok-checked.checked c.in_ok-checked.layout c.in_ok-checked.ensures).accepted.faultless

pub returns-clause-compiled : goal.returns-clause-compiled
returns-clause-compiled c = record {
  ps = items_of c.in_ok-checked.checked.tree;
  source = source_of c.args.text.now c.in_ok-checked.checked c.in_ok-checked.layout c.in_ok-checked.ensures;
  same = c.in_ok-assemble.ensures.program;
}
