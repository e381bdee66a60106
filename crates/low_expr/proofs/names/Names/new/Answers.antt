use Rattle.std.proofs.Common.{[], ◌≡◌, ◌<◌, length, ap, sym, subst, ◌∙◌, arith}
use Rattle.std.specs.List.{range_with_len}
use Rattle.std.specs.Prelude.{All}
use Rattle.std.proofs.lemmas.List.FromFn.{length-range_with_len}
use Rattle.c_tree.specs.declared.tree.Tree.{Tree}
use Rattle.c_tree.specs.View.{items_of}
use Rattle.c_layout.specs.Globals.{globals, addresses}
use Rattle.c_semantics.specs.Meaning.{names_of}
use Rattle.c_semantics.specs.Names.{no_names}
use Rattle.c_resolve.specs.DeclaredNames.{blocks_in, names_at}
use Rattle.c_resolve.specs.Routines.{definitions_of}
use Rattle.low_labels.specs.Emission.{Emission}
use Rattle.low_expr.proofs.LabelNumbers.{numbers_below}
use Rattle.low_expr.proofs.MarkLemmas.{fresh_length}
use Rattle.low_expr.proofs.names.Names.new.Goals as goal

pub returns-clause-scope : goal.returns-clause-scope
returns-clause-scope c =
    subst
    (λ (tree : Tree). let text = items_of tree in
    names_at (definitions_of text) (blocks_in c.in_ok-known.known) ≡ names_of text (addresses (globals text)) text no_names)
    c.tree-tree.ensures.same (c.in_ok-known.ensures [])

pub returns-clause-labels : goal.returns-clause-labels
returns-clause-labels c =
    let first = length c.args.asm.now.places in
    let count = c.in_ok-numbers.numbers.count in
    let made = ap (λ (e : Emission). length e.places) c.in_ok-labels.ensures.made ∙ fresh_length c.count.result c.args.asm.now in
    let same = c.count.ensures in
    let items = c.in_ok-labels.ensures.labels ∙ ap (range_with_len first) same in
    let last = length c.make_labels.new.asm.places in
    record {
      count = ap length items ∙ length-range_with_len first count;
      below = subst (All (λ label. label < last)) (sym items) (numbers_below first count last (omega arith));
    }
