use Rattle.std.proofs.Common.{◌≤◌, List, ℕ, length, sym, subst, ap, ◌∙◌}
use Rattle.bop_bits.specs.declared.map.TheConstants.{CODE_WORDS}
use Rattle.c_layout.specs.Laid.{Plan}
use Rattle.c_tree.specs.declared.tree.Tree.{Tree}
use Rattle.c_tree.specs.View.{items_of}
use Rattle.low_labels.specs.Closed.{words_of}
use Rattle.low_stmt.specs.TextCode.{data_of}
use Rattle.low_stmt.proofs.ClosedCode.{short_text}
use Rattle.low_link.proofs.Assembled.{assembled}
use Rattle.low_link.proofs.compiler.assemble.Goals as goal

pub returns-clause-program : goal.returns-clause-program
returns-clause-program c =
    let lowered = c.in_ok-lowered.lowered in
    let same = ap (λ (t : Tree). data_of (items_of t)) c.tree.ensures.same in
    assembled (items_of c.args.checked.now.tree) lowered.asm c.of.result c.of-2.result lowered.ends
    c.classes.result c.in_ok-lowered.ensures.code (c.of.ensures ∙ c.in_ok-code.ensures.words)
    (c.of-2.ensures ∙ (c.in_ok-bytes.ensures ∙ same))
    (c.classes.ensures ∙ ap (λ (p : Plan). p.classes) c.requires.planned) c.in_ok-lowered.ensures.ends

pub returns-clause-code_fits : goal.returns-clause-code_fits
returns-clause-code_fits c =
    let text = items_of c.args.checked.now.tree in
    let words = c.of.ensures ∙ (c.in_ok-code.ensures.words ∙ ap words_of c.in_ok-lowered.ensures.code) in
    subst (λ (code : List ℕ). length code ≤ CODE_WORDS) (sym words) (short_text text c.requires.ready c.requires.few)
