use Rattle.std.proofs.Common.{length, ap, ◌∙◌, arith}
use Rattle.std.specs.List.{range_with_len}
use Rattle.std.proofs.lemmas.Result.{err_from_is_err_and}
use Rattle.c_tree.specs.View.{items_of}
use Rattle.c_layout.specs.Laid.{Plan}
use Rattle.c_layout.specs.LayoutAnswers.{plan_of}
use Rattle.c_resolve.specs.Routines.{definitions_of}
use Rattle.low_labels.specs.Emission.{Emission, emit_all}
use Rattle.low_expr.specs.Lowering.{fresh_by}
use Rattle.low_stmt.specs.TextCode.{boot_code}
use Rattle.low_stmt.proofs.WordsOfTexts.{boot_words}
use Rattle.low_link.proofs.TextBegins.{begun, main_label, made_lines, only_lack}
use Rattle.low_link.proofs.text.begin.Goals as goal

pub main_label-requires : goal.main_label-requires
main_label-requires c =
    let text = items_of c.args.checked.now.tree in
    let made = c.in_ok-names.ensures in
    (main_label c.in_ok-names.names (length c.new.new.asm.places) text made.labels made.functions c.requires.ready.main).found

pub lower_boot-requires : goal.lower_boot-requires
lower_boot-requires c =
    let text = items_of c.args.checked.now.tree in
    let made = c.in_ok-names.ensures in
    let own = main_label c.in_ok-names.names (length c.new.new.asm.places) text made.labels made.functions c.requires.ready.main in
    omega (arith, own.low, c.in_ok-main.ensures.label)

pub returns-clause-begun : goal.returns-clause-begun
returns-clause-begun c =
    let text = items_of c.args.checked.now.tree in
    let names = c.in_ok-names.names in
    let made = c.in_ok-names.ensures in
    let empty = c.requires.empty in
    let framed = ap (λ (p : Plan). p.frames) c.requires.planned in
    let numbered = made.numbered ∙ ap (λ (e : Emission). range_with_len (length e.places) names.numbers.count) empty in
    let first = made.made ∙ ap (fresh_by (length (definitions_of text))) empty in
    let booted = c.in_ok-lower_boot.ensures.added ∙ ap (λ m. emit_all (boot_code m) c.new.new.asm) c.in_ok-main.ensures.label in
    begun text names made.functions numbered (plan_of c.args.layout.now).frames c.new.new.asm c.lower_boot.new.asm c.requires.ready c.requires.once c.requires.few framed made.scope made.labels first booted

pub returns-in_err-lower_boot-clause-lack : goal.returns-in_err-lower_boot-clause-lack
returns-in_err-lower_boot-clause-lack c =
    let text = items_of c.args.checked.now.tree in
    let p = err_from_is_err_and c.from_residual-in_err-lower_boot.result c.from_residual-in_err-lower_boot.ensures.1 in
    let lines = made_lines (length (definitions_of text)) c.args.asm.now c.new.new.asm c.requires.empty c.in_ok-names.ensures.made in
    let short = boot_words c.in_ok-main.main in
    rw (p.1, p.2)
    (only_lack c.in_err-lower_boot.field-0.0 (λ long. let more = c.in_err-lower_boot.ensures.too_long long in omega (arith, lines, short, more)))
