use Rattle.std.proofs.Common.{◌*◌, ap, ◌∙◌, map}
use Rattle.c_tree.specs.View.{param_of, stmts_of}
use Rattle.c_layout.specs.private.Capped.{narrow}
use Rattle.c_layout.specs.Frames.{offsets_from, end_from}
use Rattle.c_layout.proofs.Narrow.{frame_too_large, frame_is}
use Rattle.c_layout.proofs.frame.frame_of.Goals as goal

pub returns-then-size-gt-FRAME_BYTES : goal.returns-then-size-gt-FRAME_BYTES
returns-then-size-gt-FRAME_BYTES c =
    let rooms = c.deref.ensures.value ∙ c.in_ok-rooms.ensures in
    let ends = c.in_ok-line.ensures.end ∙ ap (λ rs. narrow (end_from (4 * c.body_slots-slots.result) rs)) rooms in
    frame_too_large (map param_of c.args.params.now) (stmts_of c.args.body.now) c.body_slots-slots.result c.in_ok-line.line.end c.round_up-size.result
    c.body_slots-slots.ensures ends c.round_up-size.ensures c.if-size-gt-FRAME_BYTES.true

pub returns : goal.returns
returns c =
    let rooms = c.deref.ensures.value ∙ c.in_ok-rooms.ensures in
    let ends = c.in_ok-line.ensures.end ∙ ap (λ rs. narrow (end_from (4 * c.body_slots-slots.result) rs)) rooms in
    let stand = c.in_ok-line.ensures.places ∙ ap (λ rs. map narrow (offsets_from (4 * c.body_slots-slots.result) rs)) rooms in
    frame_is (map param_of c.args.params.now) (stmts_of c.args.body.now) c.body_slots-slots.result c.in_ok-line.line.end c.round_up-size.result c.in_ok-line.line.places.items
    c.body_slots-slots.ensures ends c.round_up-size.ensures c.if-size-gt-FRAME_BYTES.false stand
