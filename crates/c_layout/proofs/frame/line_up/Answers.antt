use Rattle.std.proofs.Common.{◌≡◌, ◌+◌, ◌∷◌, ◌++◌, get_or, drop, map, ap, sym, ◌∙◌, arith, add-one, drop-cons}
use Rattle.c_layout.specs.private.Capped.{narrow}
use Rattle.c_layout.specs.Frames.{offsets_from, end_from}
use Rattle.c_layout.proofs.Narrow.{offset_next, end_next}
use Rattle.c_layout.proofs.frame.line_up.Goals as goal

pub loop-room-preserved : goal.loop-room-preserved
loop-room-preserved c =
    let i = c.loop-room.room-index in
    let rooms = c.args.rooms.now in
    let at = c.loop-room.at in
    let room = get_or rooms i 0 in
    let rest = drop (i + 1) rooms in
    let old = c.loop-room.places.items in
    let here : drop i rooms ≡ room ∷ rest = rw (add-one) (drop-cons rooms i 0 c.loop-room-test.true) in
    let next : c.min-at.result ≡ narrow (at + room) = omega arith in
    record {
      limit = omega arith;
      places =
          ap (λ ps. ps ++ map narrow (offsets_from c.min-at.result rest)) c.in_ok-push.ensures.items
          ∙ offset_next at room c.min-at.result old rest c.loop-room.invariant.limit next
          ∙ ap (λ rs. old ++ map narrow (offsets_from at rs)) (sym here)
          ∙ c.loop-room.invariant.places;
      end = end_next at room c.min-at.result rest next ∙ ap (λ rs. narrow (end_from at rs)) (sym here) ∙ c.loop-room.invariant.end;
    }
