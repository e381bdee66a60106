use Rattle.std.proofs.Common.{◌≡◌, ◌∙◌, ◌∷◌, [], refl, sym, ap}
use Rattle.std.specs.Prelude.{if◌then◌else◌}
use Rattle.access_log.specs.declared.spot.Spot.TheVariants.{Byte}
use Rattle.access_log.specs.Things.{shared_by, is_shared, wrote_after}
use Rattle.access_log.specs.Held.{has}
use Rattle.access_log.proofs.NoteLemmas.{own-read, own-read-again, shared-read, own-write, shared-write, own-written, shared-written, not-read, not-written, not-written-after-fork}
use Rattle.access_log.proofs.RoomLemmas.{same-room}
use Rattle.access_log.proofs.log.Log.note_own_write.Goals as goal

pub returns-then-self : goal.returns-then-self
returns-then-self c =
    let shared = shared_by c.args.self.now.classes in
    let first = has c.args.self.now.first in
    let wrote = has c.args.self.now.wrote in
    let after = has c.args.self.now.after_fork in
    record {
      holds = record {
        classes = refl;
        forked = refl;
        first = λ x s. own-write shared first wrote x c.args.spot c.requires.own;
        wrote = λ x s. c.add.ensures.holds x s ∙ own-written shared first wrote x c.args.spot c.requires.own;
        after_fork = λ x s. c.add-then-self.ensures.holds x s ∙ own-written shared first after x c.args.spot c.requires.own
            ∙ sym (ap (λ b. if b then wrote_after shared after (c.args.spot ∷ []) x else after x) c.if-self.true);
      };
      room = λ x. same-room (is_shared shared x) refl (c.add.ensures.room x) (c.add-then-self.ensures.room x);
    }

pub returns-else-self : goal.returns-else-self
returns-else-self c =
    let shared = shared_by c.args.self.now.classes in
    let first = has c.args.self.now.first in
    let wrote = has c.args.self.now.wrote in
    let after = has c.args.self.now.after_fork in
    record {
      holds = record {
        classes = refl;
        forked = refl;
        first = λ x s. own-write shared first wrote x c.args.spot c.requires.own;
        wrote = λ x s. c.add.ensures.holds x s ∙ own-written shared first wrote x c.args.spot c.requires.own;
        after_fork = λ x s. sym (ap (λ b. if b then wrote_after shared after (c.args.spot ∷ []) x else after x) c.if-self.false);
      };
      room = λ x. same-room (is_shared shared x) refl (c.add.ensures.room x) refl;
    }
