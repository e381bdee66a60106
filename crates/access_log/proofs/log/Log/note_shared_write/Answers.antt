use Rattle.std.proofs.Common.{◌≡◌, ◌∙◌, ◌∷◌, [], refl, sym, ap}
use Rattle.std.specs.Prelude.{if◌then◌else◌}
use Rattle.access_log.specs.declared.spot.Spot.TheVariants.{Byte}
use Rattle.access_log.specs.Things.{shared_by, is_shared, wrote_after}
use Rattle.access_log.specs.Held.{has}
use Rattle.access_log.proofs.NoteLemmas.{own-read, own-read-again, shared-read, own-write, shared-write, own-written, shared-written, not-read, not-written, not-written-after-fork}
use Rattle.access_log.proofs.RoomLemmas.{same-room}
use Rattle.access_log.proofs.log.Log.note_shared_write.Goals as goal

pub returns-then-self : goal.returns-then-self
returns-then-self c =
    let shared = shared_by c.args.self.now.classes in
    let first = has c.args.self.now.first in
    let wrote = has c.args.self.now.wrote in
    let after = has c.args.self.now.after_fork in
    record {
      holds = record {
        classes = refl;
        forked = refl;
        first = λ x s. c.add_page.ensures.holds x s ∙ shared-write shared first wrote x c.args.at c.requires.shared;
        wrote = λ x s. c.add_page-2.ensures.holds x s ∙ shared-written shared first wrote x c.args.at c.requires.shared;
        after_fork = λ x s. c.add_page-then-self.ensures.holds x s ∙ shared-written shared first after x c.args.at c.requires.shared
            ∙ sym (ap (λ b. if b then wrote_after shared after (Byte c.args.at ∷ []) x else after x) c.if-self.true);
      };
      room = λ x. same-room (is_shared shared x) (c.add_page.ensures.room x) (c.add_page-2.ensures.room x) (c.add_page-then-self.ensures.room x);
    }

pub returns-else-self : goal.returns-else-self
returns-else-self c =
    let shared = shared_by c.args.self.now.classes in
    let first = has c.args.self.now.first in
    let wrote = has c.args.self.now.wrote in
    let after = has c.args.self.now.after_fork in
    record {
      holds = record {
        classes = refl;
        forked = refl;
        first = λ x s. c.add_page.ensures.holds x s ∙ shared-write shared first wrote x c.args.at c.requires.shared;
        wrote = λ x s. c.add_page-2.ensures.holds x s ∙ shared-written shared first wrote x c.args.at c.requires.shared;
        after_fork = λ x s. sym (ap (λ b. if b then wrote_after shared after (Byte c.args.at ∷ []) x else after x) c.if-self.false);
      };
      room = λ x. same-room (is_shared shared x) (c.add_page.ensures.room x) (c.add_page-2.ensures.room x) refl;
    }
