use Rattle.std.proofs.Common.{◌≡◌, ◌∙◌, ◌∷◌, [], refl, sym, ap}
use Rattle.std.specs.Prelude.{◌&&◌, ◌||◌}
use Rattle.access_log.specs.declared.spot.Spot.TheVariants.{Byte}
use Rattle.access_log.specs.Things.{shared_by, is_shared, wrote_after}
use Rattle.access_log.specs.Held.{has, has_room}
use Rattle.access_log.proofs.NoteLemmas.{own-read, own-read-again, shared-read, own-write, shared-write, own-written, shared-written, not-read, not-written, not-written-after-fork}
use Rattle.access_log.proofs.log.Log.note_own_read.Goals as goal

pub returns-then-not-has : goal.returns-then-not-has
returns-then-not-has c =
    let shared = shared_by c.args.self.now.classes in
    let first = has c.args.self.now.first in
    let wrote = has c.args.self.now.wrote in
    let after = has c.args.self.now.after_fork in
    record {
      holds = record {
        classes = refl;
        forked = refl;
        first = λ x s. c.add.ensures.holds x s
            ∙ own-read shared first wrote x c.args.spot c.requires.own (sym c.has.ensures ∙ c.if-not-has.true);
        wrote = λ x s. not-written shared first wrote x;
        after_fork = λ x s. not-written-after-fork shared first after c.args.self.now.forked x;
      };
      room = λ x. ap (λ r. is_shared shared x || (r && (has_room c.args.self.now.wrote x && has_room c.args.self.now.after_fork x)))
          (c.add.ensures.room x);
    }

pub returns-else-not-has : goal.returns-else-not-has
returns-else-not-has c =
    let shared = shared_by c.args.self.now.classes in
    let first = has c.args.self.now.first in
    let wrote = has c.args.self.now.wrote in
    let after = has c.args.self.now.after_fork in
    record {
      holds = record {
        classes = refl;
        forked = refl;
        first = λ x s. own-read-again shared first wrote x c.args.spot c.requires.own (sym c.has.ensures ∙ c.if-not-has.false);
        wrote = λ x s. not-written shared first wrote x;
        after_fork = λ x s. not-written-after-fork shared first after c.args.self.now.forked x;
      };
      room = λ x. refl;
    }
