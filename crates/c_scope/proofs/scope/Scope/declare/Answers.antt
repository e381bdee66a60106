use Rattle.std.proofs.Common.{◌≡◌, [], ◌∷◌, ◌++◌, ◌+◌, length, bytes_eq, arith, sym, ap, ◌∙◌}
use Rattle.std.proofs.lemmas.Grind.{common_steps}
use Rattle.c_tree.specs.Blocks.{Frame}
use Rattle.c_scope.specs.BlockNames.{frame_of, frames_of}
use Rattle.c_scope.specs.private.Index.{number_if, declaring}
use Rattle.c_scope.proofs.Declaring.{declared_again, declared_newly, taken_back}
use Rattle.c_scope.proofs.ScopeFrames.{had}
use Rattle.c_scope.proofs.scope.Scope.declare.Goals as goal

pub invariant_of-self-then-is_some : goal.invariant_of-self-then-is_some
invariant_of-self-then-is_some g c =
    let old = c.args.self.now in
    let inserted = c.in_ok-insert.ensures in
    let here = had c.in_ok-insert.field-0 (frame_of old.inner c.args.name.now) _ inserted.before c.if-is_some.ensures in
    record {
      indexed = λ other.
          old.indexed other
          ∙ declared_again (frames_of old.outer.items) (frame_of old.inner) (frame_of c.insert.new.self) c.args.name.now c.args.entry inserted.bound here other;
    }

pub invariant_of-self-in-Ok : goal.invariant_of-self-in-Ok
invariant_of-self-in-Ok g c =
    let old = c.args.self.now in
    let inserted = c.in_ok-insert.ensures in
    let absent = had c.in_ok-insert.field-0 (frame_of old.inner c.args.name.now) _ inserted.before c.if-is_some.ensures in
    let number : c.len.result ≡ 0 + length (frames_of old.outer.items) = grind (arith, common_steps) in
    record {
      indexed = λ other.
          c.in-Ok.ensures.pushed other
          ∙ (ap (λ ns. ns ++ number_if (bytes_eq c.args.name.now other) c.len.result) (old.indexed other)
          ∙ (ap (λ n. declaring 0 (frames_of old.outer.items ++ frame_of old.inner ∷ []) other ++ number_if (bytes_eq c.args.name.now other) n) number
          ∙ declared_newly (frames_of old.outer.items) (frame_of old.inner) (frame_of c.insert.new.self) c.args.name.now c.args.entry inserted.bound absent other));
    }

pub invariant_of-self-in-Err : goal.invariant_of-self-in-Err
invariant_of-self-in-Err g c =
    let old = c.args.self.now in
    let inserted = c.in_ok-insert.ensures in
    let absent = had c.in_ok-insert.field-0 (frame_of old.inner c.args.name.now) _ inserted.before c.if-is_some.ensures in
    let back = taken_back c.args.name.now c.args.entry (frame_of old.inner) (frame_of c.insert.new.self) (frame_of c.remove.new.self) inserted.bound c.remove.ensures absent in
    record {
      indexed = λ other.
          c.in-Err.ensures.refused other ∙ (old.indexed other ∙ ap (λ (f : Frame _). declaring 0 (frames_of old.outer.items ++ f ∷ []) other) (sym back));
    }

pub returns-in-Err-clause-refused : goal.returns-in-Err-clause-refused
returns-in-Err-clause-refused g c =
    let old = c.args.self.now in
    let inserted = c.in_ok-insert.ensures in
    let absent = had c.in_ok-insert.field-0 (frame_of old.inner c.args.name.now) _ inserted.before c.if-is_some.ensures in
    let back = taken_back c.args.name.now c.args.entry (frame_of old.inner) (frame_of c.insert.new.self) (frame_of c.remove.new.self) inserted.bound c.remove.ensures absent in
    ap (λ (f : Frame _). record { outer = frames_of old.outer.items; inner = f }) back
