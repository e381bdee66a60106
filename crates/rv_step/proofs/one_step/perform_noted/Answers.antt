use Rattle.std.proofs.Common.{[], ◌∷◌}
use Rattle.access_log.specs.declared.spot.Spot.TheVariants.{Register}
use Rattle.rv_code.specs.Table.{first_register, second_register}
use Rattle.rv_step.specs.Footprint.{effect_reads, effect_writes}
use Rattle.rv_step.proofs.NotingLemmas.{room-kept, step-noted}
use Rattle.rv_step.proofs.one_step.perform_noted.Goals as goal

pub note_effect-requires : goal.note_effect-requires
note_effect-requires c = record {
  effect = c.requires.effect;
  room = room-kept c.make_room.new.log c.note_operands.new.log c.args.effect c.note_operands.ensures.room c.in-Ok.ensures.room;
}

pub returns-in_default-perform : goal.returns-in_default-perform
returns-in_default-perform c =
    let i = c.args.instr.now in
    record {
      step = c.perform.ensures.step;
      event = λ other. c.perform.ensures.event;
      noted = λ other. step-noted c.args.log.now c.make_room.new.log c.note_operands.new.log c.note_effect.new.log
          (Register (first_register i) ∷ Register (second_register i) ∷ []) (effect_reads c.args.effect) (effect_writes c.args.effect)
          c.make_room.ensures.holds c.note_operands.ensures c.note_effect.ensures;
      unnoted = λ e. absurd (c.in_default-perform.not-NoMemory e);
      kept = c.perform.ensures.kept;
    }
