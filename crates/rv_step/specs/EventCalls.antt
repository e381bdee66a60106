-- The calls of the machine that are events, with their arguments in a0, a1 and a2.
use Rattle.std.specs.Prelude.{ℕ, List, Option, Some, None}
use Rattle.ppr_regions.specs.declared.event.Event.{Event}
use Rattle.ppr_regions.specs.declared.event.Event.TheVariants as event
use Rattle.rv_code.specs.declared.effect.Call.{Call}
use Rattle.rv_code.specs.declared.effect.Call.TheVariants as call
use Rattle.rv_code.specs.declared.effect.Effect.{Effect}
use Rattle.rv_code.specs.declared.effect.Effect.TheVariants.{Calls}
use Rattle.rv_code.specs.declared.instr.Instr.{Instr}
use Rattle.rv_code.specs.State.{register}
use Rattle.rv_code.specs.Step.{asks, fetch}
use Rattle.rv_code.specs.Decode.{instr_of}
use Rattle.rv_step.specs.declared.stepped.Stepped.{Stepped}
use Rattle.rv_step.specs.declared.stepped.Stepped.TheVariants.{Marked}

abbrev pub event_of_call : Call → List ℕ → Option Event
event_of_call call.Begin x = Some (event.Begin (register x 10))
event_of_call call.End x = Some (event.End (register x 10))
event_of_call call.Post x = Some (event.Post (register x 10) (register x 11) (register x 12))
event_of_call call.Wait x = Some (event.Wait (register x 10))
event_of_call which x = None

abbrev pub event_of_effect : Effect → List ℕ → Option Event
event_of_effect (Calls which) x = event_of_call which x
event_of_effect effect x = None

abbrev pub event_of_instr : Option Instr → (x : List ℕ) (pc : ℕ) → Option Event
event_of_instr None x pc = None
event_of_instr (Some i) x pc = event_of_effect (asks i x pc) x

abbrev pub event_of_word : Option ℕ → (x : List ℕ) (pc : ℕ) → Option Event
event_of_word None x pc = None
event_of_word (Some word) x pc = event_of_instr (instr_of word) x pc

-- the event at a pc of the code, where the registers are these
abbrev pub event_at : (code x : List ℕ) (pc : ℕ) → Option Event
event_at code x pc = event_of_word (fetch code pc) x pc

-- the event that a step answers
abbrev pub event_of : Stepped → Option Event
event_of (Marked event) = Some event
event_of answer = None
