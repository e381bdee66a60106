-- What a step reads and what it writes: registers other than x0, bytes, and the input's cursor. The
-- pc is not among them, and neither is the code: a fetch reads nothing.
use Rattle.std.specs.Prelude.{ℕ, zero, suc, ◌+◌, ◌%◌, ◌==◌, Bool, true, false, nat_le, if◌then◌else◌, List, [], ◌∷◌, Option, Some, None}
use Rattle.bop_bits.specs.MemoryNumbers.{byte_at, is_in_memory}
use Rattle.bop_bits.specs.declared.map.TheConstants.{DATA_FROM}
use Rattle.access_log.specs.declared.spot.Spot.{Spot}
use Rattle.access_log.specs.declared.spot.Spot.TheVariants.{Register, Cursor, Byte}
use Rattle.rv_code.specs.declared.call.TheConstants.{A0}
use Rattle.rv_code.specs.declared.effect.Call.{Call}
use Rattle.rv_code.specs.declared.effect.Call.TheVariants as call
use Rattle.rv_code.specs.declared.effect.Effect.{Effect}
use Rattle.rv_code.specs.declared.effect.Effect.TheVariants.{Sets, Loads, Stores, Jumps, Links, Proceeds, Breaks, Calls}
use Rattle.rv_code.specs.declared.instr.Instr.{Instr}
use Rattle.rv_code.specs.Decode.{instr_of}
use Rattle.rv_code.specs.State.{State, Machine, Running, Stopped, register}
use Rattle.rv_code.specs.Step.{asks, fetch}
use Rattle.rv_code.specs.Table.{first_register, second_register}

-- what a state has at a spot; outside data and stack there is nothing
abbrev pub content : State → Spot → ℕ
content s (Register r) = register s.registers r
content s Cursor = s.cursor
content s (Byte at) = if nat_le DATA_FROM at then byte_at s.memory at else 0

-- so many bytes from an address on
abbrev pub span : (at size : ℕ) → List Spot
span at zero = []
span at (suc n) = Byte at ∷ span (at + 1) n

-- an access that traps touches no memory
abbrev pub unless_trapped : (aligned inside : Bool) → List Spot → List Spot
unless_trapped true true spots = spots
unless_trapped true false spots = []
unless_trapped false inside spots = []

-- the arguments of a call, and the cursor
abbrev pub call_reads : Call → List Spot
call_reads call.Exit = Register A0 ∷ []
call_reads call.Get = Cursor ∷ []
call_reads call.Put = Register A0 ∷ []
call_reads call.Begin = Register A0 ∷ []
call_reads call.End = Register A0 ∷ []
call_reads call.Post = Register A0 ∷ Register 11 ∷ Register 12 ∷ []
call_reads call.Wait = Register A0 ∷ []
call_reads call.StackFull = []
call_reads call.Unknown = []

abbrev pub call_writes : Call → List Spot
call_writes call.Get = Cursor ∷ Register A0 ∷ []
call_writes call.Put = Register A0 ∷ []
call_writes call.Exit = []
call_writes call.Begin = []
call_writes call.End = []
call_writes call.Post = []
call_writes call.Wait = []
call_writes call.StackFull = []
call_writes call.Unknown = []

-- what an effect reads beside the operands of its instruction
abbrev pub effect_reads : Effect → List Spot
effect_reads (Loads rd at size signed) =
    unless_trapped (at % size == 0) (is_in_memory at) (span at size)
effect_reads (Calls which) = call_reads which
effect_reads (Sets rd value) = []
effect_reads (Stores at size value) = []
effect_reads (Jumps to) = []
effect_reads (Links rd to) = []
effect_reads Proceeds = []
effect_reads Breaks = []

-- what an effect writes; one that stops the machine writes nothing
abbrev pub effect_writes : Effect → List Spot
effect_writes (Sets rd value) = Register rd ∷ []
effect_writes (Loads rd at size signed) =
    unless_trapped (at % size == 0) (is_in_memory at) (Register rd ∷ [])
effect_writes (Stores at size value) =
    unless_trapped (at % size == 0) (is_in_memory at) (span at size)
effect_writes (Links rd to) = unless_trapped (to % 4 == 0) true (Register rd ∷ [])
effect_writes (Calls which) = call_writes which
effect_writes (Jumps to) = []
effect_writes Proceeds = []
effect_writes Breaks = []

abbrev pub instr_reads : Option Instr → (registers : List ℕ) (pc : ℕ) → List Spot
instr_reads None registers pc = []
instr_reads (Some i) registers pc =
    Register (first_register i) ∷ Register (second_register i) ∷ effect_reads (asks i registers pc)

abbrev pub instr_writes : Option Instr → (registers : List ℕ) (pc : ℕ) → List Spot
instr_writes None registers pc = []
instr_writes (Some i) registers pc = effect_writes (asks i registers pc)

abbrev pub word_reads : Option ℕ → (registers : List ℕ) (pc : ℕ) → List Spot
word_reads None registers pc = []
word_reads (Some word) registers pc = instr_reads (instr_of word) registers pc

abbrev pub word_writes : Option ℕ → (registers : List ℕ) (pc : ℕ) → List Spot
word_writes None registers pc = []
word_writes (Some word) registers pc = instr_writes (instr_of word) registers pc

-- what an instruction at a pc of the code reads, and what it writes, where the registers are these
abbrev pub reads_at : (code registers : List ℕ) (pc : ℕ) → List Spot
reads_at code registers pc = word_reads (fetch code pc) registers pc

abbrev pub writes_at : (code registers : List ℕ) (pc : ℕ) → List Spot
writes_at code registers pc = word_writes (fetch code pc) registers pc

-- what the next step of a machine reads, and what it writes: nothing where it has stopped
abbrev pub step_reads : (code : List ℕ) → Machine → List Spot
step_reads code (Running s) = reads_at code s.registers s.pc
step_reads code (Stopped s how) = []

abbrev pub step_writes : (code : List ℕ) → Machine → List Spot
step_writes code (Running s) = writes_at code s.registers s.pc
step_writes code (Stopped s how) = []
