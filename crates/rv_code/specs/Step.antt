-- The machine's step: one instruction, or one call of the machine.
use Rattle.std.specs.Prelude.{ℕ, ◌+◌, ◌-◌, ◌*◌, ◌/◌, ◌%◌, ◌^◌, ◌==◌, ◌&&◌, Bool, true, false, nat_le, if◌then◌else◌, List, [], ◌∷◌, ◌++◌, Option, Some, None, slice_get}
use Rattle.std.specs.Int.{w32, cast_signed}
use Rattle.bop_bits.specs.declared.map.TheConstants.{CODE_FROM}
use Rattle.bop_bits.specs.MemoryNumbers.{number_at, with_number, is_in_memory}
use Rattle.rv_code.specs.declared.call.TheConstants.{A0}
use Rattle.rv_code.specs.declared.effect.Call.{Call}
use Rattle.rv_code.specs.declared.effect.Call.TheVariants as call
use Rattle.rv_code.specs.declared.effect.Effect.{Effect}
use Rattle.rv_code.specs.declared.effect.Effect.TheVariants.{Sets, Loads, Stores, Jumps, Links, Proceeds, Breaks, Calls}
use Rattle.rv_code.specs.declared.instr.Instr.{Instr}
use Rattle.rv_code.specs.declared.stop.Trap.{Trap}
use Rattle.rv_code.specs.declared.stop.Trap.TheVariants as trap
use Rattle.rv_code.specs.declared.stop.Stop.{Stop}
use Rattle.rv_code.specs.declared.stop.Stop.TheVariants as stop
use Rattle.rv_code.specs.State.{State, Machine, Running, Stopped, register, with_register}
use Rattle.rv_code.specs.Word.{sum, extended}
use Rattle.rv_code.specs.Table.{first_register, second_register}
use Rattle.rv_code.specs.Effects.{effect_of}
use Rattle.rv_code.specs.Decode.{instr_of}

-- a step that stops counts, and changes nothing else
abbrev pub halts : State → Stop → Machine
halts s how = Stopped (record s { count = s.count + 1 }) how

abbrev pub traps : State → Trap → Machine
traps s why = halts s (stop.Trap why s.pc)

-- a step that goes on at an address
abbrev pub goes_to : State → ℕ → Machine
goes_to s to = Running (record s { pc = to; count = s.count + 1 })

-- the address of the next instruction
abbrev pub next : State → ℕ
next s = sum s.pc 4

abbrev pub goes_on : State → Machine
goes_on s = goes_to s (next s)

-- a state with a register written
abbrev pub with_x : State → (r value : ℕ) → State
with_x s r value = record s { registers = with_register s.registers r value }

-- a step that writes a register
abbrev pub writes : State → (rd value : ℕ) → Machine
writes s rd value = goes_on (with_x s rd value)

-- call 1: the byte at the cursor, or -1 at the input's end
abbrev pub gets : State → Option ℕ → Machine
gets s None = writes s A0 (2 ^ 32 - 1)
gets s (Some byte) = writes (record s { cursor = s.cursor + 1 }) A0 byte

-- call 2: a byte is put out
abbrev pub puts : State → ℕ → Machine
puts s byte = writes (record s { output = s.output ++ byte ∷ [] }) A0 byte

-- the calls of regions and hints change the pc alone
abbrev pub calls : List ℕ → State → Call → Machine
calls input s call.Exit = halts s (stop.Exit (cast_signed w32 (register s.registers A0)))
calls input s call.Get = gets s (slice_get input s.cursor)
calls input s call.Put = puts s (register s.registers A0 % 256)
calls input s call.Begin = goes_on s
calls input s call.End = goes_on s
calls input s call.Post = goes_on s
calls input s call.Wait = goes_on s
calls input s call.StackFull = halts s stop.StackFull
calls input s call.Unknown = traps s trap.Call

-- the alignment is tested before the range
abbrev pub loads : State → (rd at size : ℕ) (signed aligned inside : Bool) → Machine
loads s rd at size signed false inside = traps s trap.LoadAlign
loads s rd at size signed true false = traps s trap.Load
loads s rd at size signed true true =
    writes s rd (extended signed size (number_at s.memory at size))

abbrev pub stores : State → (at size value : ℕ) (aligned inside : Bool) → Machine
stores s at size value false inside = traps s trap.StoreAlign
stores s at size value true false = traps s trap.Store
stores s at size value true true =
    goes_on (record s { memory = with_number s.memory at size value })

-- a jump that traps writes no register
abbrev pub jumps : State → (to : ℕ) (aligned : Bool) → Machine
jumps s to false = traps s trap.JumpAlign
jumps s to true = goes_to s to

abbrev pub links : State → (rd to : ℕ) (aligned : Bool) → Machine
links s rd to false = traps s trap.JumpAlign
links s rd to true = goes_to (with_x s rd (next s)) to

-- an effect is carried out
abbrev pub performs : List ℕ → State → Effect → Machine
performs input s (Sets rd value) = writes s rd value
performs input s (Loads rd at size signed) =
    loads s rd at size signed (at % size == 0) (is_in_memory at)
performs input s (Stores at size value) =
    stores s at size value (at % size == 0) (is_in_memory at)
performs input s (Jumps to) = jumps s to (to % 4 == 0)
performs input s (Links rd to) = links s rd to (to % 4 == 0)
performs input s Proceeds = goes_on s
performs input s Breaks = traps s trap.Break
performs input s (Calls which) = calls input s which

-- what an instruction asks for, where the registers and the pc are these
abbrev pub asks : Instr → (registers : List ℕ) (pc : ℕ) → Effect
asks i registers pc =
    effect_of i pc (register registers (first_register i)) (register registers (second_register i))

abbrev pub acts : List ℕ → State → Option Instr → Machine
acts input s None = traps s trap.Illegal
acts input s (Some i) = performs input s (asks i s.registers s.pc)

-- the address of a word of the code, by its place
abbrev pub address_of : ℕ → ℕ
address_of place = CODE_FROM + 4 * place

-- the word at an address of the code
abbrev pub fetch : List ℕ → ℕ → Option ℕ
fetch code pc = if nat_le CODE_FROM pc && (pc % 4 == 0) then slice_get code ((pc - CODE_FROM) / 4)
    else None

abbrev pub executes : List ℕ → State → Option ℕ → Machine
executes input s None = traps s trap.Fetch
executes input s (Some word) = acts input s (instr_of word)

-- one step; a machine that has stopped stays
abbrev pub step : List ℕ → List ℕ → Machine → Machine
step code input (Running s) = executes input s (fetch code s.pc)
step code input (Stopped s how) = Stopped s how
