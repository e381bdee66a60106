-- When the machine's state is that of the meaning's store, and what else code may take for granted
-- and has to keep.
use Rattle.std.specs.Prelude.{◌≡◌, ℕ, ◌+◌, ◌-◌, ◌*◌, ◌%◌, ◌^◌, ◌<◌, ◌≤◌, ◌⊎◌, List, [], ◌∷◌, length, true, Option, Some, None, slice_get, slice_index}
use Rattle.std.specs.List.{list_any}
use Rattle.bop_bits.specs.declared.map.TheConstants.{DATA_FROM, STACK_FROM, STACK_TO, MEMORY_BYTES}
use Rattle.bop_bits.specs.MemoryNumbers.{byte_at, number_at}
use Rattle.rv_code.specs.State.{State, register}
use Rattle.c_semantics.specs.declared.object.Object.{Object}
use Rattle.c_semantics.specs.Memory.{holds}
use Rattle.c_semantics.specs.Run.{Store}
use Rattle.low_expr.specs.Registers.{sp, a0}

-- an object that lives has the byte
abbrev pub Lives : Store → ℕ → Type 0
Lives store at = list_any (holds at 1) store.live ≡ true

-- objects of data and stack
abbrev pub AreInside : List Object → Type 0
AreInside [] = Unit {0}
AreInside (o ∷ os) = (DATA_FROM ≤ o.address) × (o.address + o.size ≤ STACK_TO) × AreInside os

-- The stack pointer, the cursor and the output are the same, and so is each byte that lives and
-- was written. Of other bytes, and of other registers, nothing is said.
pub record Agrees (store : Store) (s : State) : Type 0 where
  pub bytes : (at v : ℕ) → Lives store at → slice_get store.bytes (at - DATA_FROM) ≡ Some (Some v)
      → byte_at s.memory at ≡ v
  pub small : (i : ℕ) → slice_index s.memory i < 2 ^ 8
  pub stack : register s.registers sp ≡ store.sp
  pub cursor : s.cursor ≡ store.cursor
  pub output : s.output ≡ store.output
  pub memory : length s.memory ≡ MEMORY_BYTES
  pub registers : length s.registers ≡ 32
  pub cells : length store.bytes ≡ MEMORY_BYTES

-- The frame of a call: so many slots, from the stack pointer on. No object lives in them, nor in
-- the stack below them.
pub record Framed (frame slots : ℕ) (store : Store) : Type 0 where
  pub is : store.sp ≡ frame
  pub aligned : frame % 4 ≡ 0
  pub above : STACK_FROM ≤ frame
  pub within : frame + 4 * slots ≤ STACK_TO
  pub apart : (at : ℕ) → STACK_FROM ≤ at → at < frame + 4 * slots → Lives store at → ⊥
  pub inside : AreInside store.live

-- From the stack pointer on, a byte that doesn't live is as it was, but for the slots from one on
-- to before another.
pub record Keeps (store : Store) (from to : ℕ) (before after : List ℕ) : Type 0 where
  pub by : (at : ℕ) → store.sp ≤ at → (Lives store at → ⊥)
      → (at < store.sp + 4 * from) ⊎ (store.sp + 4 * to ≤ at)
      → byte_at after at ≡ byte_at before at

-- the value is in a slot
abbrev pub InSlot : (frame slot v : ℕ) → State → Type 0
InSlot frame slot v s = number_at s.memory (frame + 4 * slot) 4 ≡ v

-- the values are in slots, from one on
abbrev pub InSlots : (frame slot : ℕ) → List ℕ → State → Type 0
InSlots frame slot [] s = Unit {0}
InSlots frame slot (v ∷ vs) s = InSlot frame slot v s × InSlots frame (slot + 1) vs s

-- the arguments are in registers, from one on
abbrev pub Passed : (r : ℕ) → List ℕ → State → Type 0
Passed r [] s = Unit {0}
Passed r (v ∷ vs) s = (register s.registers r ≡ v) × (v < 2 ^ 32) × Passed (r + 1) vs s

-- the value of a call, where it has one, is in the first of these registers
abbrev pub Returned : Option ℕ → State → Type 0
Returned None s = Unit {0}
Returned (Some v) s = (register s.registers a0 ≡ v) × (v < 2 ^ 32)
