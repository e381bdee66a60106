-- The verdict: the first conflict, in the order of pc, registers, cursor, pages, and in a page of its
-- bytes. Only what was first touched is tested. A register, the cursor and a checked byte conflict
-- where their values differ. A shared page and a private byte conflict where they have changed. They
-- could differ otherwise too, which is Stale; a page that was received is tested by its value alone.
use Rattle.std.specs.Prelude.{ℕ, ◌==◌, Bool, true, if◌then◌else◌, List, Option, Some, None}
use Rattle.bop_bits.specs.BitSets.{is_in}
use Rattle.bop_bits.specs.Class.{class_of}
use Rattle.bop_bits.specs.MemoryNumbers.{byte_at}
use Rattle.bop_bits.specs.declared.class.Class.{Class}
use Rattle.bop_bits.specs.declared.class.Class.TheVariants as class
use Rattle.bop_bits.specs.declared.map.TheConstants.{PAGES, PAGE_BYTES}
use Rattle.access_log.specs.Held.{has}
use Rattle.access_log.specs.declared.places.Places.{Places}
use Rattle.access_log.specs.declared.spot.Spot.{Spot}
use Rattle.access_log.specs.declared.spot.Spot.TheVariants as spot
use Rattle.rv_code.specs.State.{register}
use Rattle.rv_step.specs.declared.cpu.Cpu.{Cpu}
use Rattle.rv_step.specs.declared.job.Job.{Job}
use Rattle.rv_step.specs.declared.record.Record.{Record}
use Rattle.rv_step.specs.declared.state.State.{State}
use Rattle.value_check.specs.FirstDifference.{address_of, first_difference}
use Rattle.value_check.specs.FirstOf.{first_of, or_else}
use Rattle.value_check.specs.declared.difference.Difference.{Difference}
use Rattle.conflict_check.specs.declared.conflict.Conflict.{Conflict}
use Rattle.conflict_check.specs.declared.conflict.Conflict.TheVariants.{Pc, Register, Cursor, Page, Byte, Value, Stale}

-- two values that differ, as a conflict
abbrev pub unless_same : (seen now : ℕ) → (conflict : ℕ → ℕ → Conflict) → Option Conflict
unless_same seen now conflict = if now == seen then None else Some (conflict seen now)

-- a byte that differs, as a conflict
abbrev pub as_conflict : (conflict : ℕ → ℕ → ℕ → Conflict) → Option Difference → Option Conflict
as_conflict conflict None = None
as_conflict conflict (Some d) = Some (conflict d.address d.seen d.now)

-- a byte by the class of its page; the bytes of a shared page are tested together
abbrev pub byte_test : Class → (changed : Bool) → (at seen now : ℕ) → Option Conflict
byte_test class.Checked changed at seen now = unless_same seen now (Value at)
byte_test class.Private changed at seen now =
    if changed then Some (Byte at) else unless_same seen now (Stale at)
byte_test class.Shared changed at seen now = None

-- a shared page, by whether it was received, whether it has changed, and its first byte that differs
abbrev pub page_test : (page : ℕ) → (received changed : Bool) → Option Difference → Option Conflict
page_test page received changed difference =
    if received then as_conflict Value difference
    else if changed then Some (Page page)
    else as_conflict Stale difference

-- pc, registers and cursor, by what was first touched
module _ (first : Spot → Bool) (seen now : Cpu) where
  abbrev pub register_conflict : ℕ → Option Conflict
  register_conflict r =
      if first (spot.Register r) then unless_same (register seen.x r) (register now.x r) (Register r)
      else None

  abbrev pub cursor_conflict : Option Conflict
  cursor_conflict = if first spot.Cursor then unless_same seen.cursor now.cursor Cursor else None

  abbrev pub core_conflict : Option Conflict
  core_conflict =
      or_else (unless_same seen.pc now.pc Pc) (or_else (first_of register_conflict 32) cursor_conflict)

-- pages, by what was first touched and what has changed
module _ (first changed : Spot → Bool) (seen now : List ℕ) where
  abbrev pub byte_conflict : Class → (page place : ℕ) → Option Conflict
  byte_conflict kind page place =
      if first (spot.Byte (address_of page place))
      then byte_test kind (changed (spot.Byte (address_of page place))) (address_of page place)
      (byte_at seen (address_of page place)) (byte_at now (address_of page place))
      else None

  -- a shared page is known by its first byte, since all of them are one thing
  abbrev pub shared_conflict : (received : Bool) → (page : ℕ) → Option Conflict
  shared_conflict received page =
      if first (spot.Byte (address_of page 0))
      then page_test page received (changed (spot.Byte (address_of page 0)))
      (first_difference now seen page (λ place. true))
      else None

  abbrev pub page_conflict : Class → (received : Bool) → (page : ℕ) → Option Conflict
  page_conflict class.Shared received page = shared_conflict received page
  page_conflict class.Checked received page = first_of (byte_conflict class.Checked page) PAGE_BYTES
  page_conflict class.Private received page = first_of (byte_conflict class.Private page) PAGE_BYTES

-- the conflict of one page
abbrev pub conflict_of_page : Job → State → (changed : Places) → Record → (page : ℕ) → Option Conflict
conflict_of_page job truth changed done page =
    page_conflict (has done.log.first) (has changed) done.start.image.bytes truth.image.bytes
    (class_of job.program.classes page) (is_in done.start.received.words page) page

abbrev pub verdict : Job → State → (changed : Places) → Record → Option Conflict
verdict job truth changed done =
    or_else (core_conflict (has done.log.first) done.start.cpu truth.cpu)
    (first_of (conflict_of_page job truth changed done) PAGES)
