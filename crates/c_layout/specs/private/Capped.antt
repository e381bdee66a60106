-- Numbers up to limits that no layout comes to: beyond them only that they are beyond counts.
use Rattle.std.specs.Prelude.{ℕ, min}
use Rattle.c_layout.specs.declared.limits.TheConstants.{FAR, MANY, WIDE}
use Rattle.c_layout.specs.declared.next.Next.{Next}
use Rattle.c_layout.specs.Globals.{Cursors}

-- an address or a size
abbrev pub near : ℕ → ℕ
near n = min n FAR

-- a number of slots
abbrev pub few : ℕ → ℕ
few n = min n MANY

-- an offset within a frame
abbrev pub narrow : ℕ → ℕ
narrow n = min n WIDE

abbrev pub cursors_of : Next → Cursors
cursors_of next = record { shared = next.shared; checked = next.checked; private = next.private }
