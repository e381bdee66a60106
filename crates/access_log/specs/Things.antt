-- The tested things: a whole shared page, a byte of another page, a register other than x0, the
-- cursor. A set of things is a test on spots, which answers alike at all spots of one thing.
use Rattle.std.specs.Prelude.{ℕ, ◌==◌, ◌&&◌, ◌||◌, ◌≤◌, ◌<◌, not, Bool, true, false, List, [], ◌∷◌}
use Rattle.bop_bits.specs.Class.{class_of}
use Rattle.bop_bits.specs.Pages.{page_of}
use Rattle.bop_bits.specs.declared.class.Class.{Class}
use Rattle.bop_bits.specs.declared.class.Class.TheVariants as class
use Rattle.bop_bits.specs.declared.class.Classes.{Classes}
use Rattle.bop_bits.specs.declared.map.TheConstants.{DATA_FROM, STACK_TO}
use Rattle.access_log.specs.declared.spot.Spot.{Spot}
use Rattle.access_log.specs.declared.spot.Spot.TheVariants.{Register, Cursor, Byte}

abbrev pub is_shared_class : Class → Bool
is_shared_class class.Shared = true
is_shared_class class.Checked = false
is_shared_class class.Private = false

-- which pages are shared
abbrev pub shared_by : Classes → ℕ → Bool
shared_by classes page = is_shared_class (class_of classes page)

-- a register's number is below 32, and a byte is in data or stack
abbrev pub IsSpot : Spot → Type 0
IsSpot (Register r) = r < 32
IsSpot Cursor = Unit {0}
IsSpot (Byte at) = (DATA_FROM ≤ at) × (at < STACK_TO)

-- whether two spots are one; x0 is none
abbrev pub same : Spot → Spot → Bool
same (Register r) (Register q) = not (r == 0) && (r == q)
same Cursor Cursor = true
same (Byte a) (Byte b) = a == b
same (Register r) Cursor = false
same (Register r) (Byte b) = false
same Cursor (Register q) = false
same Cursor (Byte b) = false
same (Byte a) (Register q) = false
same (Byte a) Cursor = false

-- whether two spots are bytes of one page
abbrev pub one_page : Spot → Spot → Bool
one_page (Byte a) (Byte b) = page_of a == page_of b
one_page (Byte a) (Register q) = false
one_page (Byte a) Cursor = false
one_page (Register r) y = false
one_page Cursor y = false

module _ (shared : ℕ → Bool) where
  -- a byte of a shared page
  abbrev pub is_shared : Spot → Bool
  is_shared (Register r) = false
  is_shared Cursor = false
  is_shared (Byte at) = shared (page_of at)

  -- whether two spots are of one thing
  abbrev pub one_thing : Spot → Spot → Bool
  one_thing x y = same x y || (is_shared x && one_page x y)

  -- whether a spot's thing is that of one of some spots
  abbrev pub touched : Spot → List Spot → Bool
  touched x [] = false
  touched x (y ∷ ys) = one_thing x y || touched x ys

  -- the first things after a step that reads some spots and writes some, by those before it: what
  -- it reads and nothing wrote before, and each shared page that it touches
  abbrev pub first_after : (first wrote : Spot → Bool) (reads writes : List Spot) → Spot → Bool
  first_after first wrote reads writes x =
      first x || (touched x reads && not (wrote x))
      || (is_shared x && (touched x reads || touched x writes))

  -- the written things after a step that writes some spots
  abbrev pub wrote_after : (wrote : Spot → Bool) (writes : List Spot) → Spot → Bool
  wrote_after wrote writes x = wrote x || touched x writes
