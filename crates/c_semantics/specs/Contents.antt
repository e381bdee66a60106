-- What a memory holds, and what reads and writes make of it.
use Rattle.std.specs.Prelude.{ℕ, List, Option, None, Result, Ok, Err, replicate, if◌then◌else◌}
use Rattle.std.specs.Option.{ok_or}
use Rattle.c_tree.specs.declared.undefined.Undefined.{Undefined}
use Rattle.c_tree.specs.declared.undefined.Undefined.TheVariants.{Access, Indeterminate}
use Rattle.c_semantics.specs.declared.object.Object.{Object}
use Rattle.c_semantics.specs.Memory.{is_fine, number, range}

-- its bytes, each a number or not written, and the objects that live, the oldest first
pub record Contents : Type 0 where
  pub bytes : List (Option ℕ)
  pub live : List Object

-- so many bytes that aren't written
unfoldable pub unwritten : ℕ → List (Option ℕ)
unwritten n = replicate n None

-- whether there may be an access
abbrev pub access_of : ℕ → ℕ → List Object → Result (Unit {0}) Undefined
access_of size address live = if is_fine address size live then Ok tt else Err Access

-- the number that a read gives
abbrev pub read_of : ℕ → ℕ → List (Option ℕ) → List Object → Result ℕ Undefined
read_of size address bytes live =
    if is_fine address size live then ok_or (number (range address size bytes)) Indeterminate
    else Err Access
