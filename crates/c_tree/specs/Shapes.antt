-- Types and their conversions.
use Rattle.std.specs.Prelude.{◌==◌, Bool, true, false, ◌&&◌, ◌||◌, if◌then◌else◌}
use Rattle.c_tree.specs.Ty.{Ty}
use Rattle.c_tree.specs.Ty as ty

-- one type and the same (C11 6.2.7)
abbrev pub same : Ty → Ty → Bool
same ty.Int ty.Int = true
same ty.Unsigned ty.Unsigned = true
same ty.Char ty.Char = true
same ty.Void ty.Void = true
same (ty.Pointer t) (ty.Pointer u) = same t u
same (ty.Array t n) (ty.Array u m) = (n == m) && same t u
same _ _ = false

-- 6.2.5
abbrev pub is_integer : Ty → Bool
is_integer ty.Int = true
is_integer ty.Unsigned = true
is_integer ty.Char = true
is_integer _ = false

abbrev pub is_unsigned : Ty → Bool
is_unsigned ty.Unsigned = true
is_unsigned _ = false

abbrev pub is_void : Ty → Bool
is_void ty.Void = true
is_void _ = false

abbrev pub is_pointer : Ty → Bool
is_pointer (ty.Pointer _) = true
is_pointer _ = false

abbrev pub is_array : Ty → Bool
is_array (ty.Array _ _) = true
is_array _ = false

abbrev pub is_scalar : Ty → Bool
is_scalar t = is_integer t || is_pointer t

-- an array becomes a pointer to its first element (6.3.2.1)
abbrev pub decayed : Ty → Ty
decayed (ty.Array t n) = ty.Pointer t
decayed t = t

-- char becomes int (6.3.1.1)
abbrev pub promoted : Ty → Ty
promoted ty.Char = ty.Int
promoted t = t

-- what two integers are converted to (6.3.1.8)
abbrev pub common : Ty → Ty → Ty
common t u = if is_unsigned t || is_unsigned u then ty.Unsigned else ty.Int
