-- Types, as definitions speak of them: the code's types without pointers.
use Rattle.std.specs.Prelude.{ℕ}

pub data Ty : Type 0 where
  Int : Ty
  Unsigned : Ty
  Char : Ty
  Void : Ty
  Pointer : (to : Ty) → Ty
  Array : (of : Ty) (count : ℕ) → Ty
