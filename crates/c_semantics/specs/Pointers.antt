-- Arithmetic on pointers (C11 6.5.6, 6.5.8).
use Rattle.std.specs.Prelude.{ℕ, ◌&&◌, Bool, if◌then◌else◌, List, ℤ, pos, ◌+ℤ◌, ◌-ℤ◌, ◌*ℤ◌, int_le, int_div, nat_abs, ◌+◌}
use Rattle.std.specs.List.{list_any}
use Rattle.std.specs.Int.{w32, cast_unsigned}
use Rattle.c_tree.specs.declared.place.Place.{Place}
use Rattle.c_tree.specs.declared.undefined.Undefined.TheVariants.{Pointer}
use Rattle.c_semantics.specs.declared.object.Object.{Object}
use Rattle.c_semantics.specs.Run.{Run, pure, ◌>>=◌, now, undefined}

-- an address is one of the object's bytes, or its end
abbrev pub is_along : ℤ → Object → Bool
is_along z o = int_le (pos o.address) z && int_le z (pos (o.address + o.size))

-- one live object has both, its end included
abbrev pub are_along : ℤ → ℤ → List Object → Bool
are_along y z live = list_any (λ o. is_along y o && is_along z o) live

-- what is right of two addresses along one object
abbrev pub along : {A : Type 0} → ℤ → ℤ → A → Place → Run A
along y z v at = do
  store ← now
  if are_along y z store.live then pure v else undefined Pointer at

-- a pointer moved by so many elements
abbrev pub moved : ℕ → ℤ → ℕ → Place → Run ℕ
moved size i p at = along (pos p) (pos p +ℤ (i *ℤ pos size)) (nat_abs (pos p +ℤ (i *ℤ pos size))) at

-- the elements from one pointer to another, toward zero
abbrev pub distance : ℕ → ℕ → ℕ → Place → Run ℕ
distance size p q at = along (pos p) (pos q)
    (cast_unsigned w32 (int_div (pos p -ℤ pos q) (pos size))) at
