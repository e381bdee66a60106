-- What a piece of a program does to the store, with steps that are counted.
use Rattle.std.specs.Prelude.{ℕ, zero, suc, List, Option, Some, None}
use Rattle.c_tree.specs.declared.place.Place.{Place}
use Rattle.c_tree.specs.declared.undefined.Undefined.{Undefined}
use Rattle.c_semantics.specs.declared.object.Object.{Object}

infixl 40 ◌>>=◌
infixl 40 ◌>>◌
-- The memory's bytes, each a number or not written; the objects that live (C11 6.2.4), the oldest first; the stack pointer; how much of the input was read; and what was put out.
pub record Store : Type 0 where
  pub bytes : List (Option ℕ)
  pub live : List Object
  pub sp : ℕ
  pub cursor : ℕ
  pub output : List ℕ

-- A value, with the store and the steps that are left; or one of three ends: the stack has no room, no step is left, an act is undefined.
pub data Ended (A : Type 0) : Type 0 where
  Goes : (value : A) (store : Store) (left : ℕ) → Ended A
  StackFull : (output : List ℕ) → Ended A
  More : (output : List ℕ) → Ended A
  Undef : (output : List ℕ) (act : Undefined) (at : Place) → Ended A

abbrev pub Run : Type 0 → Type 0
Run A = Store → ℕ → Ended A

-- nothing is done
abbrev pub pure : {A : Type 0} → A → Run A
pure v store left = Goes v store left

abbrev pub then_run : {A B : Type 0} → Ended A → (A → Run B) → Ended B
then_run (Goes v store left) f = f v store left
then_run (StackFull output) f = StackFull output
then_run (More output) f = More output
then_run (Undef output act at) f = Undef output act at

-- the one and, where it goes on, the other
abbrev pub ◌>>=◌ : {A B : Type 0} → Run A → (A → Run B) → Run B
◌>>=◌ r f = λ store left. then_run (r store left) f

abbrev pub ◌>>◌ : {A B : Type 0} → Run A → Run B → Run B
◌>>◌ r q = r >>= λ _. q

-- one step
abbrev pub count : Run (Unit {0})
count store zero = More store.output
count store (suc left) = Goes tt store left

-- no step is left
abbrev pub more : {A : Type 0} → Run A
more store left = More store.output

abbrev pub stack_full : {A : Type 0} → Run A
stack_full store left = StackFull store.output

abbrev pub undefined : {A : Type 0} → Undefined → Place → Run A
undefined act at store left = Undef store.output act at

-- a value where there is one
abbrev pub given_or : {A : Type 0} → Undefined → Place → Option A → Run A
given_or act at None = undefined act at
given_or act at (Some v) = pure v

-- the store as it stands
abbrev pub now : Run Store
now store left = Goes store store left

abbrev pub change : Store → Run (Unit {0})
change new store left = Goes tt new left
