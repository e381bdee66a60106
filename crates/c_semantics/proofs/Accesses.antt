-- Reads and writes of a run, by what a memory gives.
use Rattle.std.proofs.Common.{◌≡◌, ℕ, Bool, true, false, Option, Some, None, Result, Ok, Err, refl}
use Rattle.std.specs.Prelude.{if◌then◌else◌}
use Rattle.std.specs.Option.{ok_or}
use Rattle.c_tree.specs.declared.place.Place.{Place}
use Rattle.c_tree.specs.declared.undefined.Undefined.{Undefined}
use Rattle.c_tree.specs.declared.undefined.Undefined.TheVariants.{Access, Indeterminate}
use Rattle.c_semantics.specs.Contents.{access_of, read_of}
use Rattle.c_semantics.specs.Memory.{is_fine, number, range, digits, with_bytes, read, write}
use Rattle.c_semantics.specs.Run.{Store, Run, Goes, pure, ◌>>◌, change, undefined, given_or}

-- how a run goes on with what a memory gives
abbrev pub given_by : {A : Type 0} → Place → Result A Undefined → Run A
given_by at (Ok v) = pure v
given_by at (Err act) = undefined act at

module _ (at : Place) (store : Store) (left : ℕ) where
  read_case : (fine : Bool) (o : Option ℕ)
      → (if fine then given_or Indeterminate at o else undefined Access at) store left
      ≡ given_by at (if fine then ok_or o Indeterminate else Err Access) store left
  read_case true None = refl
  read_case true (Some v) = refl
  read_case false o = refl

  -- a read gives what the memory gives
  pub read_is : (size address : ℕ)
      → read size address at store left
      ≡ given_by at (read_of size address store.bytes store.live) store left
  read_is size address = read_case (is_fine address size store.live) (number (range address size store.bytes))

  done_case : (fine : Bool) (go : Run ℕ)
      → ◌≡◌ {A = Result (Unit {0}) Undefined} (if fine then Ok tt else Err Access) (Ok tt)
      → (if fine then go else undefined Access at) store left ≡ go store left
  done_case true go h = refl
  done_case false go h = cc

  refused_case : (fine : Bool) (go : Run ℕ) (act : Undefined)
      → ◌≡◌ {A = Result (Unit {0}) Undefined} (if fine then Ok tt else Err Access) (Err act)
      → (if fine then go else undefined Access at) store left ≡ undefined act at store left
  refused_case true go act h = cc
  refused_case false go act h = cc

  -- a write is done where the memory does it
  pub write_done : (size address v : ℕ) → access_of size address store.live ≡ Ok tt
      → write size address v at store left
      ≡ Goes v (record store { bytes = with_bytes address (digits size v) store.bytes }) left
  write_done size address v = done_case (is_fine address size store.live) (change (record store { bytes = with_bytes address (digits size v) store.bytes }) >> pure v)

  -- and ends the run where the memory refuses it
  pub write_refused : (size address v : ℕ) (act : Undefined)
      → access_of size address store.live ≡ Err act
      → write size address v at store left ≡ undefined act at store left
  write_refused size address v = refused_case (is_fine address size store.live) (change (record store { bytes = with_bytes address (digits size v) store.bytes }) >> pure v)
