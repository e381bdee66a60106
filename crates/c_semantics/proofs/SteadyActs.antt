-- What an expression does beside evaluating its parts is steady: it takes no step.
use Rattle.std.proofs.Common.{ℕ, ◌+◌, List, [], ◌∷◌, ◌++◌, true, Option, Some, None}
use Rattle.std.specs.Prelude.{Ok, Err, not, ◌&&◌, ◌||◌, ℤ, pos, ◌+ℤ◌, ◌-ℤ◌, ◌*ℤ◌, neg_ℤ, int_div, nat_abs, ◌%◌, ◌^◌, slice_get}
use Rattle.std.specs.Int.{w32, cast_unsigned}
use Rattle.byte_lists.proofs.Prefixes.{IsPrefix-append}
use Rattle.c_tree.specs.declared.operator.Binary.{Binary}
use Rattle.c_tree.specs.declared.operator.Group.{Group}
use Rattle.c_tree.specs.declared.operator.Group.TheVariants as by
use Rattle.c_tree.specs.declared.place.Place.{Place}
use Rattle.c_tree.specs.declared.undefined.Undefined.TheVariants.{Access, Indeterminate, Pointer as NotAlong}
use Rattle.c_tree.specs.Groups.{group, is_order, is_shift}
use Rattle.c_tree.specs.Arithmetic.{Outcome, binary_word}
use Rattle.c_semantics.specs.declared.home.Home.{Home}
use Rattle.c_semantics.specs.declared.home.Home.TheVariants.{Fixed, InFrame, Nowhere}
use Rattle.c_semantics.specs.declared.kind.Held.{Held}
use Rattle.c_semantics.specs.declared.kind.Held.TheVariants.{Byte, Word, Array}
use Rattle.c_semantics.specs.declared.kind.Operand.{Operand}
use Rattle.c_semantics.specs.declared.kind.Operand.TheVariants.{Pointer}
use Rattle.c_semantics.specs.Run.{Store}
use Rattle.c_semantics.specs.Memory.{is_fine, number, range, digits, with_bytes, read, write, value_at, store_at}
use Rattle.c_semantics.specs.Pointers.{are_along, along, moved, distance}
use Rattle.c_semantics.specs.Names.{address_of}
use Rattle.c_semantics.specs.Eval.{outcome, amount, is_unsigned, compared, arithmetic, sum, difference, other_act, group_act, binary_act, combined, assigned, taken, getchar, first_of, put, putchar}
use Rattle.c_semantics.proofs.Steady.{Alone, steady_then, steady_pure, steady_undefined, steady_behind, steady_conditional_at, steady_where, steady_given}

module _ {k below : ℕ} where
  steady_read : (size address : ℕ) (at : Place) → Alone k below (read size address at)
  steady_read size address at store =
      steady_where (is_fine address size store.live) (steady_given Indeterminate at (number (range address size store.bytes))) (steady_undefined Access at) store

  steady_write : (size address v : ℕ) (at : Place) → Alone k below (write size address v at)
  steady_write size address v at store =
      steady_conditional_at (is_fine address size store.live) _ _ _ _ store (steady_pure v (record store { bytes = with_bytes address (digits size v) store.bytes })) (steady_undefined Access at store)

  pub steady_value : (h : Held) (address : ℕ) (at : Place) → Alone k below (value_at h address at)
  steady_value Byte address at = steady_read 1 address at
  steady_value Word address at = steady_read 4 address at
  steady_value Array address at = steady_pure address

  pub steady_store : (h : Held) (address v : ℕ) (at : Place)
      → Alone k below (store_at h address v at)
  steady_store Byte address v at = steady_write 1 address (v % 2 ^ 8) at
  steady_store Word address v at = steady_write 4 address (v % 2 ^ 32) at
  steady_store Array address v at = steady_pure v

  steady_along : {A : Type 0} (y z : ℤ) (v : A) (at : Place) → Alone k below (along y z v at)
  steady_along y z v at store = steady_where (are_along y z store.live) (steady_pure v) (steady_undefined NotAlong at) store

  steady_moved : (size : ℕ) (i : ℤ) (p : ℕ) (at : Place) → Alone k below (moved size i p at)
  steady_moved size i p at = steady_along (pos p) (pos p +ℤ (i *ℤ pos size)) (nat_abs (pos p +ℤ (i *ℤ pos size))) at

  steady_distance : (size p q : ℕ) (at : Place) → Alone k below (distance size p q at)
  steady_distance size p q at = steady_along (pos p) (pos q) (cast_unsigned w32 (int_div (pos p -ℤ pos q) (pos size))) at

  pub steady_outcome : (o : Outcome) (at : Place) → Alone k below (outcome o at)
  steady_outcome (Ok word) at = steady_pure word
  steady_outcome (Err act) at = steady_undefined act at

  steady_arithmetic : (op : Binary) (c d : Operand) (x y : ℕ) (at : Place)
      → Alone k below (arithmetic op c d x y at)
  steady_arithmetic op c d x y at = steady_outcome (binary_word op (is_unsigned c || (not (is_shift (group op)) && is_unsigned d)) x y) at

  steady_compared : (op : Binary) (x y : ℕ) (at : Place) → Alone k below (compared op x y at)
  steady_compared op x y at =
      let equal = steady_outcome (binary_word op true x y) at in
      steady_where (is_order (group op)) (steady_then (steady_along (pos x) (pos y) x at) (λ _. equal)) equal

  steady_sum : (op : Binary) (c d : Operand) (x y : ℕ) (at : Place)
      → Alone k below (sum op c d x y at)
  steady_sum op (Pointer size) d x y at = steady_moved size (amount d y) x at
  steady_sum op c (Pointer size) x y at = steady_moved size (amount c x) y at
  steady_sum op c d x y at = steady_arithmetic op c d x y at

  steady_difference : (op : Binary) (c d : Operand) (x y : ℕ) (at : Place)
      → Alone k below (difference op c d x y at)
  steady_difference op (Pointer size) (Pointer other) x y at = steady_distance size x y at
  steady_difference op (Pointer size) d x y at = steady_moved size (neg_ℤ (amount d y)) x at
  steady_difference op c d x y at = steady_arithmetic op c d x y at

  steady_other : (op : Binary) (c d : Operand) (x y : ℕ) (at : Place)
      → Alone k below (other_act op c d x y at)
  steady_other op (Pointer size) d x y at = steady_compared op x y at
  steady_other op c d x y at = steady_arithmetic op c d x y at

  steady_group : (g : Group) (op : Binary) (c d : Operand) (x y : ℕ) (at : Place)
      → Alone k below (group_act g op c d x y at)
  steady_group by.Sum op c d x y at = steady_sum op c d x y at
  steady_group by.Difference op c d x y at = steady_difference op c d x y at
  steady_group _ op c d x y at = steady_other op c d x y at

  pub steady_binary : (op : Binary) (c d : Operand) (x y : ℕ) (at : Place)
      → Alone k below (binary_act op c d x y at)
  steady_binary op c d x y at = steady_group (group op) op c d x y at

  pub steady_combined : (op : Binary) (c d : Operand) (h : Held) (own at : Place) (x v : ℕ)
      → Alone k below (combined op c d h own at x v)
  steady_combined op c d h own at x v =
      steady_then (steady_value h x own) (λ old.
      steady_then (steady_binary op c d old v at) (λ w.
      steady_then (steady_store h x w at) (λ new. steady_pure (old, new))))

  pub steady_assigned : (how : Option Binary) (c d : Operand) (h : Held) (own at : Place) (x v : ℕ)
      → Alone k below (assigned how c d h own at x v)
  steady_assigned None c d h own at x v = steady_store h x v at
  steady_assigned (Some op) c d h own at x v = steady_then (steady_combined op c d h own at x v) (λ both. steady_pure both.1)

  pub steady_address : (home : Home) → Alone k below (address_of home)
  steady_address (Fixed address) = steady_pure address
  steady_address (InFrame offset) = λ store. steady_pure (store.sp + offset) store
  steady_address Nowhere = steady_pure 0

  steady_taken : (byte : Option ℕ) → Alone k below (taken byte)
  steady_taken None = steady_pure (Some 4294967295)
  steady_taken (Some byte) = λ store. steady_pure (Some byte) (record store { cursor = store.cursor + 1 })

  pub steady_getchar : (input : List ℕ) → Alone k below (getchar input)
  steady_getchar input store = steady_taken (slice_get input store.cursor) store

  steady_put : (byte : ℕ) → Alone k below (put byte)
  steady_put byte store =
      let new : Store = record store { output = store.output ++ byte ∷ [] } in
      steady_behind store.output new.output (IsPrefix-append store.output (byte ∷ [])) (steady_pure (Some byte) new)

  pub steady_putchar : (vs : List ℕ) → Alone k below (putchar vs)
  steady_putchar vs = steady_put (first_of vs % 2 ^ 8)
