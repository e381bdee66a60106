-- What more steps change in a run: nothing but the end where no step was left.
use Rattle.std.proofs.Common.{◌≡◌, ℕ, zero, suc, ◌+◌, ◌≤◌, List, Bool, true, false, Option, Some, None, refl, sym, subst, ap, arith}
use Rattle.std.specs.Prelude.{if◌then◌else◌}
use Rattle.byte_lists.specs.Prefix.{IsPrefix}
use Rattle.byte_lists.proofs.Prefixes.{IsPrefix-refl, IsPrefix-trans}
use Rattle.c_tree.specs.declared.place.Place.{Place}
use Rattle.c_tree.specs.declared.undefined.Undefined.{Undefined}
use Rattle.c_semantics.specs.Run.{Store, Run, Ended, Goes, StackFull, More, Undef, pure, then_run, ◌>>=◌, ◌>>◌, count, more, stack_full, undefined, given_or}
use Rattle.c_semantics.proofs.Appends.{put_out, IsBehind, Appends, appends_pure, end_appends, appends_then, appends_count}
use Rattle.c_semantics.proofs.Spends.{LeavesAtMost, IsLike, like_pure, like_then, like_count}

-- an answer, and one with k steps more: the same with k more left; or no step was left, and the output goes on
abbrev pub Lasts : {A : Type 0} → ℕ → Ended A → Ended A → Type 0
Lasts k (Goes v store left) later = later ≡ Goes v store (left + k)
Lasts k (StackFull output) later = later ≡ StackFull output
Lasts k (More output) later = IsPrefix output (put_out later)
Lasts k (Undef output act at) later = later ≡ Undef output act at

-- The answers to each number of steps, behind an output, of a run and of one whose bounds may be wider: below a number of steps they are the same, and with k steps more the wider run goes on.
pub record IsSteady {A : Type 0} (k below : ℕ) (output : List ℕ) (run wide : ℕ → Ended A) : Type 0 where
  pub like : IsLike below run wide
  pub lasts : (left : ℕ) → Lasts k (run left) (wide (left + k))
  pub behind : IsBehind output wide

-- so it is from each store
abbrev pub Steady : {A : Type 0} → ℕ → ℕ → Run A → Run A → Type 0
Steady k below run wide = (store : Store) → IsSteady k below store.output (run store) (wide store)

-- a run beside itself
abbrev pub Alone : {A : Type 0} → ℕ → ℕ → Run A → Type 0
Alone k below run = Steady k below run run

module _ {A B : Type 0} (k below : ℕ) (f g : A → Run B) (h : (v : A) → Steady k below (f v) (g v)) where
  then_lasts : (e later : Ended A) → Lasts k e later → Lasts k (then_run e f) (then_run later g)
  then_lasts (Goes v store left) later l = subst (λ x. Lasts k (f v store left) (then_run x g)) (sym l) ((h v store).lasts left)
  then_lasts (StackFull output) later l = ap (λ x. then_run x g) l
  then_lasts (More output) later l = IsPrefix-trans output (put_out later) (put_out (then_run later g)) l (end_appends g (λ v store. (h v store).behind) later)
  then_lasts (Undef output act at) later l = ap (λ x. then_run x g) l

pub steady_then : {A B : Type 0} {k below : ℕ} {r q : Run A} {f g : A → Run B} → Steady k below r q
    → ((v : A) → Steady k below (f v) (g v)) → Steady k below (r >>= f) (q >>= g)
steady_then {k = k} {below = below} {r = r} {q = q} {f = f} {g = g} s h store = record {
  like = like_then (λ at. (s at).like) (λ v at. (h v at).like) store;
  lasts = λ left. then_lasts k below f g h (r store left) (q store (left + k)) ((s store).lasts left);
  behind = appends_then (λ at. (s at).behind) (λ v at. (h v at).behind) store;
}

-- one step leads from a bound to the next
pub steady_count : {A : Type 0} {k below : ℕ} {r q : Run A} → Steady k below r q
    → Steady k (suc below) (count >> r) (count >> q)
steady_count {k = k} {r = r} {q = q} s store = record { like = like_count (λ at. (s at).like) store; lasts = lasts; behind = appends_count (λ at. (s at).behind) store }
  where
    lasts : (left : ℕ) → Lasts k ((count >> r) store left) ((count >> q) store (left + k))
    lasts zero = (appends_count (λ at. (s at).behind) store).grows (0 + k)
    lasts (suc left) =
        let next : suc (left + k) ≡ suc left + k = omega arith in
        subst (λ n. Lasts k (r store left) ((count >> q) store n)) next ((s store).lasts left)

pub steady_step : {k below : ℕ} → Alone k below count
steady_step {k = k} store = record {
  like = record { leaves = leaves; same = λ left lt. refl };
  lasts = lasts;
  behind = record { grows = grows };
}
  where
    leaves : (left : ℕ) → LeavesAtMost left (count store left)
    leaves zero = tt
    leaves (suc left) = omega arith

    grows : (left : ℕ) → IsPrefix store.output (put_out (count store left))
    grows zero = IsPrefix-refl store.output
    grows (suc left) = IsPrefix-refl store.output

    lasts : (left : ℕ) → Lasts k (count store left) (count store (left + k))
    lasts zero = grows (0 + k)
    lasts (suc left) =
        let next : suc (left + k) ≡ suc left + k = omega arith in
        ap (count store) (sym next)

pub steady_lower : {A : Type 0} {k : ℕ} (m n : ℕ) {r q : Run A} → m ≤ n → Steady k n r q
    → Steady k m r q
steady_lower m n le s store = record {
  like = record { leaves = (s store).like.leaves; same = λ left lt. (s store).like.same left (omega arith) };
  lasts = (s store).lasts;
  behind = (s store).behind;
}

-- no step is left, however the wider run goes on
pub steady_more : {A : Type 0} {k : ℕ} {q : Run A} → Appends q → Steady k 0 more q
steady_more {k = k} a store = record {
  like = record { leaves = λ left. tt; same = λ left lt. absurd (omega arith) };
  lasts = λ left. (a store).grows (left + k);
  behind = a store;
}

pub steady_pure : {A : Type 0} {k below : ℕ} (v : A) → Alone k below (pure v)
steady_pure v store = record { like = like_pure v store; lasts = λ left. refl; behind = appends_pure v store }

pub steady_undefined : {A : Type 0} {k below : ℕ} (act : Undefined) (at : Place)
    → Alone {A = A} k below (undefined act at)
steady_undefined act at store = record {
  like = record { leaves = λ left. tt; same = λ left lt. refl };
  lasts = λ left. refl;
  behind = record { grows = λ left. IsPrefix-refl store.output };
}

pub steady_full : {A : Type 0} {k below : ℕ} → Alone {A = A} k below stack_full
steady_full store = record {
  like = record { leaves = λ left. tt; same = λ left lt. refl };
  lasts = λ left. refl;
  behind = record { grows = λ left. IsPrefix-refl store.output };
}

pub steady_given : {A : Type 0} {k below : ℕ} (act : Undefined) (at : Place) (o : Option A)
    → Alone k below (given_or act at o)
steady_given act at None = steady_undefined act at
steady_given act at (Some v) = steady_pure v

-- what follows a change of the store that appends to an output
pub steady_behind : {A : Type 0} {k below : ℕ} (output more : List ℕ) {r q : ℕ → Ended A}
    → IsPrefix output more → IsSteady k below more r q → IsSteady k below output r q
steady_behind output more {q = q} p s = record {
  like = s.like;
  lasts = s.lasts;
  behind = record { grows = λ left. IsPrefix-trans output more (put_out (q left)) p (s.behind.grows left) };
}

-- one of two runs, from one store
pub steady_conditional_at : {A : Type 0} {k below : ℕ} (b : Bool) (r r' q q' : Run A)
    (store : Store) → IsSteady k below store.output (r store) (r' store)
    → IsSteady k below store.output (q store) (q' store)
    → IsSteady k below store.output ((if b then r else q) store) ((if b then r' else q') store)
steady_conditional_at true r r' q q' store s t = s
steady_conditional_at false r r' q q' store s t = t

pub steady_where : {A : Type 0} {k below : ℕ} (b : Bool) {r r' q q' : Run A} → Steady k below r r'
    → Steady k below q q' → Steady k below (if b then r else q) (if b then r' else q')
steady_where b {r} {r'} {q} {q'} s t store = steady_conditional_at b r r' q q' store (s store) (t store)
