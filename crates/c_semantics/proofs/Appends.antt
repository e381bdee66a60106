-- What was put out stays: a run only appends to it.
use Rattle.std.proofs.Common.{ℕ, zero, suc, List}
use Rattle.byte_lists.specs.Prefix.{IsPrefix}
use Rattle.byte_lists.proofs.Prefixes.{IsPrefix-refl, IsPrefix-trans}
use Rattle.c_semantics.specs.Run.{Store, Run, Ended, Goes, StackFull, More, Undef, pure, then_run, ◌>>=◌, ◌>>◌, count}

-- what was put out in the end
abbrev pub put_out : {A : Type 0} → Ended A → List ℕ
put_out (Goes v store left) = store.output
put_out (StackFull output) = output
put_out (More output) = output
put_out (Undef output act at) = output

-- the answers to each number of steps, behind an output
pub record IsBehind {A : Type 0} (output : List ℕ) (run : ℕ → Ended A) : Type 0 where
  pub grows : (left : ℕ) → IsPrefix output (put_out (run left))

-- so it is from each store
abbrev pub Appends : {A : Type 0} → Run A → Type 0
Appends run = (store : Store) → IsBehind store.output (run store)

pub appends_pure : {A : Type 0} (v : A) → Appends (pure v)
appends_pure v store = record { grows = λ left. IsPrefix-refl store.output }

pub end_appends : {A B : Type 0} (f : A → Run B) → ((v : A) → Appends (f v)) → (e : Ended A)
    → IsPrefix (put_out e) (put_out (then_run e f))
end_appends f h (Goes v store left) = (h v store).grows left
end_appends f h (StackFull output) = IsPrefix-refl output
end_appends f h (More output) = IsPrefix-refl output
end_appends f h (Undef output act at) = IsPrefix-refl output

pub appends_then : {A B : Type 0} {r : Run A} {f : A → Run B} → Appends r
    → ((v : A) → Appends (f v)) → Appends (r >>= f)
appends_then {r = r} {f = f} a h store = record {
  grows = λ left. IsPrefix-trans store.output (put_out (r store left)) (put_out ((r >>= f) store left)) ((a store).grows left) (end_appends f h (r store left));
}

pub appends_count : {A : Type 0} {r : Run A} → Appends r → Appends (count >> r)
appends_count {r = r} a store = record { grows = grows }
  where
    grows : (left : ℕ) → IsPrefix store.output (put_out ((count >> r) store left))
    grows zero = IsPrefix-refl store.output
    grows (suc left) = (a store).grows left
