-- A run never has more steps left than it was given. So two runs that differ only where more steps would be needed are the same within fewer.
use Rattle.std.proofs.Common.{◌≡◌, ℕ, zero, suc, ◌≤◌, ◌<◌, refl, ap, ◌∙◌, arith}
use Rattle.c_semantics.specs.Run.{Store, Run, Ended, Goes, StackFull, More, Undef, pure, then_run, ◌>>=◌, ◌>>◌, count}

-- where the run goes on, at most so many steps are left
abbrev pub LeavesAtMost : {A : Type 0} → ℕ → Ended A → Type 0
LeavesAtMost n (Goes v store left) = left ≤ n
LeavesAtMost n (StackFull output) = Unit {0}
LeavesAtMost n (More output) = Unit {0}
LeavesAtMost n (Undef output act at) = Unit {0}

-- the steps that are left don't rise
pub record Spends {A : Type 0} (run : Run A) : Type 0 where
  pub leaves : (store : Store) (left : ℕ) → LeavesAtMost left (run store left)

pub spends_pure : {A : Type 0} (v : A) → Spends (pure v)
spends_pure v = record { leaves = λ store left. omega arith }

-- The answers of a run to each number of steps: what is left doesn't rise, and with fewer steps than a bound another run gives the same answers.
pub record IsLike {A : Type 0} (below : ℕ) (run other : ℕ → Ended A) : Type 0 where
  pub leaves : (left : ℕ) → LeavesAtMost left (run left)
  pub same : (left : ℕ) → left < below → other left ≡ run left

-- so it is from each store
abbrev pub Like : {A : Type 0} → ℕ → Run A → Run A → Type 0
Like below run other = (store : Store) → IsLike below (run store) (other store)

pub like_itself : {A : Type 0} {below : ℕ} {r : Run A} → Spends r → Like below r r
like_itself h store = record { leaves = h.leaves store; same = λ left lt. refl }

pub like_lower : {A : Type 0} (m n : ℕ) {r q : Run A} → m ≤ n → Like n r q → Like m r q
like_lower m n le h store = record { leaves = (h store).leaves; same = λ left lt. (h store).same left (omega arith) }

leaves_more : {A : Type 0} (n m : ℕ) (e : Ended A) → n ≤ m → LeavesAtMost n e → LeavesAtMost m e
leaves_more n m (Goes v store left) le h = omega arith
leaves_more n m (StackFull output) le h = tt
leaves_more n m (More output) le h = tt
leaves_more n m (Undef output act at) le h = tt

pub like_pure : {A : Type 0} {below : ℕ} (v : A) → Like below (pure v) (pure v)
like_pure v = like_itself (spends_pure v)

module _ {A B : Type 0} (below : ℕ) (f g : A → Run B) (h : (v : A) → Like below (f v) (g v)) where
  then_leaves : (e : Ended A) (n : ℕ) → LeavesAtMost n e → LeavesAtMost n (then_run e f)
  then_leaves (Goes v store left) n l = leaves_more left n (f v store left) l ((h v store).leaves left)
  then_leaves (StackFull output) n l = tt
  then_leaves (More output) n l = tt
  then_leaves (Undef output act at) n l = tt

  then_same : (e : Ended A) (n : ℕ) → n < below → LeavesAtMost n e → then_run e g ≡ then_run e f
  then_same (Goes v store left) n lt l = (h v store).same left (omega arith)
  then_same (StackFull output) n lt l = refl
  then_same (More output) n lt l = refl
  then_same (Undef output act at) n lt l = refl

pub like_then : {A B : Type 0} {below : ℕ} {r q : Run A} {f g : A → Run B} → Like below r q
    → ((v : A) → Like below (f v) (g v)) → Like below (r >>= f) (q >>= g)
like_then {below = below} {r = r} {f = f} {g = g} s h store = record {
  leaves = λ left. then_leaves below f g h (r store left) left ((s store).leaves left);
  same = λ left lt. ap (λ e. then_run e g) ((s store).same left lt) ∙ then_same below f g h (r store left) left lt ((s store).leaves left);
}

-- one step leads from a bound to the next
pub like_count : {A : Type 0} {below : ℕ} {r q : Run A} → Like below r q
    → Like (suc below) (count >> r) (count >> q)
like_count {below = below} {r = r} {q = q} h store = record { leaves = leaves; same = same }
  where
    leaves : (left : ℕ) → LeavesAtMost left ((count >> r) store left)
    leaves zero = tt
    leaves (suc left) = leaves_more left (suc left) (r store left) (omega arith) ((h store).leaves left)

    same : (left : ℕ) → left < suc below → (count >> q) store left ≡ (count >> r) store left
    same zero lt = refl
    same (suc left) lt = (h store).same left (omega arith)
