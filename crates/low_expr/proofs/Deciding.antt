-- Acts that leave the store: each is undefined or gives a value, which instructions compute.
use Rattle.std.proofs.Common.{◌≡◌, ℕ, ◌+◌, ◌^◌, ◌<◌, ◌⊎◌, List, ◌++◌, length, sym, ap, subst, ◌∙◌, inl, inr, ⊎_elim}
use Rattle.rv_code.specs.declared.instr.Instr.{Instr}
use Rattle.rv_code.specs.State.{State}
use Rattle.c_semantics.specs.Run.{Store, Run, Ended, Goes, StackFull, More, Undef, then_run, ◌>>=◌}
use Rattle.low_expr.specs.Following.{Terms, Follows}
use Rattle.low_expr.proofs.PlainCode.{Env}
use Rattle.low_expr.proofs.CodePiecesLemmas.{Takes, takes_append}

abbrev pub IsUndefined : {A : Type 0} → Ended A → Type 0
IsUndefined (Goes v store left) = ⊥
IsUndefined (StackFull output) = ⊥
IsUndefined (More output) = ⊥
IsUndefined (Undef output act at) = Unit {0}

abbrev pub Decided : Run ℕ → Store → (ℕ → Type 0) → Type 0
Decided r store P =
    ((n : ℕ) → IsUndefined (r store n))
    ⊎ ((v : ℕ) × ((n : ℕ) → r store n ≡ Goes v store n) × P v)

pub then_undefined : {A B : Type 0} (e : Ended A) (f : A → Run B) → IsUndefined e
    → IsUndefined (then_run e f)
then_undefined (Goes v store left) f u = absurd u
then_undefined (StackFull output) f u = absurd u
then_undefined (More output) f u = absurd u
then_undefined (Undef output act at) f u = tt

-- of what comes after an undefined act nothing is said
pub undefined_follows : {A : Type 0} {code input : List ℕ} {t : Terms} {store : Store}
    {from to n : ℕ} {ends : A → ℕ} {s : State} {V : A → State → Type 0} (e : Ended A)
    → IsUndefined e → Follows code input t store from to n ends s V e
undefined_follows (Goes v store left) u = absurd u
undefined_follows (StackFull output) u = absurd u
undefined_follows (More output) u = absurd u
undefined_follows (Undef output act at) u = record { by = tt }

-- an act, and what is done with its value
pub then_decided : (r : Run ℕ) (f : ℕ → Run ℕ) (store : Store) (P Q : ℕ → Type 0)
    → Decided r store P → ((v : ℕ) → P v → Decided (f v) store Q) → Decided (r >>= f) store Q
then_decided r f store P Q d next =
    ⊎_elim
    (λ u. inl (λ n. then_undefined (r store n) f (u n)))
    (λ g. ⊎_elim
    (λ u. inl (λ n. undefined_next g n (u n)))
    (λ h. inr (h.0, (λ n. ap (λ e. then_run e f) (g.1 n) ∙ h.1 n), h.2))
    (next g.0 g.2))
    d
  where
    undefined_next : (g : (v : ℕ) × ((n : ℕ) → r store n ≡ Goes v store n) × P v) (n : ℕ)
        → IsUndefined (f g.0 store n) → IsUndefined (then_run (r store n) f)
    undefined_next g n u = subst (λ e. IsUndefined (then_run e f)) (sym (g.1 n)) u

-- a value in register 5, with the registers that a node still needs as they were
pub record Computes (m : List ℕ) (i : ℕ) (xs : List Instr) (env : Env) (v : ℕ) : Type 0 where
  pub left : Env
  pub takes : Takes m i xs env left
  pub value : left 5 ≡ v
  pub fits : v < 2 ^ 32
  pub zero_still : left 0 ≡ env 0
  pub stack_still : left 2 ≡ env 2
  pub address_still : left 7 ≡ env 7
  pub old_still : left 29 ≡ env 29

pub computes_append : (m : List ℕ) (i : ℕ) (xs ys : List Instr) (env : Env) (u v : ℕ)
    (c : Computes m i xs env u) → Computes m (i + length xs) ys c.left v
    → Computes m i (xs ++ ys) env v
computes_append m i xs ys env u v c d = record {
  left = d.left;
  takes = takes_append m xs ys i env c.left d.left c.takes d.takes;
  value = d.value;
  fits = d.fits;
  zero_still = d.zero_still ∙ c.zero_still;
  stack_still = d.stack_still ∙ c.stack_still;
  address_still = d.address_still ∙ c.address_still;
  old_still = d.old_still ∙ c.old_still;
}
