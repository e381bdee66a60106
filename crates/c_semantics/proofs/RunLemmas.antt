-- Laws of runs that follow each other.
use Rattle.std.proofs.Common.{◌≡◌, refl}
use Rattle.c_semantics.specs.Run.{Run, Ended, Goes, StackFull, More, Undef, pure, then_run, ◌>>=◌}

-- it makes no difference which two of three are put together
pub then_assoc : {A B C : Type 0} (e : Ended A) (f : A → Run B) (g : B → Run C)
    → then_run (then_run e f) g ≡ then_run e (λ v. f v >>= g)
then_assoc (Goes v store left) f g = refl
then_assoc (StackFull output) f g = refl
then_assoc (More output) f g = refl
then_assoc (Undef output act at) f g = refl

pub assoc : {A B C : Type 0} (r : Run A) (f : A → Run B) (g : B → Run C)
    → (r >>= f) >>= g ≡ r >>= λ v. f v >>= g
assoc r f g = λ i store left. then_assoc (r store left) f g i

-- nothing more is done
pub then_pure : {A : Type 0} (e : Ended A) → then_run e pure ≡ e
then_pure (Goes v store left) = refl
then_pure (StackFull output) = refl
then_pure (More output) = refl
then_pure (Undef output act at) = refl

module _ {A B C D : Type 0} (q : Run B) (f : A → B → Run C) (g : C → Run D) where
  then_two : (e : Ended A)
      → then_run (then_run e (λ x. q >>= f x)) g ≡ then_run e (λ x. q >>= λ y. f x y >>= g)
  then_two (Goes v store left) = then_assoc (q store left) (f v) g
  then_two (StackFull output) = refl
  then_two (More output) = refl
  then_two (Undef output act at) = refl

  pub assoc_two : (r : Run A) → (r >>= λ x. q >>= f x) >>= g ≡ r >>= λ x. q >>= λ y. f x y >>= g
  assoc_two r = λ i store left. then_two (r store left) i
