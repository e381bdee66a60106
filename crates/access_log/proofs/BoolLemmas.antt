-- Facts on truth values.
use Rattle.std.proofs.Common.{◌≡◌, Bool, true, false, refl}
use Rattle.std.specs.Prelude.{◌&&◌, ◌||◌, not}

pub by_cases : {P : Type 0} (b : Bool) → (b ≡ true → P) → (b ≡ false → P) → P
by_cases true f g = f refl
by_cases false f g = g refl

pub or_false : (b : Bool) → b || false ≡ b
or_false true = refl
or_false false = refl

pub and_false : (a : Bool) → a && false ≡ false
and_false true = refl
and_false false = refl

-- a read of what is touched by itself, and wasn't written
pub read-own : (f t s w : Bool) → (t ≡ true → s ≡ false) → (t ≡ true → w ≡ false)
    → f || t ≡ f || ((t || false) && not w) || (s && ((t || false) || false))
read-own true t s w h g = refl
read-own false false true w h g = refl
read-own false false false w h g = refl
read-own false true true w h g = absurd (cc (h refl))
read-own false true false true h g = absurd (cc (g refl))
read-own false true false false h g = refl

-- of what was written
pub read-again : (f t s w : Bool) → (t ≡ true → s ≡ false) → (t ≡ true → w ≡ true)
    → f ≡ f || ((t || false) && not w) || (s && ((t || false) || false))
read-again true t s w h g = refl
read-again false false true w h g = refl
read-again false false false w h g = refl
read-again false true true w h g = absurd (cc (h refl))
read-again false true false true h g = refl
read-again false true false false h g = absurd (cc (g refl))

-- of a shared page
pub read-shared : (f t s w : Bool) → (t ≡ true → s ≡ true)
    → f || t ≡ f || ((t || false) && not w) || (s && ((t || false) || false))
read-shared true t s w h = refl
read-shared false false true w h = refl
read-shared false false false w h = refl
read-shared false true true true h = refl
read-shared false true true false h = refl
read-shared false true false w h = absurd (cc (h refl))

-- a write of what is touched by itself
pub write-own : (f t s w : Bool) → (t ≡ true → s ≡ false)
    → f ≡ f || (false && not w) || (s && (false || (t || false)))
write-own true t s w h = refl
write-own false false true w h = refl
write-own false false false w h = refl
write-own false true true w h = absurd (cc (h refl))
write-own false true false w h = refl

-- of a shared page
pub write-shared : (f t s w : Bool) → (t ≡ true → s ≡ true)
    → f || t ≡ f || (false && not w) || (s && (false || (t || false)))
write-shared true t s w h = refl
write-shared false false true w h = refl
write-shared false false false w h = refl
write-shared false true true w h = refl
write-shared false true false w h = absurd (cc (h refl))
