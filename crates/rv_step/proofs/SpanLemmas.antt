-- The bytes of an access, one after another.
use Rattle.std.proofs.Common.{◌≡◌, ℕ, zero, suc, ◌+◌, ◌-◌, ◌/◌, ◌%◌, ◌<◌, ◌≤◌, ◌⊎◌, [], ◌∷◌, ◌++◌, sym, ap, ◌∙◌, inl, inr, arith}
use Rattle.std.specs.Prelude.{◌&&◌, ◌||◌}
use Rattle.bop_bits.specs.MemoryNumbers.{Fits, IsSize}
use Rattle.bop_bits.specs.Pages.{page_of}
use Rattle.access_log.specs.declared.log.Log.{Log}
use Rattle.access_log.specs.declared.spot.Spot.TheVariants.{Byte}
use Rattle.access_log.specs.MaskedPages.{has_mask}
use Rattle.access_log.specs.Noted.{has_room_for}
use Rattle.access_log.specs.Things.{shared_by}
use Rattle.rv_step.specs.Footprint.{span}

span-last : (n at : ℕ) → span at n ++ Byte (at + n) ∷ [] ≡ span at (suc n)
span-last zero at = let e : at + 0 ≡ at = omega arith in ap (λ b. Byte b ∷ []) e
span-last (suc n) at =
    let e : at + suc n ≡ (at + 1) + n = omega arith in
    ap (λ b. Byte at ∷ (span (at + 1) n ++ Byte b ∷ [])) e ∙ ap (λ xs. Byte at ∷ xs) (span-last n (at + 1))

pub span-more : (n at : ℕ) → span at n ++ Byte (at + n) ∷ [] ≡ span at (n + 1)
span-more n at = let e : suc n ≡ n + 1 = omega arith in span-last n at ∙ ap (span at) e

-- an access is within one page
pub same-page : (at size i : ℕ) → Fits at size → i < size → page_of (at + i) ≡ page_of at
same-page at size i fits less = by fits.sized
  where
    by : IsSize size → page_of (at + i) ≡ page_of at
    by (inl one) = omega (arith, fits.aligned, fits.from, less, one)
    by (inr (inl two)) = let e : at % 2 ≡ 0 = rw (sym two) fits.aligned in omega (arith, e, fits.from, less, two)
    by (inr (inr four)) = let e : at % 4 ≡ 0 = rw (sym four) fits.aligned in omega (arith, e, fits.from, less, four)

pub same-room-in-page : (log : Log) (a b : ℕ) → page_of a ≡ page_of b
    → has_room_for log (Byte a) ≡ has_room_for log (Byte b)
same-room-in-page log a b e =
    ap (λ p. shared_by log.classes p || (has_mask log.first.bytes p && (has_mask log.wrote.bytes p && has_mask log.after_fork.bytes p))) e
