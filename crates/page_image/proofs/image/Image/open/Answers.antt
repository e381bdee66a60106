use Rattle.std.proofs.Common.{◌≡◌, ◌≤◌, ◌-◌, ◌++◌, ℕ, List, length, take, replicate, arith, ap, true}
use Rattle.std.proofs.lemmas.Grind.{common_steps}
use Rattle.bop_bits.specs.declared.map.TheConstants.{MEMORY_BYTES}
use Rattle.page_image.proofs.image.Image.open.Goals as goal

filled : (xs ys zs : List ℕ) (n m : ℕ) → length zs ≤ n → xs ≡ zs → m ≡ length zs
    → ys ≡ take n xs ++ replicate (n - m) 0 → ys ≡ zs ++ replicate (n - length zs) 0
filled xs ys zs n m h e f g = grind (arith, common_steps)

pub returns-in-Ok-resize : goal.returns-in-Ok-resize
returns-in-Ok-resize c =
    let resized = rw c.in-Ok-resize.is at c.resize.ensures.items in
    ap (λ bytes. record { bytes = bytes; owned = true })
    (filled _ _ _ MEMORY_BYTES _ c.requires c.in-Ok.ensures.items c.in-Ok.ensures.len resized)
