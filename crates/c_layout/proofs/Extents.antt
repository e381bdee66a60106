-- Sizes of pointers and arrays, and products up to a limit.
use Rattle.std.proofs.Common.{◌≡◌, ℕ, zero, suc, ◌*◌, ◌<◌, ◌≤◌, inl, inr, refl, ap, sym, ◌∙◌, arith, mul_comm, mul_assoc, zero-mul}
use Rattle.std.proofs.Math.Nat.{mul-le-mul_left}
use Rattle.std.proofs.lemmas.Bool.{cases_lt}
use Rattle.c_tree.specs.Declarators.{pointers, sized, declared_shape}
use Rattle.c_tree.specs.Ty.{Ty}
use Rattle.c_tree.specs.Expr.{Exprs}
use Rattle.c_tree.specs.Expr as expr
use Rattle.c_tree.specs.Var.{Var}
use Rattle.c_layout.specs.private.Capped.{near}
use Rattle.c_layout.specs.Sizes.{size, alignment}

near_below : (n x : ℕ) → x < 8388608 → near (n * near x) ≡ near (n * x)
near_below n x h =
    let same : near x ≡ x = omega arith in
    ap (λ y. near (n * y)) same

near_above : (n x : ℕ) → 8388608 ≤ x → near (n * near x) ≡ near (n * x)
near_above zero x h = ap near (zero-mul (near x) ∙ sym (zero-mul x))
near_above (suc n) x h =
    let most : near x ≡ 8388608 = omega arith in
    let more : suc n * 8388608 ≤ suc n * x = mul-le-mul_left (suc n) h in
    let far : near (suc n * 8388608) ≡ near (suc n * x) = omega arith in
    ap (λ y. near (suc n * y)) most ∙ far

pub near_product : (n x : ℕ) → near (n * near x) ≡ near (n * x)
near_product n x = elim (cases_lt x 8388608) [ inl h ↦ near_below n x h | inr h ↦ near_above n x h ]

pub more_elements : (elements n rest : ℕ)
    → near (near (n * elements) * rest) ≡ near (elements * (n * rest))
more_elements elements n rest =
    let turned : near (n * elements) * rest ≡ rest * near (n * elements) = mul_comm (near (n * elements)) rest in
    let whole : rest * (n * elements) ≡ elements * (n * rest) = mul_comm rest (n * elements) ∙ ap (λ x. x * rest) (mul_comm n elements) ∙ mul_assoc elements n rest in
    ap near turned ∙ near_product rest (n * elements) ∙ ap near whole

pub pointer_size : (stars : ℕ) (t : Ty) → 0 < stars → size (pointers stars t) ≡ 4
pointer_size zero t h = absurd (omega arith)
pointer_size (suc stars) t h = refl

pointer_alignment : (stars : ℕ) (t : Ty) → 0 < stars → alignment (pointers stars t) ≡ 4
pointer_alignment zero t h = absurd (omega arith)
pointer_alignment (suc stars) t h = refl

pub no_pointer : (stars : ℕ) (t : Ty) → stars ≤ 0 → pointers stars t ≡ t
no_pointer zero t h = refl
no_pointer (suc stars) t h = absurd (omega arith)

sized_alignment : (sizes : Exprs) (t : Ty) → alignment (sized sizes t) ≡ alignment t
sized_alignment expr.NoMore t = refl
sized_alignment (expr.More e sizes) t = sized_alignment sizes t

pub declared_alignment_to : (d : Var) → 0 < d.stars → alignment (declared_shape d) ≡ 4
declared_alignment_to d h = sized_alignment d.sizes (pointers d.stars d.base) ∙ pointer_alignment d.stars d.base h

pub declared_alignment : (d : Var) → d.stars ≤ 0 → alignment (declared_shape d) ≡ alignment d.base
declared_alignment d h = sized_alignment d.sizes (pointers d.stars d.base) ∙ ap alignment (no_pointer d.stars d.base h)

pub ruleset extents = (near_product, pointer_size, no_pointer, declared_alignment_to, declared_alignment)
