-- What is declared without a breach, and isn't too large, has a size that fits.
use Rattle.std.proofs.Common.{◌≡◌, ℕ, zero, suc, ◌^◌, ◌<◌, ◌≤◌, inl, inr, subst, sym, arith, Option, Some, None, List, [], ◌∷◌}
use Rattle.std.specs.Prelude.{Bool, true, false, not, IsSome, is_some}
use Rattle.std.specs.List.{AllByRecursion}
use Rattle.std.proofs.lemmas.Nat.{mul-le}
use Rattle.c_tree.specs.declared.storage.Storage.{Storage}
use Rattle.c_tree.specs.declared.breach.Broken.TheVariants.{Twice, Mismatch}
use Rattle.c_tree.specs.Ty.{Ty}
use Rattle.c_tree.specs.Ty as ty
use Rattle.c_tree.specs.Expr.{Exprs}
use Rattle.c_tree.specs.Expr as expr
use Rattle.c_tree.specs.Var.{Var}
use Rattle.c_tree.specs.Fun.{Param}
use Rattle.c_tree.specs.Scope.{Scope}
use Rattle.c_tree.specs.Breach.{unless}
use Rattle.c_tree.specs.Constant.{constant_shape, value_of}
use Rattle.c_tree.specs.Shapes.{is_integer, is_unsigned}
use Rattle.c_tree.specs.Declarators.{pointers, count_of, sized, element_shape, declared_shape, pointer_where, parameter_shape, is_below_one, fit_sizes, constants_breaches, declarator_breaches}
use Rattle.c_tree.proofs.NoBreach.{nil_left, nil_right, holds, left_true, right_true}
use Rattle.c_layout.specs.Sizes.{size}
use Rattle.c_semantics.specs.Evaluated.{HaveValues}
use Rattle.c_semantics.proofs.ConstantValues.{have_values}
use Rattle.low_expr.specs.FittingNames.{SizeFits, ShapeFits}
use Rattle.low_stmt.specs.FittingTexts.{ParametersFit}
use Rattle.low_stmt.specs.ParsedTexts.{IsParsedParam, IsParsedResult}

abbrev pub Fits : Ty → Type 0
Fits t = SizeFits t × ShapeFits t

stars_fit : (stars : ℕ) (base : Ty) → is_integer base ≡ true
    → Fits (pointers stars base) × (size (pointers stars base) ≤ 4)
stars_fit zero ty.Int h = (((omega arith, omega arith), tt), omega arith)
stars_fit zero ty.Unsigned h = (((omega arith, omega arith), tt), omega arith)
stars_fit zero ty.Char h = (((omega arith, omega arith), tt), omega arith)
stars_fit zero t h = absurd cc
stars_fit (suc stars) base h =
    (((omega arith, omega arith), (stars_fit stars base h).0), omega arith)

-- a size that is a constant is at least 1
at_least_one : (unsigned : Bool) (v : Option ℕ) → not (is_below_one unsigned v) ≡ true
    → IsSome v → 0 < count_of v
at_least_one unsigned None h s = absurd cc
at_least_one unsigned (Some zero) h s = absurd cc
at_least_one unsigned (Some (suc n)) h s = omega arith

sized_fit : (sizes : Exprs) (t : Ty) → Fits t → HaveValues sizes → fit_sizes sizes ≡ true
    → size (sized sizes t) < 2 ^ 31 → Fits (sized sizes t)
sized_fit expr.NoMore t fit have right small = fit
sized_fit (expr.More s rest) t fit have right small =
    let n = count_of (value_of s) in
    let m = size (sized rest t) in
    let own = not (is_below_one (is_unsigned (constant_shape s)) (value_of s)) in
    let some = at_least_one _ (value_of s) (left_true own (fit_sizes rest) right) have.0 in
    let more = mul-le 1 m n m (omega (arith, some)) (omega arith) in
    let inner = sized_fit rest t fit have.1 (right_true own (fit_sizes rest) right) (omega (arith, more, small)) in
    ((omega (arith, more, inner.0), small), inner)

-- of a variable that isn't too large
pub declared_fits : (storage : Storage) (scope : Scope) (d : Var) → is_integer d.base ≡ true
    → declarator_breaches storage scope d ≡ [] → size (declared_shape d) < 2 ^ 31
    → Fits (declared_shape d)
declared_fits storage scope d integer h small =
    let two = nil_right (constants_breaches scope d.sizes) _ h in
    let three = nil_right (unless (not (is_some (scope.inner d.name))) Twice d.place) _ two in
    let right = holds (fit_sizes d.sizes) Mismatch d.place (nil_left _ _ three) in
    sized_fit d.sizes (element_shape d) (stars_fit d.stars d.base integer).0
    (have_values scope d.sizes (nil_left _ _ h)) right small

-- of a parameter
parameter_fits : (p : Param) → IsParsedParam p
    → Fits (parameter_shape p) × (size (parameter_shape p) ≤ 4)
parameter_fits p h = by p.array
  where
    by : (array : Bool) → (let t = pointer_where array (pointers p.stars p.base) in Fits t × (size t ≤ 4))
    by true = stars_fit (suc p.stars) p.base h
    by false = stars_fit p.stars p.base h

pub parameters_fit : (ps : List Param) → AllByRecursion IsParsedParam ps → ParametersFit ps
parameters_fit [] h = tt
parameters_fit (p ∷ ps) h =
    let one = parameter_fits p h.0 in
    (one.0.0, one.0.1, one.1, parameters_fit ps h.1)

-- of a result
pub result_fits : (base : Ty) (stars : ℕ) → IsParsedResult base stars
    → ShapeFits (pointers stars base)
result_fits base stars (inl integer) = (stars_fit stars base integer).0.1
result_fits base stars (inr void) =
    subst (λ n. ShapeFits (pointers n base)) (sym void.1) (subst ShapeFits (sym void.0) tt)
