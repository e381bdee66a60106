-- A constant without a breach has a value.
use Rattle.std.proofs.Common.{◌≡◌, ℕ, Bool, true, false, not, List, [], ◌∷◌, ◌++◌, Option, Some, None, is_some, refl}
use Rattle.std.specs.Prelude.{◌&&◌, ◌||◌, ◌==◌, if◌then◌else◌, IfSome}
use Rattle.c_tree.specs.declared.storage.Storage.TheVariants.{Static}
use Rattle.c_tree.specs.declared.usage.Use.TheVariants.{Value}
use Rattle.c_tree.specs.declared.breach.Breach.{Breach}
use Rattle.c_tree.specs.declared.breach.Broken.TheVariants.{NotConstant, Twice, Mismatch}
use Rattle.c_tree.specs.declared.place.Place.{Place}
use Rattle.c_tree.specs.Ty.{Ty}
use Rattle.c_tree.specs.Expr.{Expr, Exprs}
use Rattle.c_tree.specs.Expr as expr
use Rattle.c_tree.specs.Init.{Init}
use Rattle.c_tree.specs.Init as initial
use Rattle.c_tree.specs.Var.{Var}
use Rattle.c_tree.specs.Item.{Item}
use Rattle.c_tree.specs.Item as item
use Rattle.c_tree.specs.Scope.{Scope}
use Rattle.c_tree.specs.Shapes.{is_integer}
use Rattle.c_tree.specs.Breach.{unless}
use Rattle.c_tree.specs.Arithmetic.{converted}
use Rattle.c_tree.specs.Constant.{is_arithmetic, on_one, needs_second, chosen, value_of, is_ready, act_breaches, foreign_name, foreign, constant_breaches}
use Rattle.c_tree.specs.Accepted.{part_breaches, parts_breaches, behind_part}
use Rattle.c_tree.specs.Breaches.{breaches}
use Rattle.c_tree.specs.Declarators.{fit_sizes, constants_breaches, global_init_breaches, with_declarator, declarator_breaches, declarators_breaches}
use Rattle.c_tree.proofs.NoBreach.{nil_left, nil_right, holds, never, and_true}
use Rattle.c_semantics.specs.Evaluated.{HaveValues, IsConstant, AreConstant}
use Rattle.c_semantics.specs.Meaning.{global_declarators}

-- what is no form of a constant is a breach
not_foreign : (scope : Option Scope) (e : Expr) (at : Place) → foreign scope e at ≡ [] → ⊥
not_foreign None e at h = never NotConstant at h
not_foreign (Some scope) e at h = never NotConstant at (nil_right (breaches scope Value e) _ h)

not_named : (scope : Option Scope) (name : List ℕ) (at : Place) → foreign_name scope name at ≡ []
    → ⊥
not_named None name at h = never NotConstant at h
not_named (Some scope) name at h = never _ at h

is_form : (b : Bool) (own other : List Breach) → (if b then own else other) ≡ [] → (other ≡ [] → ⊥)
    → (b ≡ true) × (own ≡ [])
is_form true own other h none = (refl, h)
is_form false own other h none = absurd (none h)

some_where : (b : Bool) (v : Option ℕ) → b ≡ true → is_some v ≡ true
    → is_some (if b then v else None) ≡ true
some_where true v h s = s
some_where false v h s = cc

-- an act that is evaluated has a value where its operands have
act_value : (live ready : Bool) (value : Option ℕ) (at : Place)
    → act_breaches live ready value at ≡ []
    → live ≡ true → ready ≡ true → is_some value ≡ true
act_value true true value at h l r = holds _ NotConstant at h
act_value true false value at h l r = cc
act_value false ready value at h l r = cc

are_ready : (second x y : Bool) → x ≡ true → (second ≡ true → y ≡ true)
    → x && (not second || y) ≡ true
are_ready true true y h k = k refl
are_ready false true y h k = refl
are_ready second false y h k = cc

one_chosen : (b : Bool) (v w : Option ℕ) → ((if b then false else true) ≡ true → is_some v ≡ true)
    → ((if b then true else false) ≡ true → is_some w ≡ true) → is_some (if b then w else v) ≡ true
one_chosen true v w h k = k refl
one_chosen false v w h k = h refl

conditional_value : (c v w : Option ℕ) → is_some c ≡ true
    → (chosen false c true false ≡ true → is_some v ≡ true)
    → (chosen false c false true ≡ true → is_some w ≡ true) → is_some (chosen None c v w) ≡ true
conditional_value None v w s h k = cc
conditional_value (Some x) v w s h k = one_chosen (x == 0) v w h k

converted_value : (to : Ty) (v : Option ℕ) → is_some v ≡ true
    → is_some (on_one (λ x. Some (converted to x)) v) ≡ true
converted_value to None s = cc
converted_value to (Some x) s = refl

module _ (scope : Option Scope) where
  has_value : (live : Bool) (e : Expr) → constant_breaches scope live e ≡ [] → live ≡ true
      → is_some (value_of e) ≡ true
  has_value live (expr.Number t n at) h l =
      some_where (is_integer t) (Some n) (is_form (is_integer t) [] _ h (not_foreign scope (expr.Number t n at) at)).0 refl
  has_value live (expr.Character code at) h l = refl
  has_value live (expr.Eof at) h l = refl
  has_value live (expr.Unary op a at) h l =
      let own = (is_form (is_arithmetic op) _ _ h (not_foreign scope (expr.Unary op a at) at)).1 in
      let act = nil_right (constant_breaches scope live a) _ own in
      act_value live (is_some (value_of a)) _ at act l (has_value live a (nil_left _ _ own) l)
  has_value live (expr.Cast to a at) h l =
      let form = is_form (is_integer to) _ _ h (not_foreign scope (expr.Cast to a at) at) in
      some_where (is_integer to) _ form.0 (converted_value to (value_of a) (has_value live a form.1 l))
  has_value live (expr.Binary op a b at) h l =
      let second = needs_second op (value_of a) in
      let two = nil_right (constant_breaches scope live a) _ h in
      let here = nil_left (constant_breaches scope (live && second) b) _ two in
      let later : second ≡ true → is_some (value_of b) ≡ true = λ s.
      has_value (live && second) b here (and_true live second l s) in
      let ready = are_ready second (is_some (value_of a)) (is_some (value_of b)) (has_value live a (nil_left _ _ h) l) later in
      let own = nil_right (constant_breaches scope (live && second) b) _ two in
      act_value live (is_ready op (value_of a) (value_of b)) (value_of (expr.Binary op a b at)) at own l ready
  has_value live (expr.Conditional c a b at) h l =
      let first = chosen false (value_of c) true false in
      let other = chosen false (value_of c) false true in
      let left = constant_breaches scope (live && first) a in
      let right = constant_breaches scope (live && other) b in
      let two = nil_right (constant_breaches scope live c) (left ++ right) h in
      let three = nil_right left right two in
      let test = nil_left (constant_breaches scope live c) (left ++ right) h in
      conditional_value (value_of c) (value_of a) (value_of b) (has_value live c test l)
      (λ s. has_value (live && first) a (nil_left left right two) (and_true live first l s))
      (λ s. has_value (live && other) b three (and_true live other l s))
  has_value live (expr.Name name at) h l = absurd (not_named scope name at h)
  has_value live (expr.Step how a at) h l = absurd (not_foreign scope (expr.Step how a at) at h)
  has_value live (expr.Assign how a b at) h l = absurd (not_foreign scope (expr.Assign how a b at) at h)
  has_value live (expr.Index a b at) h l = absurd (not_foreign scope (expr.Index a b at) at h)
  has_value live (expr.Call name all at) h l = absurd (not_foreign scope (expr.Call name all at) at h)

pub have_values : (scope : Scope) (es : Exprs) → constants_breaches scope es ≡ []
    → HaveValues es
have_values scope expr.NoMore h = tt
have_values scope (expr.More e rest) h =
    (has_value (Some scope) true e (nil_left _ _ h) refl, have_values scope rest (nil_right (constant_breaches (Some scope) true e) _ h))

-- what globals are initialised with

is_constant : (scope : Scope) (d : Var) (init : Option Init)
    → global_init_breaches scope d init ≡ [] → IfSome init IsConstant
is_constant scope d None h = tt
is_constant scope d (Some (initial.One e)) h = has_value (Some scope) true e (nil_left _ _ h) refl
is_constant scope d (Some (initial.Many es)) h = have_values scope es (nil_left _ _ h)

are_constant : (ds others : List Var) (scope : Scope)
    → declarators_breaches Static scope ds ≡ [] → AreConstant others → AreConstant (ds ++ others)
are_constant [] others scope h rest = rest
are_constant (d ∷ ds) others scope h rest =
    let one = nil_left (declarator_breaches Static scope d) _ h in
    let two = nil_right (constants_breaches scope d.sizes) _ one in
    let three = nil_right (unless (not (is_some (scope.inner d.name))) Twice d.place) _ two in
    let init = nil_right (unless (fit_sizes d.sizes) Mismatch d.place) _ three in (
      have_values scope d.sizes (nil_left _ _ one),
      is_constant (with_declarator d scope) d d.init init,
      are_constant ds others (with_declarator d scope) (nil_right (declarator_breaches Static scope d) _ h) rest,
    )

pub globals_constant : (text ps before : List Item) (scope : Scope)
    → parts_breaches text before scope ps ≡ [] → AreConstant (global_declarators ps)
globals_constant text [] before scope h = tt
globals_constant text (p ∷ ps) before scope h =
    let rest = globals_constant text ps (before ++ p ∷ []) (behind_part text p scope) (nil_right (part_breaches text before scope p) _ h) in
    of_part p (nil_left _ _ h) rest
  where
    of_part : (p : Item) → part_breaches text before scope p ≡ []
        → AreConstant (global_declarators ps) → AreConstant (global_declarators (p ∷ ps))
    of_part (item.Vars keep ds) own rest = are_constant ds (global_declarators ps) scope own rest
    of_part (item.Fun f) own rest = rest
