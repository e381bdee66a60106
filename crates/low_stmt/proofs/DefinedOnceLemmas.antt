-- The functions of a text that breaks no rule are defined once.
use Rattle.std.proofs.Common.{◌≡◌, Bool, true, false, not, ◌||◌, ◌&&◌, is_some, ℕ, List, [], ◌∷◌, ◌++◌, Option, Some, None, refl, ap, sym, ◌∙◌, true≢false}
use Rattle.std.specs.Prelude.{bytes_eq, IfSome}
use Rattle.std.proofs.lemmas.Bool.{or_left, or_right}
use Rattle.std.proofs.lemmas.Slice.Eq.{bytes_eq-Decides}
use Rattle.c_tree.specs.declared.breach.Broken.TheVariants.{Twice, TooManyParameters}
use Rattle.c_tree.specs.declared.breach.Ranking.TheVariants.{ForChecks}
use Rattle.c_tree.specs.Accepted.{result_shape, parameter_shapes, is_defined, is_defined_by, again_breaches, definition_breaches, with_function, behind_part, part_breaches, parts_breaches, text_breaches, text_fault, has_main}
use Rattle.c_tree.specs.Breach.{unless, least_of, nothing_found}
use Rattle.c_tree.specs.Fun.{Fun}
use Rattle.c_tree.specs.Item.{Item}
use Rattle.c_tree.specs.Item as item
use Rattle.c_tree.specs.Scope.{Scope, empty_scope}
use Rattle.c_tree.specs.Stmt.{Stmts}
use Rattle.c_tree.proofs.LeastBreach.{least_none}
use Rattle.c_tree.proofs.NoBreach.{nil_left, nil_right, holds, is_false}
use Rattle.c_semantics.proofs.FileScope.{same_bytes}
use Rattle.low_stmt.specs.DefinedOnce.{AreDefinedOnce}
use Rattle.low_stmt.proofs.AcceptedTexts.{no_fault}

or_more : (a b c : Bool) → (b ≡ true → c ≡ true) → (a || b) ≡ true → (a || c) ≡ true
or_more true b c more h = refl
or_more false b c more h = more h

-- what is defined before stays so
still_defined : (before : List Item) (p : Item) (name : List ℕ) → is_defined before name ≡ true
    → is_defined (before ++ p ∷ []) name ≡ true
still_defined [] p name h = absurd (true≢false (sym h))
still_defined (q ∷ before) p name h =
    or_more (is_defined_by name q) (is_defined before name) (is_defined (before ++ p ∷ []) name)
    (still_defined before p name) h

then_defined : (before : List Item) (p : Item) (name : List ℕ) → is_defined_by name p ≡ true
    → is_defined (before ++ p ∷ []) name ≡ true
then_defined [] p name h = or_left (is_defined_by name p) false h
then_defined (q ∷ before) p name h =
    or_right (is_defined_by name q) (is_defined (before ++ p ∷ []) name) (then_defined before p name h)

-- a definition that is right is the first of its name
first_of_name : (before : Bool) (scope : Scope) (f : Fun) (body : Option Stmts)
    → definition_breaches before scope f body ≡ [] → IfSome body (λ s. before ≡ false)
first_of_name before scope f None right = tt
first_of_name before scope f (Some body) right =
    is_false before (holds (not before) Twice f.place (nil_left _ _ right))

-- so what is defined before isn't defined by it
not_again : (f : Fun) (body : Option Stmts) (defined : List ℕ → Bool) (name : List ℕ)
    → IfSome body (λ s. defined f.name ≡ false) → defined name ≡ true
    → is_some body && bytes_eq f.name name ≡ false
not_again f None defined name first before = refl
not_again f (Some body) defined name first before = by (bytes_eq f.name name) refl
  where
    by : (b : Bool) → bytes_eq f.name name ≡ b → b ≡ false
    by true e = absurd (true≢false (sym before ∙ ap defined (sym (same_bytes f.name name e)) ∙ first))
    by false e = refl

both_false : (a b : Bool) → a ≡ false → b ≡ false → a || b ≡ false
both_false true b h g = absurd (true≢false h)
both_false false b h g = g

module _ (all : List Item) where
  own_right : (before : List Item) (scope : Scope) (f : Fun)
      → part_breaches all before scope (item.Fun f) ≡ []
      → IfSome f.body (λ s. is_defined before f.name ≡ false)
  own_right before scope f right =
      let again = again_breaches (scope.inner f.name) (result_shape f) (parameter_shapes f.parameters) f.place in
      first_of_name (is_defined before f.name) (with_function all f scope) f f.body
      (nil_right (unless _ TooManyParameters f.place) _ (nil_right again _ right))

  part_new : (before : List Item) (scope : Scope) (p : Item) (name : List ℕ)
      → part_breaches all before scope p ≡ [] → is_defined before name ≡ true
      → is_defined_by name p ≡ false
  part_new before scope (item.Vars keep ds) name right h = refl
  part_new before scope (item.Fun f) name right h =
      not_again f f.body (is_defined before) name (own_right before scope f right) h

  parts_new : (before : List Item) (scope : Scope) (ps : List Item) (name : List ℕ)
      → parts_breaches all before scope ps ≡ [] → is_defined before name ≡ true
      → is_defined ps name ≡ false
  parts_new before scope [] name right h = refl
  parts_new before scope (p ∷ ps) name right h =
      both_false (is_defined_by name p) (is_defined ps name)
      (part_new before scope p name (nil_left _ _ right) h)
      (parts_new (before ++ p ∷ []) (behind_part all p scope) ps name (nil_right (part_breaches all before scope p) _ right) (still_defined before p name h))

  own_new : (before : List Item) (scope : Scope) (f : Fun) (ps : List Item) (body : Option Stmts)
      → f.body ≡ body → parts_breaches all before scope (item.Fun f ∷ ps) ≡ []
      → IfSome body (λ s. is_defined ps f.name ≡ false)
  own_new before scope f ps None e right = tt
  own_new before scope f ps (Some body) e right =
      let named : is_defined_by f.name (item.Fun f) ≡ true = rw (e) ((bytes_eq-Decides f.name f.name).1 refl) in
      parts_new (before ++ item.Fun f ∷ []) (with_function all f scope) ps f.name
      (nil_right (part_breaches all before scope (item.Fun f)) _ right)
      (then_defined before (item.Fun f) f.name named)

  defined_once : (before : List Item) (scope : Scope) (ps : List Item)
      → parts_breaches all before scope ps ≡ [] → AreDefinedOnce ps
  defined_once before scope [] right = tt
  defined_once before scope (item.Vars keep ds ∷ ps) right =
      defined_once (before ++ item.Vars keep ds ∷ []) _ ps (nil_right (part_breaches all before scope (item.Vars keep ds)) _ right)
  defined_once before scope (item.Fun f ∷ ps) right = (
    own_new before scope f ps f.body refl right,
    defined_once (before ++ item.Fun f ∷ []) _ ps (nil_right (part_breaches all before scope (item.Fun f)) _ right),
  )

pub accepted_once : (text : List Item) → text_fault text ≡ None → AreDefinedOnce text
accepted_once text faultless =
    let least = least_of (nothing_found ForChecks) (text_breaches text) in
    let none = no_fault least.found (has_main text) faultless in
    let right = least_none (nothing_found ForChecks) (text_breaches text) none.0 in
    defined_once text [] empty_scope text (nil_left _ _ right)
