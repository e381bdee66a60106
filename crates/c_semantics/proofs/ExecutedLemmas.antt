-- A statement without a breach can be executed where its locals have places.
use Rattle.std.proofs.Common.{◌≡◌, ℕ, suc, ◌≤◌, length, drop, Bool, true, false, not, List, [], ◌∷◌, ◌++◌, Option, Some, None, is_some, arith, length-append, length-drop}
use Rattle.std.specs.Prelude.{◌≢◌, IfSome}
use Rattle.c_tree.specs.declared.storage.Storage.TheVariants.{Automatic}
use Rattle.c_tree.specs.declared.usage.Use.TheVariants.{Value}
use Rattle.c_tree.specs.declared.breach.Broken.TheVariants.{Twice, Mismatch}
use Rattle.c_tree.specs.declared.place.Place.{Place}
use Rattle.c_tree.specs.Ty.{Ty}
use Rattle.c_tree.specs.Expr.{Expr}
use Rattle.c_tree.specs.Init.{Init}
use Rattle.c_tree.specs.Init as initial
use Rattle.c_tree.specs.Var.{Var}
use Rattle.c_tree.specs.First.{First}
use Rattle.c_tree.specs.First as for_first
use Rattle.c_tree.specs.Stmt.{Stmt, Stmts, ElseBranch}
use Rattle.c_tree.specs.Stmt as stmt
use Rattle.c_tree.specs.Scope.{Scope, entered}
use Rattle.c_tree.specs.Shapes.{is_void}
use Rattle.c_tree.specs.Breach.{unless}
use Rattle.c_tree.specs.Breaches.{breaches, breaches_in}
use Rattle.c_tree.specs.Declarators.{declared_shape, with_declarator, with_declarators, fit_sizes, constants_breaches, local_init_breaches, declarator_breaches, declarators_breaches}
use Rattle.c_tree.specs.Statements.{behind as scope_behind, behind_beginning, test_breaches, optional_test_breaches, unused_breaches, beginning_breaches, return_breaches, statement_breaches, else_breaches, body_breaches}
use Rattle.c_tree.proofs.NoBreach.{nil_left, nil_right, holds, never, left_true, is_false}
use Rattle.c_layout.specs.Frames.{beginning_locals, locals, else_locals, body_locals}
use Rattle.c_semantics.specs.declared.home.Home.TheVariants.{InFrame, Nowhere}
use Rattle.c_semantics.specs.Names.{Names}
use Rattle.c_semantics.specs.Exec.{behind, with_local, with_locals_named, named_behind, named_beginning}
use Rattle.c_semantics.specs.Evaluated.{IsEvaluable, IsEvaluableUnused, IsReturnable, IsInitialisable, HasPlace, AreDeclarable, IsBeginnable, IsExecutable, IsExecutableElse, AreExecutable}
use Rattle.c_semantics.proofs.ConstantValues.{have_values}
use Rattle.c_semantics.proofs.SameNames.{SameNames, same_with, same_entered}
use Rattle.c_semantics.proofs.EvaluatedLemmas.{evaluable, evaluable_unused}

pub frame_is_somewhere : (place : ℕ) → InFrame place ≢ Nowhere
frame_is_somewhere place = λ e. cc

pub has_place : (n : ℕ) (places : List ℕ) → suc n ≤ length places → HasPlace places
has_place n [] le = absurd (omega arith)
has_place n (place ∷ places) le = tt

pub fewer : (n : ℕ) (places : List ℕ) → suc n ≤ length places → n ≤ length (drop 1 places)
fewer n places le = omega (arith, length-drop 1 places)

same_local : {scope : Scope} {names : Names} (places : List ℕ) (d : Var) → HasPlace places
    → SameNames scope names
    → SameNames (with_declarator d scope) (with_local places d names)
same_local [] d p s = absurd p
same_local (place ∷ places) d p s = same_with d.name (declared_shape d) (InFrame place) (frame_is_somewhere place) s

same_locals : (places : List ℕ) (ds : List Var) {scope : Scope} {names : Names}
    → length ds ≤ length places → SameNames scope names
    → SameNames (with_declarators ds scope) (with_locals_named places ds names)
same_locals places [] le s = s
same_locals places (d ∷ ds) le s =
    same_locals (drop 1 places) ds (fewer (length ds) places le) (same_local places d (has_place (length ds) places le) s)

initialisable : (scope : Scope) (names : Names) → SameNames scope names
    → (d : Var) (init : Option Init)
    → local_init_breaches scope d init ≡ [] → IfSome init (IsInitialisable names)
initialisable scope names s d None h = tt
initialisable scope names s d (Some (initial.One e)) h = evaluable scope names s e (nil_left _ _ h)
initialisable scope names s d (Some (initial.Many es)) h = never Mismatch d.place (nil_right (breaches_in scope es) _ h)

declarable : (scope : Scope) (names : Names) (places : List ℕ) (ds : List Var)
    → SameNames scope names → length ds ≤ length places
    → declarators_breaches Automatic scope ds ≡ [] → AreDeclarable names places ds
declarable scope names places [] s le h = tt
declarable scope names places (d ∷ ds) s le h =
    let one = nil_left (declarator_breaches Automatic scope d) _ h in
    let rest = nil_right (declarator_breaches Automatic scope d) _ h in
    let place = has_place (length ds) places le in
    let inner = same_local places d place s in
    let two = nil_right (constants_breaches scope d.sizes) _ one in
    let three = nil_right (unless (not (is_some (scope.inner d.name))) Twice d.place) _ two in
    let init = nil_right (unless (fit_sizes d.sizes) Mismatch d.place) _ three in (
      have_values scope d.sizes (nil_left _ _ one),
      place,
      initialisable (with_declarator d scope) (with_local places d names) inner d d.init init,
      declarable (with_declarator d scope) (with_local places d names) (drop 1 places) ds inner (fewer (length ds) places le) rest,
    )

module _ (scope : Scope) (names : Names) (s : SameNames scope names) where
  testable : (c : Expr) (at : Place) → test_breaches scope c at ≡ [] → IsEvaluable names c
  testable c at h = evaluable scope names s c (nil_left _ _ h)

  optionally_testable : (c : Option Expr) (at : Place)
      → optional_test_breaches scope c at ≡ [] → IfSome c (IsEvaluable names)
  optionally_testable None at h = tt
  optionally_testable (Some c) at h = testable c at h

  stepable : (d : Option Expr) → unused_breaches scope d ≡ []
      → IfSome d (IsEvaluableUnused names)
  stepable None h = tt
  stepable (Some d) h = evaluable_unused scope names s d h

  returnable : (result : Ty) (value : Option Expr) (at : Place)
      → return_breaches scope result value at ≡ [] → IsReturnable names result value
  returnable result None at h = holds (is_void result) Mismatch at h
  returnable result (Some e) at h =
      let own = holds _ Mismatch at (nil_right (breaches scope Value e) _ h) in
      (is_false (is_void result) (left_true (not (is_void result)) _ own), evaluable scope names s e (nil_left _ _ h))

  beginnable : (places : List ℕ) (f : First) → length (beginning_locals f) ≤ length places
      → beginning_breaches scope f ≡ [] → IsBeginnable names places f
  beginnable places for_first.Nothing le h = tt
  beginnable places (for_first.Vars ds) le h = declarable scope names places ds s le h
  beginnable places (for_first.Expr e) le h = evaluable_unused scope names s e h

  same_beginning : (places : List ℕ) (f : First) → length (beginning_locals f) ≤ length places
      → SameNames (behind_beginning f scope) (named_beginning places f names)
  same_beginning places for_first.Nothing le = s
  same_beginning places (for_first.Vars ds) le = same_locals places ds le s
  same_beginning places (for_first.Expr e) le = s

  same_behind : (places : List ℕ) (t : Stmt) → length (locals t) ≤ length places
      → SameNames (scope_behind t scope) (named_behind places t names)
  same_behind places (stmt.Vars ds at) le = same_locals places ds le s
  same_behind places t le = s

-- the places behind the first of two lists
places_behind : (first rest : List Var) (places : List ℕ)
    → length (first ++ rest) ≤ length places → length rest ≤ length (drop (length first) places)
places_behind first rest places le = omega (arith, length-append first rest, length-drop (length first) places)

places_before : (first rest : List Var) (places : List ℕ)
    → length (first ++ rest) ≤ length places → length first ≤ length places
places_before first rest places le = omega (arith, length-append first rest)

module _ (result : Ty) where
  mutual
    executable : (loop : Bool) (t : Stmt) (scope : Scope) (names : Names) (places : List ℕ)
        → SameNames scope names → length (locals t) ≤ length places
        → statement_breaches result loop t scope ≡ [] → IsExecutable result names places t
    executable loop (stmt.Empty at) scope names places s le h = tt
    executable loop (stmt.Expr e at) scope names places s le h = evaluable_unused scope names s e h
    executable loop (stmt.Vars ds at) scope names places s le h = declarable scope names places ds s le h
    executable loop (stmt.Block body at) scope names places s le h = all_executable loop body (entered scope) names places (same_entered s) le h
    executable loop (stmt.Marker m at) scope names places s le h = tt
    executable loop (stmt.If c t other at) scope names places s le h =
        let two = nil_right (test_breaches scope c at) _ h in
        let three = nil_right (statement_breaches result loop t (entered scope)) _ two in (
          testable scope names s c at (nil_left _ _ h),
          executable loop t (entered scope) names places (same_entered s) (places_before (locals t) (else_locals other) places le) (nil_left _ _ two),
          else_executable loop other scope names (behind t places) s (places_behind (locals t) (else_locals other) places le) three,
        )
    executable loop (stmt.While c t at) scope names places s le h = (
      testable scope names s c at (nil_left _ _ h),
      executable true t (entered scope) names places (same_entered s) le (nil_right (test_breaches scope c at) _ h),
    )
    executable loop (stmt.Do t c at) scope names places s le h = (
      executable true t (entered scope) names places (same_entered s) le (nil_left _ _ h),
      testable scope names s c at (nil_right (statement_breaches result true t (entered scope)) _ h),
    )
    executable loop (stmt.For f c d t at) scope names places s le h =
        let own = places_before (beginning_locals f) (locals t) places le in
        let later = places_behind (beginning_locals f) (locals t) places le in
        let outer = entered scope in
        let inside = behind_beginning f outer in
        let inner = named_beginning places f names in
        let same = same_beginning outer names (same_entered s) places f own in
        let two = nil_right (beginning_breaches outer f) _ h in
        let three = nil_right (optional_test_breaches inside c at) _ two in (
          beginnable outer names (same_entered s) places f own (nil_left _ _ h),
          optionally_testable inside inner same c at (nil_left _ _ two),
          stepable inside inner same d (nil_left _ _ three),
          executable true t (entered inside) inner (drop (length (beginning_locals f)) places) (same_entered same) later
              (nil_right (unused_breaches inside d) _ three),
        )
    executable loop (stmt.Return value at) scope names places s le h = returnable scope names s result value at h
    executable loop (stmt.Break at) scope names places s le h = tt
    executable loop (stmt.Continue at) scope names places s le h = tt

    else_executable : (loop : Bool) (other : ElseBranch) (scope : Scope) (names : Names)
        (places : List ℕ)
        → SameNames scope names → length (else_locals other) ≤ length places
        → else_breaches result loop other scope ≡ []
        → IsExecutableElse result names places other
    else_executable loop stmt.NoElse scope names places s le h = tt
    else_executable loop (stmt.Else t) scope names places s le h = executable loop t (entered scope) names places (same_entered s) le h

    pub all_executable : (loop : Bool) (body : Stmts) (scope : Scope) (names : Names)
        (places : List ℕ)
        → SameNames scope names → length (body_locals body) ≤ length places
        → body_breaches result loop body scope ≡ [] → AreExecutable result names places body
    all_executable loop stmt.NoMore scope names places s le h = tt
    all_executable loop (stmt.More t rest) scope names places s le h =
        let own = places_before (locals t) (body_locals rest) places le in
        let later = places_behind (locals t) (body_locals rest) places le in (
          executable loop t scope names places s own (nil_left _ _ h),
          all_executable loop rest (scope_behind t scope) (named_behind places t names) (behind t places) (same_behind scope names s places t own) later
              (nil_right (statement_breaches result loop t scope) _ h),
        )
