-- What the checker knows as an object stands for a variable at a place that a marker can read; so
-- the markers without a breach are ready.
use Rattle.std.proofs.Common.{◌≡◌, ℕ, ◌*◌, ◌%◌, ◌^◌, ◌<◌, ◌≤◌, List, [], ◌∷◌, drop, zero, suc, refl, sym, ◌∙◌, subst, arith, Option, Some, None}
use Rattle.std.specs.Prelude.{Bool, true, false, bytes_eq, if◌then◌else◌, nat_lt, option_map}
use Rattle.std.specs.List.{AllByRecursion}
use Rattle.std.proofs.lemmas.Bool.{ltb-true}
use Rattle.c_tree.specs.declared.limits.TheConstants.{REGIONS, CHANNELS}
use Rattle.c_tree.specs.declared.breach.Broken.TheVariants.{Unknown, Marker as BadMarker}
use Rattle.c_tree.specs.declared.place.Place.{Place}
use Rattle.c_tree.specs.declared.tree.Count.{Count}
use Rattle.c_tree.specs.declared.tree.Count.TheVariants as amount
use Rattle.c_tree.specs.declared.tree.Marker.{Marker}
use Rattle.c_tree.specs.declared.tree.Marker.TheVariants as marker
use Rattle.c_tree.specs.Ty.{Ty}
use Rattle.c_tree.specs.Ty as ty
use Rattle.c_tree.specs.Var.{Var}
use Rattle.c_tree.specs.First.{First}
use Rattle.c_tree.specs.First as for_first
use Rattle.c_tree.specs.Stmt.{Stmt}
use Rattle.c_tree.specs.Stmt as stmt
use Rattle.c_tree.specs.Scope.{Known, ObjectOf, FunctionOf, Scope, look, look_outer, otherwise, declared, entered}
use Rattle.c_tree.specs.Breach.{unless}
use Rattle.c_tree.specs.Typing.{object}
use Rattle.c_tree.specs.Declarators.{declared_shape, with_declarator, with_declarators}
use Rattle.c_tree.specs.Statements.{behind as scope_behind, behind_beginning, is_sent, is_int, named_breaches, count_breaches, marker_breaches}
use Rattle.c_tree.proofs.BlocksLemmas.{look_entered}
use Rattle.c_tree.proofs.NoBreach.{nil_left, nil_right, holds, never}
use Rattle.c_layout.specs.Frames.{beginning_locals, locals}
use Rattle.c_semantics.specs.declared.home.Home.{Home}
use Rattle.c_semantics.specs.declared.home.Home.TheVariants.{InFrame}
use Rattle.c_semantics.specs.declared.kind.Held.{Held}
use Rattle.c_semantics.specs.declared.kind.Held.TheVariants.{Byte, Word, Array}
use Rattle.c_semantics.specs.Names.{Names, Named, Variable, Definition, with_name, known, held, held_by, home_of}
use Rattle.c_semantics.specs.Exec.{with_local, with_locals_named, named_behind, named_beginning}
use Rattle.low_expr.specs.Readiness.{HomeFits}
use Rattle.low_stmt.specs.ParsedTexts.{IsParsedCount, IsParsedMarker}
use Rattle.low_stmt.specs.StmtReadiness.{IsWordAt, IsTaken, IsTakenVariable, IsTakenCount, IsReadyMarker}
use Rattle.low_stmt.proofs.PlacesOfLocals.{Hold}

-- offsets of words
abbrev pub AreAligned : List ℕ → Type 0
AreAligned = AllByRecursion (λ place. place % 4 ≡ 0)

pub aligned_drop : (n : ℕ) (places : List ℕ) → AreAligned places → AreAligned (drop n places)
aligned_drop zero places h = h
aligned_drop (suc n) [] h = tt
aligned_drop (suc n) (place ∷ places) h = aligned_drop n places h.1

-- a name that a marker may name is known as an object of a type that is right
record IsKnownObject (fits : Ty → Bool) (k : Option Known) : Type 0 where
  pub shape : Ty
  pub is : k ≡ Some (ObjectOf shape)
  pub right : fits shape ≡ true

known_object : (fits : Ty → Bool) (k : Option Known) (name_at at : Place)
    → named_breaches fits k name_at at ≡ [] → IsKnownObject fits k
known_object fits None name_at at h = never Unknown name_at h
known_object fits (Some (ObjectOf t)) name_at at h =
    record { shape = t; is = refl; right = holds (fits t) BadMarker at h }
known_object fits (Some (FunctionOf t ps d)) name_at at h = never BadMarker at h

module _ (defined : List ℕ → Option Definition) (room top : ℕ) where
  -- where an object is, by what it holds: a byte may be anywhere
  abbrev pub IsPlaced : Held → Home → Type 0
  IsPlaced Byte home = Unit {0}
  IsPlaced Word home = IsWordAt defined room top home
  IsPlaced Array home = HomeFits home

  pub record IsPlacedObject (t : Ty) (named : Option Named) : Type 0 where
    pub home : Home
    pub is : named ≡ Some (Variable t home)
    pub placed : IsPlaced (held t) home

  pub record PlacedNames (scope : Scope) (names : Names) : Type 0 where
    pub objects : (name : List ℕ) (t : Ty) → look scope name ≡ Some (ObjectOf t)
        → IsPlacedObject t (names name)

  -- A name more, and a block more.

  pub placed_with : {scope : Scope} {names : Names} (name : List ℕ) (k : Known) (n : Named)
      → ((t : Ty) → k ≡ ObjectOf t → IsPlacedObject t (Some n)) → PlacedNames scope names
      → PlacedNames (declared name k scope) (with_name name n names)
  placed_with {scope} {names} name k n new p =
      record { objects = λ other t. decided (bytes_eq name other) other t }
    where
      decided : (b : Bool) (other : List ℕ) (t : Ty)
          → otherwise (if b then Some k else scope.inner other) (look_outer scope.outer other)
          ≡ Some (ObjectOf t)
          → IsPlacedObject t (if b then Some n else names other)
      decided true other t h = let same : k ≡ ObjectOf t = cc in new t same
      decided false other t h = p.objects other t h

  pub placed_object : {scope : Scope} {names : Names} (name : List ℕ) (t : Ty) (home : Home)
      → IsPlaced (held t) home → PlacedNames scope names
      → PlacedNames (declared name (ObjectOf t) scope) (with_name name (Variable t home) names)
  placed_object name t home placed p = placed_with name (ObjectOf t) (Variable t home) new p
    where
      new : (u : Ty) → ObjectOf t ≡ ObjectOf u → IsPlacedObject u (Some (Variable t home))
      new u h =
          let same : t ≡ u = cc in
          subst (λ v. IsPlacedObject v (Some (Variable t home))) same
          (record { home = home; is = refl; placed = placed })

  pub placed_entered : {scope : Scope} {names : Names} → PlacedNames scope names
      → PlacedNames (entered scope) names
  placed_entered {scope} {names} p =
      record { objects = λ name t h. p.objects name t (sym (look_entered scope name) ∙ h) }

  -- Markers.

  -- an array or a pointer, and an int, isn't a byte
  sent_taken : (t : Ty) (home : Home) → is_sent t ≡ true → IsPlaced (held t) home
      → IsTaken defined room top (held t) home
  sent_taken (ty.Pointer t) home h p = p
  sent_taken (ty.Array t n) home h p = p
  sent_taken t home h p = absurd cc

  int_taken : (t : Ty) (home : Home) → is_int t ≡ true → IsPlaced (held t) home
      → IsTaken defined room top (held t) home
  int_taken ty.Int home h p = p
  int_taken t home h p = absurd cc

  variable_taken : {scope : Scope} {names : Names} (fits : Ty → Bool) (name : List ℕ)
      (name_at at : Place)
      → ((t : Ty) (home : Home) → fits t ≡ true → IsPlaced (held t) home
      → IsTaken defined room top (held t) home)
      → PlacedNames scope names → named_breaches fits (look scope name) name_at at ≡ []
      → IsTakenVariable defined room top names name name_at
  variable_taken {scope} {names} fits name name_at at taken p h =
      let k = known_object fits (look scope name) name_at at h in
      let o = p.objects name k.shape k.is in
      subst (λ (named : Option Named).
      IsTaken defined room top (held_by (object (otherwise (option_map known named) None))) (home_of named))
      (sym o.is) (taken k.shape o.home k.right o.placed)

  count_taken : {scope : Scope} {names : Names} (count : Count) (at : Place)
      → PlacedNames scope names → IsParsedCount count → count_breaches scope count at ≡ []
      → IsTakenCount defined room top names count
  count_taken (amount.Number n) at p words h = words
  count_taken (amount.Name name name_at) at p words h =
      variable_taken is_int name name_at at int_taken p h

  below : (n limit : ℕ) (at : Place) → limit ≤ 256
      → unless (nat_lt n limit) BadMarker at ≡ [] → n < 2 ^ 32
  below n limit at le h = omega (arith, le, ltb-true n limit (holds (nat_lt n limit) BadMarker at h))

  pub marker_ready : (scope : Scope) (names : Names) (m : Marker) (at : Place)
      → PlacedNames scope names → IsParsedMarker m → marker_breaches scope m at ≡ []
      → IsReadyMarker defined room top names m
  marker_ready scope names (marker.Begin k) at p words h = below k REGIONS at (omega arith) h
  marker_ready scope names (marker.End k) at p words h = below k REGIONS at (omega arith) h
  marker_ready scope names (marker.Wait channel) at p words h =
      below channel CHANNELS at (omega arith) h
  marker_ready scope names (marker.Post channel name name_at count) at p words h =
      let two = nil_right (unless (nat_lt channel CHANNELS) BadMarker at) _ h in (
        below channel CHANNELS at (omega arith) (nil_left _ _ h),
        variable_taken is_sent name name_at at sent_taken p (nil_left _ _ two),
        count_taken count at p words
            (nil_right (named_breaches is_sent (look scope name) name_at at) _ two),
      )

  -- Locals.

  module _ (small : 4 * top ≤ 2 ^ 16) where
    pub in_frame : (h : Held) (place : ℕ) → place % 4 ≡ 0 → place ≤ 4 * top
        → IsPlaced h (InFrame place)
    in_frame Byte place aligned le = tt
    in_frame Word place aligned le = (aligned, le, omega (arith, small, le))
    in_frame Array place aligned le = omega (arith, small, le)

    pub placed_locals : (scope : Scope) (names : Names) (places : List ℕ) (ds : List Var)
        → PlacedNames scope names → Hold (4 * room) (4 * top) places ds → AreAligned places
        → PlacedNames (with_declarators ds scope) (with_locals_named places ds names)
    placed_locals scope names places [] p hold aligned = p
    placed_locals scope names [] (d ∷ ds) p hold aligned = absurd hold
    placed_locals scope names (place ∷ places) (d ∷ ds) p hold aligned =
        let t = declared_shape d in
        placed_locals (with_declarator d scope) (with_local (place ∷ places) d names) places ds
        (placed_object d.name t (InFrame place)
        (in_frame (held t) place aligned.0 (omega (arith, hold.1))) p)
        hold.2 aligned.1

    pub placed_beginning : (scope : Scope) (names : Names) (places : List ℕ) (f : First)
        → PlacedNames scope names → Hold (4 * room) (4 * top) places (beginning_locals f)
        → AreAligned places
        → PlacedNames (behind_beginning f scope) (named_beginning places f names)
    placed_beginning scope names places for_first.Nothing p hold aligned = p
    placed_beginning scope names places (for_first.Vars ds) p hold aligned =
        placed_locals scope names places ds p hold aligned
    placed_beginning scope names places (for_first.Expr e) p hold aligned = p

    pub placed_behind : (scope : Scope) (names : Names) (places : List ℕ) (s : Stmt)
        → PlacedNames scope names → Hold (4 * room) (4 * top) places (locals s)
        → AreAligned places
        → PlacedNames (scope_behind s scope) (named_behind places s names)
    placed_behind scope names places (stmt.Vars ds at) p hold aligned =
        placed_locals scope names places ds p hold aligned
    placed_behind scope names places s p hold aligned = p
