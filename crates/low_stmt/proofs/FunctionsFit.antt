-- A function without a breach fits, where its frame isn't too large.
use Rattle.std.proofs.Common.{◌≡◌, ℕ, ◌+◌, ◌*◌, ◌%◌, ◌^◌, ◌≤◌, List, [], ◌∷◌, ◌++◌, length, map, arith, Option, Some, None}
use Rattle.std.specs.Prelude.{Bool, true, false, not, nat_le}
use Rattle.std.specs.List.{AllByRecursion}
use Rattle.std.proofs.lemmas.Bool.{leb-true}
use Rattle.c_tree.specs.declared.limits.TheConstants.{MOST_PARAMETERS}
use Rattle.c_tree.specs.declared.breach.Broken.TheVariants.{Twice}
use Rattle.c_tree.specs.Var.{Var}
use Rattle.c_tree.specs.Fun.{Param, Fun}
use Rattle.c_tree.specs.Stmt.{Stmts}
use Rattle.c_tree.specs.Scope.{Scope, entered}
use Rattle.c_tree.specs.Breach.{unless}
use Rattle.c_tree.specs.Accepted.{result_shape, with_name as with_known, with_parameter as with_known_parameter, with_parameters as with_known_parameters, parameters_breaches, definition_breaches}
use Rattle.c_tree.specs.Declarators.{parameter_shape}
use Rattle.c_tree.proofs.NoBreach.{nil_right}
use Rattle.c_layout.specs.Frames.{frame_of, body_locals, room_of, room_of_parameter, rooms, offsets_from, end_from}
use Rattle.c_semantics.specs.declared.home.Home.TheVariants.{InFrame}
use Rattle.c_semantics.specs.Names.{Names, Definition, held}
use Rattle.c_semantics.specs.Meaning.{with_parameter, with_parameters}
use Rattle.low_stmt.specs.FittingTexts.{FunFits}
use Rattle.low_stmt.specs.FunCode.{last_word, body_of}
use Rattle.low_stmt.specs.ParsedTexts.{AreParsedStmts, IsParsedParam}
use Rattle.low_stmt.proofs.CallFrames.{end_after, frame_sized}
use Rattle.low_stmt.proofs.DeclaredSizes.{parameters_fit}
use Rattle.low_stmt.proofs.PlacedNames.{AreAligned, aligned_drop, IsPlaced, PlacedNames, placed_object, placed_entered, in_frame}
use Rattle.low_stmt.proofs.PlacesOfLocals.{all_within}
use Rattle.low_stmt.proofs.StatementsFit.{stmts_fit}
use Rattle.low_stmt.proofs.TextsAreReady.{frame_ends}

-- Offsets in a frame are those of words.

rooms_aligned : (ps : List Param) (ds : List Var)
    → AreAligned (map room_of_parameter ps ++ map room_of ds)
rooms_aligned [] [] = tt
rooms_aligned [] (d ∷ ds) = (omega arith, rooms_aligned [] ds)
rooms_aligned (p ∷ ps) ds = (omega arith, rooms_aligned ps ds)

offsets_aligned : (at : ℕ) (rs : List ℕ) → at % 4 ≡ 0 → AreAligned rs
    → AreAligned (offsets_from at rs)
offsets_aligned at [] h aligned = tt
offsets_aligned at (r ∷ rs) h aligned =
    (h, offsets_aligned (at + r) rs (omega (arith, h, aligned.0)) aligned.1)

module _ (defined : List ℕ → Option Definition) (room top : ℕ) (small : 4 * top ≤ 2 ^ 16) where
  -- the names after parameters, with places before the other rooms
  placed_parameters : (scope : Scope) (names : Names) (at : ℕ) (ps : List Param) (others : List ℕ)
      → at % 4 ≡ 0 → end_from at (map room_of_parameter ps ++ others) ≤ 4 * top
      → PlacedNames defined room top scope names
      → PlacedNames defined room top (with_known_parameters ps scope)
      (with_parameters (offsets_from at (map room_of_parameter ps ++ others)) ps names)
  placed_parameters scope names at [] others aligned ends p = p
  placed_parameters scope names at (q ∷ ps) others aligned ends p =
      let places = offsets_from (at + 4) (map room_of_parameter ps ++ others) in
      let t = parameter_shape q in
      let later = end_after (at + 4) (map room_of_parameter ps ++ others) in
      placed_parameters (with_known_parameter q scope) (with_parameter (at ∷ places) t q.name names)
      (at + 4) ps others (omega (arith, aligned)) ends
      (one places q.name (in_frame defined room top small (held t) at aligned (omega (arith, later, ends))))
    where
      one : (places : List ℕ) (name : Option (List ℕ)) → IsPlaced defined room top (held (parameter_shape q)) (InFrame at)
          → PlacedNames defined room top (with_known name (parameter_shape q) scope)
          (with_parameter (at ∷ places) (parameter_shape q) name names)
      one places None placed = p
      one places (Some name) placed =
          placed_object defined room top name (parameter_shape q) (InFrame at) placed p

pub fun_fits : (defined : List ℕ → Option Definition) (names : Names) (before : Bool) (scope : Scope)
    (f : Fun) (body : Stmts)
    → ((room top : ℕ) → PlacedNames defined room top scope names)
    → nat_le (length f.parameters) MOST_PARAMETERS ≡ true
    → AllByRecursion IsParsedParam f.parameters → AreParsedStmts body
    → (frame_of f.parameters body).size ≤ 2 ^ 16
    → definition_breaches before scope f (Some body) ≡ [] → FunFits defined names f body
fun_fits defined names before scope f body placed few parameters parsed near h =
    let b = body_of names f body in
    let room = b.frame.slots in
    let top = last_word b.frame.size in
    let z = frame_sized f.parameters body in
    let small : 4 * top ≤ 2 ^ 16 = omega (arith, z.last, near) in
    let fit = parameters_fit f.parameters parameters in
    let ends = frame_ends f.parameters body in
    let all = all_within defined room top (4 * room) f.parameters body fit (omega arith) ends in
    let aligned = offsets_aligned (4 * room) (rooms f.parameters body) (omega arith)
    (rooms_aligned f.parameters (body_locals body)) in
    let p = placed_parameters defined room top small (entered scope) names (4 * room) f.parameters
    (map room_of (body_locals body)) (omega arith) ends
    (placed_entered defined room top (placed room top)) in
    let two = nil_right (unless (not before) Twice f.place) _ h in
    record {
      few = leb-true (length f.parameters) MOST_PARAMETERS few;
      parameters = fit;
      statements = stmts_fit defined room top small (result_shape f) false body
          (with_known_parameters f.parameters (entered scope)) b.names b.own p
          (aligned_drop (length f.parameters) b.frame.places aligned) parsed
          (nil_right (parameters_breaches (entered scope) f.parameters) _ two) all.1;
    }
