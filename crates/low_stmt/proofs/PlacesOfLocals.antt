-- The places of locals are within their frame.
use Rattle.std.proofs.Common.{◌≡◌, ℕ, ◌+◌, ◌*◌, ◌≤◌, List, [], ◌∷◌, ◌++◌, length, drop, map, refl, sym, subst, arith, Option}
use Rattle.c_tree.specs.Var.{Var}
use Rattle.c_tree.specs.Fun.{Param}
use Rattle.c_tree.specs.Stmt.{Stmt, Stmts}
use Rattle.c_tree.specs.Stmt as stmt
use Rattle.c_tree.specs.Declarators.{declared_shape}
use Rattle.c_layout.specs.Frames.{locals, body_locals, room_of, room_of_parameter, offsets_from, end_from}
use Rattle.c_layout.specs.Sizes.{size}
use Rattle.c_semantics.specs.declared.local.Local.{Local}
use Rattle.c_semantics.specs.Names.{Definition}
use Rattle.c_semantics.specs.Exec.{declared_locals, behind, statement_locals, block_locals}
use Rattle.c_semantics.specs.Meaning.{parameter_locals}
use Rattle.low_stmt.specs.FittingTexts.{ParametersFit}
use Rattle.low_stmt.specs.StmtReadiness.{AreWithin}
use Rattle.low_stmt.proofs.CallFrames.{end_after}

-- each declarator has a place for its local, between two offsets
abbrev pub Hold : (low high : ℕ) → List ℕ → List Var → Type 0
Hold low high places [] = Unit {0}
Hold low high [] (d ∷ ds) = ⊥
Hold low high (place ∷ places) (d ∷ ds) =
    (low ≤ place) × (place + size (declared_shape d) ≤ high) × Hold low high places ds

module _ (low high : ℕ) where
  pub hold_front : (places : List ℕ) (xs ys : List Var) → Hold low high places (xs ++ ys)
      → Hold low high places xs
  hold_front places [] ys h = tt
  hold_front [] (x ∷ xs) ys h = h
  hold_front (place ∷ places) (x ∷ xs) ys h = (h.0, h.1, hold_front places xs ys h.2)

  pub hold_back : (places : List ℕ) (xs ys : List Var) → Hold low high places (xs ++ ys)
      → Hold low high (drop (length xs) places) ys
  hold_back places [] ys h = h
  hold_back [] (x ∷ xs) ys h = absurd h
  hold_back (place ∷ places) (x ∷ xs) ys h = hold_back places xs ys h.2

  pub offsets_hold : (at : ℕ) (ds : List Var) → low ≤ at → end_from at (map room_of ds) ≤ high
      → Hold low high (offsets_from at (map room_of ds)) ds
  offsets_hold at [] le fits = tt
  offsets_hold at (d ∷ ds) le fits =
      let rest = end_after (at + room_of d) (map room_of ds) in
      (le, omega (arith, rest), offsets_hold (at + room_of d) ds (omega arith) fits)

module _ (defined : List ℕ → Option Definition) (room top : ℕ) where
  within_append : (xs ys : List Local) → AreWithin defined room top xs
      → AreWithin defined room top ys
      → AreWithin defined room top (xs ++ ys)
  within_append [] ys h g = g
  within_append (x ∷ xs) ys h g = (h.0, h.1, within_append xs ys h.2 g)

  pub declared_within : (places : List ℕ) (ds : List Var) → Hold (4 * room) (4 * top) places ds
      → AreWithin defined room top (declared_locals places ds)
  declared_within [] [] h = tt
  declared_within (place ∷ places) [] h = tt
  declared_within [] (d ∷ ds) h = absurd h
  declared_within (place ∷ places) (d ∷ ds) h = (h.0, h.1, declared_within places ds h.2)

  statement_within : (places : List ℕ) (s : Stmt) → Hold (4 * room) (4 * top) places (locals s)
      → AreWithin defined room top (statement_locals places s)
  statement_within places (stmt.Vars ds at) h = declared_within places ds h
  statement_within places (stmt.Empty at) h = tt
  statement_within places (stmt.Expr e at) h = tt
  statement_within places (stmt.Block body at) h = tt
  statement_within places (stmt.Marker m at) h = tt
  statement_within places (stmt.If c s other at) h = tt
  statement_within places (stmt.While c s at) h = tt
  statement_within places (stmt.Do s c at) h = tt
  statement_within places (stmt.For f c d s at) h = tt
  statement_within places (stmt.Return value at) h = tt
  statement_within places (stmt.Break at) h = tt
  statement_within places (stmt.Continue at) h = tt

  pub block_within : (places : List ℕ) (body : Stmts)
      → Hold (4 * room) (4 * top) places (body_locals body)
      → AreWithin defined room top (block_locals places body)
  block_within places stmt.NoMore h = tt
  block_within places (stmt.More s rest) h =
      within_append (statement_locals places s) (block_locals (behind s places) rest)
      (statement_within places s
      (hold_front (4 * room) (4 * top) places (locals s) (body_locals rest) h))
      (block_within (behind s places) rest
      (hold_back (4 * room) (4 * top) places (locals s) (body_locals rest) h))

  -- the places of the parameters, and where those of the locals begin
  pub record Begins (at : ℕ) (ps : List Param) (rooms : List ℕ) : Type 0 where
    pub from : ℕ
    pub later : at ≤ from
    pub own : drop (length ps) (offsets_from at (map room_of_parameter ps ++ rooms))
        ≡ offsets_from from rooms
    pub ends : end_from at (map room_of_parameter ps ++ rooms) ≡ end_from from rooms

  pub begins : (at : ℕ) (ps : List Param) (rooms : List ℕ) → Begins at ps rooms
  begins at [] rooms = record { from = at; later = omega arith; own = refl; ends = refl }
  begins at (p ∷ ps) rooms =
      let h = begins (at + 4) ps rooms in
      record { from = h.from; later = omega (arith, h.later); own = h.own; ends = h.ends }

  pub parameters_within : (at : ℕ) (ps : List Param) (rooms : List ℕ) → ParametersFit ps
      → 4 * room ≤ at → end_from at (map room_of_parameter ps ++ rooms) ≤ 4 * top
      → AreWithin defined room top
      (parameter_locals (offsets_from at (map room_of_parameter ps ++ rooms)) ps)
  parameters_within at [] [] fit le fits = tt
  parameters_within at [] (r ∷ rooms) fit le fits = tt
  parameters_within at (p ∷ ps) rooms fit le fits =
      let rest = end_after (at + 4) (map room_of_parameter ps ++ rooms) in
      (le, omega (arith, rest, fit.2), parameters_within (at + 4) ps rooms fit.3 (omega arith) fits)

  pub all_within : (at : ℕ) (ps : List Param) (body : Stmts) → ParametersFit ps → 4 * room ≤ at
      → (let rooms = map room_of_parameter ps ++ map room_of (body_locals body) in
      end_from at rooms ≤ 4 * top
      → AreWithin defined room top (parameter_locals (offsets_from at rooms) ps
      ++ block_locals (drop (length ps) (offsets_from at rooms)) body)
      × Hold (4 * room) (4 * top) (drop (length ps) (offsets_from at rooms)) (body_locals body))
  all_within at ps body fit le fits =
      let own = map room_of (body_locals body) in
      let places = offsets_from at (map room_of_parameter ps ++ own) in
      let b = begins at ps own in
      let h = offsets_hold (4 * room) (4 * top) b.from (body_locals body) (omega (arith, b.later)) (omega (arith, b.ends, fits)) in
      let g = subst (λ q. Hold (4 * room) (4 * top) q (body_locals body)) (sym b.own) h in (
        within_append (parameter_locals places ps) (block_locals (drop (length ps) places) body)
            (parameters_within at ps own fit le fits)
            (block_within (drop (length ps) places) body g),
        g,
      )
