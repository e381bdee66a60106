-- Statements that are added part by part, with the ends of their regions.
use Rattle.std.proofs.Common.{◌≡◌, ℕ, ◌+◌, ◌<◌, ◌≤◌, ◌⊎◌, ⊎_elim, List, [], ◌∷◌, drop, length, Option, Some, None, refl, ap, sym, subst, ◌∙◌, arith, append-nil}
use Rattle.c_tree.specs.declared.place.Place.{Place}
use Rattle.c_tree.specs.Expr.{Expr}
use Rattle.c_tree.specs.First.{First}
use Rattle.c_tree.specs.Stmt.{Stmt, Stmts, ElseBranch}
use Rattle.c_tree.specs.Stmt as stmt
use Rattle.c_tree.specs.Ty.{Ty}
use Rattle.c_layout.specs.Frames.{beginning_locals}
use Rattle.c_semantics.specs.Exec.{behind, named_beginning, named_behind}
use Rattle.c_semantics.specs.Names.{Definition}
use Rattle.low_labels.specs.declared.test.Test.TheVariants as test
use Rattle.low_labels.specs.Closed.{place_in, IsUnplaced}
use Rattle.low_labels.specs.Emission.{Emission, emit_all}
use Rattle.low_labels.specs.Operation.{Operation, Do, Jump, Mark}
use Rattle.low_expr.specs.CodePieces.{nothing}
use Rattle.low_expr.specs.Lowering.{fresh_by}
use Rattle.low_expr.specs.ExprCode.{labels_in}
use Rattle.low_expr.proofs.MarkLemmas.{fresh_length}
use Rattle.low_stmt.specs.RegionEnds.{with_ends}
use Rattle.low_stmt.specs.StmtCode.{Targets, counted, in_loop, labels_in_first, labels_in_optional, labels_in_stmt, labels_in_else}
use Rattle.low_stmt.specs.private.Parts.{Part, joined, operations, labels_alone, IsAdded, IsWritten, Adds, Writes}
use Rattle.low_stmt.specs.private.StmtParts.{Scopes, test_part, optional_test_part, optional_part, first_part, stmt_part, stmts_part, else_part, loop_part, begin_part, other_part}
use Rattle.low_stmt.proofs.PartLemmas.{added_length, added_next, ends_next, added_wide, added_older, added_plain, added_closed}
use Rattle.low_stmt.proofs.UnplacedLabels.{ArePlain}

pub step_next : (from low : ℕ) (p q : Part) (old mid new : Emission) (e0 e1 e2 : List ℕ)
    → low ≤ length old.places → IsWritten from low p old mid e0 e1 → IsWritten from low q mid new e1 e2
    → IsWritten from low (joined p q) old new e0 e2
step_next from low p q old mid new e0 e1 e2 le h g = record {
  added = added_next from low p q old mid new le h.added g.added;
  ends = ends_next from low p q old mid new e0 e1 e2 h.added g.added h.ends g.ends;
}

pub step_operations : (from low : ℕ) (os : List Operation) (old new : Emission) (e : List ℕ)
    → low ≤ length old.places → new ≡ emit_all os old
    → ((k : ℕ) → (k < from) ⊎ (low ≤ k) → IsUnplaced k os)
    → IsWritten from low (operations os) old new e e
step_operations from low os old new e le is away =
    record { added = added_older from low os old new le is away; ends = refl }

pub step_plain : (from low : ℕ) (os : List Operation) (old new : Emission) (e : List ℕ)
    → low ≤ length old.places → new ≡ emit_all os old → ArePlain os
    → IsWritten from low (operations os) old new e e
step_plain from low os old new e le is plain =
    record { added = added_plain from low os old new le is plain; ends = refl }

-- a part with labels of its own, from a number on
pub step_own : (from low : ℕ) (part : ℕ → Part) (n : ℕ) (old new : Emission) (e0 e1 : List ℕ)
    → from ≤ low → low ≤ length old.places → length old.places ≡ n → Writes part old new e0 e1
    → IsWritten from low (part n) old new e0 e1
step_own from low part n old new e0 e1 le less is h =
    subst (λ k. IsWritten from low (part k) old new e0 e1) is
    (record { added = added_wide from low (part (length old.places)) old new le less h.added; ends = h.ends })

-- a part without ends
pub writes_none : (part : ℕ → Part) (old new : Emission) (e : List ℕ) → Adds part old new
    → (part (length old.places)).ends ≡ [] → Writes part old new e e
writes_none part old new e h none =
    record { added = h; ends = sym (ap (λ es. with_ends (place_in new.places) es e) none) }

pub step_as : (from low : ℕ) (p q : Part) (old new : Emission) (e0 e1 : List ℕ)
    → p.labels ≡ q.labels → ((ds : List Definition) → p.code ds ≡ q.code ds) → p.ends ≡ q.ends
    → IsWritten from low p old new e0 e1 → IsWritten from low q old new e0 e1
step_as from low p q old new e0 e1 labels code ends h =
    subst (λ part. IsWritten from low part old new e0 e1)
    (λ i. record { labels = labels i; code = λ ds. code ds i; ends = ends i }) h

pub step_closed : (n : ℕ) (p : Part) (old made new : Emission) (e0 e1 : List ℕ)
    → made ≡ fresh_by n old → IsWritten (length old.places) (length old.places + n) p made new e0 e1
    → IsWritten (length old.places) (length old.places) (joined (labels_alone n) p) old new e0 e1
step_closed n p old made new e0 e1 is h = record {
  added = added_closed n p old new (subst (λ (e : Emission). IsAdded (length old.places) (length old.places + n) p e new) is h.added);
  ends = h.ends;
}

module _ (functions : List ℕ → ℕ) (scope : Scopes) where
  -- the test of an `if`, whose two labels come before it
  pub begin_step : (c : Expr) (old m0 m1 m2 : Emission) → m0 ≡ fresh_by 2 old
      → m1 ≡ emit_all counted m0
      → Adds (test_part functions scope test.Eq (length old.places) c) m1 m2
      → IsAdded (length old.places) (length old.places + 2)
      (begin_part functions scope (length old.places) c (length old.places + 2)) (fresh_by 2 old) m2
  begin_step c old m0 m1 m2 made first tested =
      let n = length old.places in
      let low = n + 2 in
      let pc = test_part functions scope test.Eq n c low in
      let l0 : length m0.places ≡ low = ap (λ (e : Emission). length e.places) made ∙ fresh_length 2 old in
      let s1 = step_plain n low counted m0 m1 [] (omega arith) first tt in
      let l1 = added_length n low (operations counted) m0 m1 s1.added in
      let s2 = step_own n low (test_part functions scope test.Eq n c) low m1 m2 [] [] (omega arith) (omega arith) (omega arith) (record { added = tested; ends = refl }) in
      let b1 = step_next n low (operations counted) pc m0 m1 m2 [] [] [] (omega arith) s1 s2 in
      let labels : 0 + labels_in c ≡ labels_in c = omega arith in
      let whole = step_as n low (joined (operations counted) pc) (begin_part functions scope n c low) m0 m2 [] [] labels (λ ds. refl) refl b1 in
      subst (λ (e : Emission). IsAdded n low (begin_part functions scope n c low) e m2) made whole.added

module _ (functions : List ℕ → ℕ) (scope : Scopes) (result : Ty) (places : List ℕ) (to : Targets) where
  -- what follows the first branch
  pub other_step : (own : ℕ) (other : ElseBranch) (old m1 m2 new : Emission) (e0 e1 : List ℕ)
      → own + 2 ≤ length old.places
      → m1 ≡ emit_all (Jump 0 (own + 1) ∷ Mark own ∷ []) old
      → Writes (else_part functions scope result places to other) m1 m2 e0 e1
      → new ≡ emit_all (Mark (own + 1) ∷ []) m2
      → IsWritten own (own + 2) (other_part functions scope result places to own other (length old.places)) old new e0 e1
  other_step own other old m1 m2 new e0 e1 there jumped others last =
      let n = length old.places in
      let low = own + 2 in
      let po = else_part functions scope result places to other n in
      let middle : List Operation = Jump 0 (own + 1) ∷ Mark own ∷ [] in
      let end : List Operation = Mark (own + 1) ∷ [] in
      let s1 = step_operations own low middle old m1 e0 there jumped (λ k out. (λ e. ⊎_elim (λ x. let no : ⊥ = omega arith in no) (λ x. let no : ⊥ = omega arith in no) out, tt)) in
      let l1 = added_length own low (operations middle) old m1 s1.added in
      let s2 = step_own own low (else_part functions scope result places to other) n m1 m2 e0 e1 (omega arith) (omega arith) (omega arith) others in
      let l2 = added_length own low po m1 m2 s2.added in
      let s3 = step_operations own low end m2 new e1 (omega arith) last (λ k out. (λ e. ⊎_elim (λ x. let no : ⊥ = omega arith in no) (λ x. let no : ⊥ = omega arith in no) out, tt)) in
      let b2 = step_next own low po (operations end) m1 m2 new e0 e1 e1 (omega arith) s2 s3 in
      let b1 = step_next own low (operations middle) (joined po (operations end)) old m1 new e0 e0 e1 there s1 b2 in
      let labels : 0 + (labels_in_else other + 0) ≡ labels_in_else other = omega arith in
      step_as own low (joined (operations middle) (joined po (operations end))) (other_part functions scope result places to own other n)
      old new e0 e1 labels (λ ds. refl) (append-nil po.ends) b1

  -- the turns of a loop whose labels are there
  pub loop_step : (own : ℕ) (c : Option Expr) (s : Stmt) (d : Option Expr)
      (old m1 m2 m3 m4 m5 m6 new : Emission) (e0 e1 : List ℕ) → own + 3 ≤ length old.places
      → m1 ≡ emit_all (Mark own ∷ []) old
      → Adds (optional_test_part functions scope (own + 2) c) m1 m2
      → m3 ≡ emit_all counted m2
      → Writes (stmt_part functions scope result places (in_loop own to) s) m3 m4 e0 e1
      → m5 ≡ emit_all (Mark (own + 1) ∷ []) m4
      → Adds (optional_part functions scope d) m5 m6
      → new ≡ emit_all (Jump 0 own ∷ Mark (own + 2) ∷ []) m6
      → IsWritten own (own + 3) (loop_part functions scope result places to own c s d (length old.places)) old new e0 e1
  loop_step own c s d old m1 m2 m3 m4 m5 m6 new e0 e1 there first tested counted inner next stepped last =
      let n = length old.places in
      let low = own + 3 in
      let lc = labels_in_optional c in
      let ls = labels_in_stmt s in
      let pc = optional_test_part functions scope (own + 2) c n in
      let ps = stmt_part functions scope result places (in_loop own to) s (n + lc) in
      let pd = optional_part functions scope d (n + lc + ls) in
      let o1 : List Operation = Mark own ∷ [] in
      let o5 : List Operation = Mark (own + 1) ∷ [] in
      let o7 : List Operation = Jump 0 own ∷ Mark (own + 2) ∷ [] in
      let s1 = step_operations own low o1 old m1 e0 there first (λ k out. (λ e. ⊎_elim (λ x. let no : ⊥ = omega arith in no) (λ x. let no : ⊥ = omega arith in no) out, tt)) in
      let l1 = added_length own low (operations o1) old m1 s1.added in
      let s2 = step_own own low (optional_test_part functions scope (own + 2) c) n m1 m2 e0 e0 (omega arith) (omega arith) (omega arith) (record { added = tested; ends = refl }) in
      let l2 = added_length own low pc m1 m2 s2.added in
      let s3 = step_plain own low (Do nothing ∷ []) m2 m3 e0 (omega arith) counted tt in
      let l3 = added_length own low (operations (Do nothing ∷ [])) m2 m3 s3.added in
      let s4 = step_own own low (stmt_part functions scope result places (in_loop own to) s) (n + lc) m3 m4 e0 e1 (omega arith) (omega arith) (omega arith) inner in
      let l4 = added_length own low ps m3 m4 s4.added in
      let s5 = step_operations own low o5 m4 m5 e1 (omega arith) next (λ k out. (λ e. ⊎_elim (λ x. let no : ⊥ = omega arith in no) (λ x. let no : ⊥ = omega arith in no) out, tt)) in
      let l5 = added_length own low (operations o5) m4 m5 s5.added in
      let s6 = step_own own low (optional_part functions scope d) (n + lc + ls) m5 m6 e1 e1 (omega arith) (omega arith) (omega arith) (record { added = stepped; ends = refl }) in
      let l6 = added_length own low pd m5 m6 s6.added in
      let s7 = step_operations own low o7 m6 new e1 (omega arith) last (λ k out. (λ e. ⊎_elim (λ x. let no : ⊥ = omega arith in no) (λ x. let no : ⊥ = omega arith in no) out, tt)) in
      let b6 = step_next own low pd (operations o7) m5 m6 new e1 e1 e1 (omega arith) s6 s7 in
      let p6 = joined pd (operations o7) in
      let b5 = step_next own low (operations o5) p6 m4 m5 new e1 e1 e1 (omega arith) s5 b6 in
      let p5 = joined (operations o5) p6 in
      let b4 = step_next own low ps p5 m3 m4 new e0 e1 e1 (omega arith) s4 b5 in
      let p4 = joined ps p5 in
      let b3 = step_next own low (operations (Do nothing ∷ [])) p4 m2 m3 new e0 e0 e1 (omega arith) s3 b4 in
      let p3 = joined (operations (Do nothing ∷ [])) p4 in
      let b2 = step_next own low pc p3 m1 m2 new e0 e0 e1 (omega arith) s2 b3 in
      let p2 = joined pc p3 in
      let b1 = step_next own low (operations o1) p2 old m1 new e0 e0 e1 there s1 b2 in
      let labels : 0 + (lc + (0 + (ls + (0 + (labels_in_optional d + 0))))) ≡ lc + ls + labels_in_optional d = omega arith in
      step_as own low (joined (operations o1) p2) (loop_part functions scope result places to own c s d n)
      old new e0 e1 labels (λ ds. refl) (append-nil ps.ends) b1

  -- a `while`, by its turns
  pub while_step : (c : Expr) (s : Stmt) (at : Place) (old m0 m1 new : Emission) (e0 e1 : List ℕ)
      → m0 ≡ fresh_by 3 old → m1 ≡ emit_all counted m0
      → IsWritten (length old.places) (length old.places + 3)
      (loop_part functions scope result places to (length old.places) (Some c) s None (length m1.places)) m1 new e0 e1
      → IsWritten (length old.places) (length old.places)
      (stmt_part functions scope result places to (stmt.While c s at) (length old.places)) old new e0 e1
  while_step c s at old m0 m1 new e0 e1 made first turns =
      let n = length old.places in
      let low = n + 3 in
      let turn = loop_part functions scope result places to n (Some c) s None in
      let l0 : length m0.places ≡ low = ap (λ (e : Emission). length e.places) made ∙ fresh_length 3 old in
      let s1 = step_plain n low counted m0 m1 e0 (omega arith) first tt in
      let l1 : length m1.places ≡ low = added_length n low (operations counted) m0 m1 s1.added ∙ (let e : length m0.places + 0 ≡ low = omega arith in e) in
      let s2 = subst (λ k. IsWritten n low (turn k) m1 new e0 e1) l1 turns in
      let b1 = step_next n low (operations counted) (turn low) m0 m1 new e0 e0 e1 (omega arith) s1 s2 in
      let whole = step_closed 3 (joined (operations counted) (turn low)) old m0 new e0 e1 made b1 in
      let labels : 3 + (0 + (labels_in c + labels_in_stmt s + 0)) ≡ 3 + labels_in c + labels_in_stmt s = omega arith in
      step_as n n (joined (labels_alone 3) (joined (operations counted) (turn low))) (stmt_part functions scope result places to (stmt.While c s at) n)
      old new e0 e1 labels (λ ds. refl) refl whole

  pub do_step : (s : Stmt) (c : Expr) (at : Place) (old m0 m1 m2 m3 m4 new : Emission)
      (e0 e1 : List ℕ)
      → m0 ≡ fresh_by 3 old
      → m1 ≡ emit_all (Do nothing ∷ Mark (length old.places) ∷ Do nothing ∷ []) m0
      → Writes (stmt_part functions scope result places (in_loop (length old.places) to) s) m1 m2 e0 e1
      → m3 ≡ emit_all (Mark (length old.places + 1) ∷ []) m2
      → Adds (test_part functions scope test.Ne (length old.places) c) m3 m4
      → new ≡ emit_all (Mark (length old.places + 2) ∷ []) m4
      → IsWritten (length old.places) (length old.places)
      (stmt_part functions scope result places to (stmt.Do s c at) (length old.places)) old new e0 e1
  do_step s c at old m0 m1 m2 m3 m4 new e0 e1 made first inner next tested last =
      let n = length old.places in
      let low = n + 3 in
      let ls = labels_in_stmt s in
      let ps = stmt_part functions scope result places (in_loop n to) s low in
      let pc = test_part functions scope test.Ne n c (low + ls) in
      let o1 : List Operation = Do nothing ∷ Mark n ∷ Do nothing ∷ [] in
      let o3 : List Operation = Mark (n + 1) ∷ [] in
      let o5 : List Operation = Mark (n + 2) ∷ [] in
      let l0 : length m0.places ≡ low = ap (λ (e : Emission). length e.places) made ∙ fresh_length 3 old in
      let s1 = step_operations n low o1 m0 m1 e0 (omega arith) first (λ k out. (λ e. ⊎_elim (λ x. let no : ⊥ = omega arith in no) (λ x. let no : ⊥ = omega arith in no) out, tt)) in
      let l1 = added_length n low (operations o1) m0 m1 s1.added in
      let s2 = step_own n low (stmt_part functions scope result places (in_loop n to) s) low m1 m2 e0 e1 (omega arith) (omega arith) (omega arith) inner in
      let l2 = added_length n low ps m1 m2 s2.added in
      let s3 = step_operations n low o3 m2 m3 e1 (omega arith) next (λ k out. (λ e. ⊎_elim (λ x. let no : ⊥ = omega arith in no) (λ x. let no : ⊥ = omega arith in no) out, tt)) in
      let l3 = added_length n low (operations o3) m2 m3 s3.added in
      let s4 = step_own n low (test_part functions scope test.Ne n c) (low + ls) m3 m4 e1 e1 (omega arith) (omega arith) (omega arith) (record { added = tested; ends = refl }) in
      let l4 = added_length n low pc m3 m4 s4.added in
      let s5 = step_operations n low o5 m4 new e1 (omega arith) last (λ k out. (λ e. ⊎_elim (λ x. let no : ⊥ = omega arith in no) (λ x. let no : ⊥ = omega arith in no) out, tt)) in
      let b4 = step_next n low pc (operations o5) m3 m4 new e1 e1 e1 (omega arith) s4 s5 in
      let p4 = joined pc (operations o5) in
      let b3 = step_next n low (operations o3) p4 m2 m3 new e1 e1 e1 (omega arith) s3 b4 in
      let p3 = joined (operations o3) p4 in
      let b2 = step_next n low ps p3 m1 m2 new e0 e1 e1 (omega arith) s2 b3 in
      let p2 = joined ps p3 in
      let b1 = step_next n low (operations o1) p2 m0 m1 new e0 e0 e1 (omega arith) s1 b2 in
      let whole = step_closed 3 (joined (operations o1) p2) old m0 new e0 e1 made b1 in
      let labels : 3 + (0 + (ls + (0 + (labels_in c + 0)))) ≡ 3 + ls + labels_in c = omega arith in
      step_as n n (joined (labels_alone 3) (joined (operations o1) p2)) (stmt_part functions scope result places to (stmt.Do s c at) n)
      old new e0 e1 labels (λ ds. refl) (append-nil ps.ends) whole

  -- a `for`, by what it begins with and its turns
  pub for_step : (f : First) (c d : Option Expr) (s : Stmt) (at : Place)
      (old m0 m1 m2 new : Emission)
      (e0 e1 : List ℕ) → m0 ≡ fresh_by 3 old → m1 ≡ emit_all counted m0
      → Adds (first_part functions scope places f) m1 m2
      → IsWritten (length old.places) (length old.places + 3)
      (loop_part functions (λ ds. named_beginning places f (scope ds)) result (drop (length (beginning_locals f)) places) to
      (length old.places) c s d (length m2.places)) m2 new e0 e1
      → IsWritten (length old.places) (length old.places)
      (stmt_part functions scope result places to (stmt.For f c d s at) (length old.places)) old new e0 e1
  for_step f c d s at old m0 m1 m2 new e0 e1 made first begun turns =
      let n = length old.places in
      let low = n + 3 in
      let lf = labels_in_first f in
      let lc = labels_in_optional c in
      let ls = labels_in_stmt s in
      let ld = labels_in_optional d in
      let pf = first_part functions scope places f low in
      let turn = loop_part functions (λ ds. named_beginning places f (scope ds)) result (drop (length (beginning_locals f)) places) to n c s d in
      let l0 : length m0.places ≡ low = ap (λ (e : Emission). length e.places) made ∙ fresh_length 3 old in
      let s1 = step_plain n low counted m0 m1 e0 (omega arith) first tt in
      let l1 = added_length n low (operations counted) m0 m1 s1.added in
      let s2 = step_own n low (first_part functions scope places f) low m1 m2 e0 e0 (omega arith) (omega arith) (omega arith) (record { added = begun; ends = refl }) in
      let l2 = added_length n low pf m1 m2 s2.added in
      let l3 : length m2.places ≡ low + lf = omega arith in
      let s3 = subst (λ k. IsWritten n low (turn k) m2 new e0 e1) l3 turns in
      let b2 = step_next n low pf (turn (low + lf)) m1 m2 new e0 e0 e1 (omega arith) s2 s3 in
      let p2 = joined pf (turn (low + lf)) in
      let b1 = step_next n low (operations counted) p2 m0 m1 new e0 e0 e1 (omega arith) s1 b2 in
      let whole = step_closed 3 (joined (operations counted) p2) old m0 new e0 e1 made b1 in
      let labels : 3 + (0 + (lf + (lc + ls + ld))) ≡ 3 + lf + lc + ls + ld = omega arith in
      step_as n n (joined (labels_alone 3) (joined (operations counted) p2)) (stmt_part functions scope result places to (stmt.For f c d s at) n)
      old new e0 e1 labels (λ ds. refl) refl whole

  -- a statement and those after it
  pub stmts_step : (s : Stmt) (rest : Stmts) (old mid new : Emission) (e0 e1 e2 : List ℕ)
      → Writes (stmt_part functions scope result places to s) old mid e0 e1
      → Writes (stmts_part functions (λ ds. named_behind places s (scope ds)) result (behind s places) to rest) mid new e1 e2
      → Writes (stmts_part functions scope result places to (stmt.More s rest)) old new e0 e2
  stmts_step s rest old mid new e0 e1 e2 first later =
      let n = length old.places in
      let others = stmts_part functions (λ ds. named_behind places s (scope ds)) result (behind s places) to rest in
      let ps = stmt_part functions scope result places to s n in
      let len = added_length n n ps old mid first.added in
      let second = step_own n n others (n + labels_in_stmt s) mid new e1 e2 (omega arith) (omega arith) len later in
      let both = step_next n n ps (others (n + labels_in_stmt s)) old mid new e0 e1 e2 (omega arith) first second in
      step_as n n (joined ps (others (n + labels_in_stmt s))) (stmts_part functions scope result places to (stmt.More s rest) n)
      old new e0 e2 refl (λ ds. refl) refl both

  -- an `if`, by its test, its first branch and what follows
  pub if_step : (c : Expr) (s : Stmt) (other : ElseBranch) (at : Place)
      (old m1 m2 new : Emission) (e0 e1 e2 : List ℕ)
      → IsAdded (length old.places) (length old.places + 2)
      (begin_part functions scope (length old.places) c (length old.places + 2)) (fresh_by 2 old) m1
      → Writes (stmt_part functions scope result places to s) m1 m2 e0 e1
      → IsWritten (length old.places) (length old.places + 2)
      (other_part functions scope result (behind s places) to (length old.places) other (length m2.places)) m2 new e1 e2
      → Writes (stmt_part functions scope result places to (stmt.If c s other at)) old new e0 e2
  if_step c s other at old m1 m2 new e0 e1 e2 first inner others =
      let n = length old.places in
      let low = n + 2 in
      let lc = labels_in c in
      let ls = labels_in_stmt s in
      let pc = begin_part functions scope n c low in
      let ps = stmt_part functions scope result places to s (low + lc) in
      let po = other_part functions scope result (behind s places) to n other in
      let l0 = fresh_length 2 old in
      let l1 = added_length n low pc (fresh_by 2 old) m1 first in
      let s1 : IsWritten n low pc (fresh_by 2 old) m1 e0 e0 = record { added = first; ends = refl } in
      let s2 = step_own n low (stmt_part functions scope result places to s) (low + lc) m1 m2 e0 e1 (omega arith) (omega arith) (omega arith) inner in
      let l2 = added_length n low ps m1 m2 s2.added in
      let l3 : length m2.places ≡ low + lc + ls = omega arith in
      let s3 = subst (λ k. IsWritten n low (po k) m2 new e1 e2) l3 others in
      let b2 = step_next n low ps (po (low + lc + ls)) m1 m2 new e0 e1 e2 (omega arith) s2 s3 in
      let p2 = joined ps (po (low + lc + ls)) in
      let b1 = step_next n low pc p2 (fresh_by 2 old) m1 new e0 e0 e2 (omega arith) s1 b2 in
      let whole = step_closed 2 (joined pc p2) old (fresh_by 2 old) new e0 e2 refl b1 in
      let labels : 2 + (lc + (ls + labels_in_else other)) ≡ 2 + lc + ls + labels_in_else other = omega arith in
      step_as n n (joined (labels_alone 2) (joined pc p2)) (stmt_part functions scope result places to (stmt.If c s other at) n)
      old new e0 e2 labels (λ ds. refl) refl whole
