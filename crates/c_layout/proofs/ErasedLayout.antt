-- Erasing markers changes no layout.
use Rattle.std.specs.Prelude.{option_map}
use Rattle.std.proofs.Common.{◌≡◌, max, List, [], ◌∷◌, ◌++◌, Option, Some, None, map, refl, ap, ap₂}
use Rattle.c_tree.specs.Stmt.{Stmt, Stmts, ElseBranch}
use Rattle.c_tree.specs.Stmt as stmt
use Rattle.c_tree.specs.Fun.{Param, Fun}
use Rattle.c_tree.specs.Item.{Item}
use Rattle.c_tree.specs.Item as item
use Rattle.c_tree.specs.Erase.{erased, erased_else, erased_all, erased_text}
use Rattle.c_layout.specs.Slots.{slots, optional, beginning_slots, statement_slots, else_slots, body_slots}
use Rattle.c_layout.specs.Frames.{own_locals, locals, body_locals, framed, frames, frame_of}
use Rattle.c_layout.specs.Globals.{global_of, globals}
use Rattle.c_tree.proofs.CollectLemmas.{collect_erased, collect_all_erased}

mutual
  same_slots : (s : Stmt) → statement_slots (erased s) ≡ statement_slots s
  same_slots (stmt.Block body at) = same_body_slots body
  same_slots (stmt.If c s other at) = ap₂ (λ a b. max (slots c) (max a b)) (same_slots s) (same_else_slots other)
  same_slots (stmt.While c s at) = ap (max (slots c)) (same_slots s)
  same_slots (stmt.Do s c at) = ap (λ a. max a (slots c)) (same_slots s)
  same_slots (stmt.For f c d s at) = ap (λ a. max (beginning_slots f) (max (optional c) (max (optional d) a))) (same_slots s)
  same_slots s = refl

  same_else_slots : (other : ElseBranch) → else_slots (erased_else other) ≡ else_slots other
  same_else_slots stmt.NoElse = refl
  same_else_slots (stmt.Else s) = same_slots s

  same_body_slots : (body : Stmts) → body_slots (erased_all body) ≡ body_slots body
  same_body_slots stmt.NoMore = refl
  same_body_slots (stmt.More s rest) = ap₂ max (same_slots s) (same_body_slots rest)

same_own : (s : Stmt) → own_locals (erased s) ≡ own_locals s
same_own (stmt.Vars ds at) = refl
same_own s = refl

pub same_locals : (s : Stmt) → locals (erased s) ≡ locals s
same_locals = collect_erased own_locals same_own

same_body_locals : (body : Stmts) → body_locals (erased_all body) ≡ body_locals body
same_body_locals = collect_all_erased own_locals same_own

pub same_frame : (ps : List Param) (body : Stmts) → frame_of ps (erased_all body) ≡ frame_of ps body
same_frame ps body = let slots = same_body_slots body in let those = same_body_locals body in rw (slots, those) refl

same_framed : (f : Fun) (body : Option Stmts)
    → framed (record f { body = option_map erased_all f.body }) (option_map erased_all body)
    ≡ framed f body
same_framed f None = refl
same_framed f (Some body) = ap (λ frame. record { place = f.place; frame = frame } ∷ []) (same_frame f.parameters body)

pub same_frames : (ps : List Item) → frames (erased_text ps) ≡ frames ps
same_frames [] = refl
same_frames (item.Vars keep ds ∷ rest) = same_frames rest
same_frames (item.Fun f ∷ rest) = ap₂ (λ a b. a ++ b) (same_framed f f.body) (same_frames rest)

pub same_globals : (ps : List Item) → globals (erased_text ps) ≡ globals ps
same_globals [] = refl
same_globals (item.Vars keep ds ∷ rest) = ap (λ gs. map (global_of keep) ds ++ gs) (same_globals rest)
same_globals (item.Fun f ∷ rest) = same_globals rest
