-- What the names of a block stand for, before and after a change at one name.
use Rattle.std.proofs.Common.{◌≡◌, ℕ, Bool, cond, List, Option, Some, None, is_some, Vec, Global, ap, sym, ◌∙◌}
use Rattle.std.specs.BTreeMap.{BTreeMap, UpdatesBy}
use Rattle.std.specs.Ordering.{nat_cmp}
use Rattle.std.specs.Cmp.Lexicographic.{slice_cmp}
use Rattle.std.specs.Prelude.{bytes_eq}
use Rattle.c_tree.specs.Blocks.{Frame, bound}
use Rattle.c_scope.specs.BlockNames.{frame_of}
use Rattle.c_scope.specs.private.Index.{unbound}
use Rattle.c_scope.proofs.Keys.{vec_cmp, updates_bytes}

-- whether a block has a name, by what the name stood for in it
pub had : {T : Type 0} → (before stood : Option T) (b : Bool) → before ≡ stood → b ≡ is_some before
    → is_some stood ≡ b
had before stood b same is = ap is_some (sym same) ∙ sym is

-- the bytes of the key are the name's
module _ {T : Type 0} (name bytes : List ℕ) (same : bytes ≡ name) (old new : BTreeMap (Vec ℕ Global) T) where
  abbrev before : Frame T
  before = frame_of (record { names = old })

  abbrev after : Frame T
  after = frame_of (record { names = new })

  changed : (e : Option T) → UpdatesBy vec_cmp (λ k. slice_cmp nat_cmp bytes k.items) old new e
      → (other : List ℕ) → after other ≡ cond (bytes_eq name other) e (before other)
  changed e u other =
      updates_bytes bytes old new e u other ∙ ap (λ b. cond (bytes_eq b other) e (before other)) same

  pub frame_bound : (e : T)
      → UpdatesBy vec_cmp (λ k. slice_cmp nat_cmp bytes k.items) old new (Some e)
      → after ≡ bound name e before
  frame_bound e u = λ i other. changed (Some e) u other i

  pub frame_unbound : UpdatesBy vec_cmp (λ k. slice_cmp nat_cmp bytes k.items) old new None
      → after ≡ unbound name before
  frame_unbound u = λ i other. changed None u other i
