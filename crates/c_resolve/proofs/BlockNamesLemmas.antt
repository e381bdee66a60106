-- The names of blocks: one name more, and in a block of its own.
use Rattle.std.proofs.Common.{◌≡◌, ℕ, Bool, true, false, cond, List, Option, Some, refl, ap, ◌∙◌}
use Rattle.std.specs.Prelude.{option_map, bytes_eq}
use Rattle.c_tree.specs.Blocks.{Blocks, no_blocks, otherwise, look_outer, look, declared, entered}
use Rattle.c_tree.proofs.BlocksLemmas.{look_entered}
use Rattle.c_resolve.specs.declared.named.Named.{Named as Coded}
use Rattle.c_resolve.specs.DeclaredNames.{named, names_at}
use Rattle.c_semantics.specs.Names.{Definition, no_names, with_name}

module _ (definitions : List Definition) where
  found_first : (b : Bool) (x : Coded) (here outer : Option Coded)
      → option_map (named definitions) (otherwise (cond b (Some x) here) outer)
      ≡ cond b (Some (named definitions x)) (option_map (named definitions) (otherwise here outer))
  found_first true x here outer = refl
  found_first false x here outer = refl

  pub names_none : names_at definitions no_blocks ≡ no_names
  unfolding names_at
  names_none = refl

  pub names_found : (blocks : Blocks Coded) (name : List ℕ)
      → option_map (named definitions) (look blocks name) ≡ names_at definitions blocks name
  unfolding names_at
  names_found blocks name = refl

  pub names_declared : (name : List ℕ) (x : Coded) (blocks : Blocks Coded)
      → names_at definitions (declared name x blocks)
      ≡ with_name name (named definitions x) (names_at definitions blocks)
  unfolding names_at
  names_declared name x blocks = λ i other.
      found_first (bytes_eq name other) x (blocks.inner other) (look_outer blocks.outer other) i

  pub names_entered : (old new : Blocks Coded) → new ≡ entered old
      → names_at definitions new ≡ names_at definitions old
  unfolding names_at
  names_entered old new is = λ i name.
      option_map (named definitions) ((ap (λ blocks. otherwise (blocks.inner name) (look_outer blocks.outer name)) is ∙ look_entered old name) i)
