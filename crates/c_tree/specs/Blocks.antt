-- Names by the blocks that declare them (C11 6.2.1).
use Rattle.std.specs.Prelude.{ℕ, List, [], ◌∷◌, ◌++◌, Option, Some, None, option_map, map, if◌then◌else◌, bytes_eq}

-- a block's names with what they stand for
abbrev pub Frame : Type 0 → Type 0
Frame A = List ℕ → Option A

abbrev pub no_names : {A : Type 0} → Frame A
no_names name = None

-- the open blocks, the innermost by itself; in `outer` the outermost comes first
pub record Blocks (A : Type 0) : Type 0 where
  pub outer : List (Frame A)
  pub inner : Frame A

abbrev pub no_blocks : {A : Type 0} → Blocks A
no_blocks = record { outer = []; inner = no_names }

abbrev pub otherwise : {A : Type 0} → Option A → Option A → Option A
otherwise (Some x) y = Some x
otherwise None y = y

-- the innermost block that declares the name counts
abbrev pub look_outer : {A : Type 0} → List (Frame A) → List ℕ → Option A
look_outer [] name = None
look_outer (frame ∷ frames) name = otherwise (look_outer frames name) (frame name)

-- what a name stands for
abbrev pub look : {A : Type 0} → Blocks A → List ℕ → Option A
look blocks name = otherwise (blocks.inner name) (look_outer blocks.outer name)

-- with one more name
abbrev pub bound : {A : Type 0} → List ℕ → A → Frame A → Frame A
bound name known frame = λ other. if bytes_eq name other then Some known else frame other

-- with one more name in the innermost block
abbrev pub declared : {A : Type 0} → List ℕ → A → Blocks A → Blocks A
declared name known blocks = record blocks { inner = bound name known blocks.inner }

-- in a block of its own
abbrev pub entered : {A : Type 0} → Blocks A → Blocks A
entered blocks = record { outer = blocks.outer ++ blocks.inner ∷ []; inner = no_names }

-- where each name stands for what `f` says of what it stood for
abbrev pub mapped_frame : {A B : Type 0} → (A → B) → Frame A → Frame B
mapped_frame f frame = λ name. option_map f (frame name)

abbrev pub mapped : {A B : Type 0} → (A → B) → Blocks A → Blocks B
mapped f blocks = record {
  outer = map (mapped_frame f) blocks.outer;
  inner = mapped_frame f blocks.inner;
}
