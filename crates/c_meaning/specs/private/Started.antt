-- Globals that begin to live and get their first values, in order of declaration.
use Rattle.std.specs.Prelude.{ℕ, List, [], ◌∷◌, ◌++◌}
use Rattle.c_tree.specs.Declarators.{declared_shape}
use Rattle.c_tree.specs.Var.{Var}
use Rattle.c_layout.specs.Sizes.{size}
use Rattle.c_semantics.specs.Contents.{Contents}
use Rattle.c_semantics.specs.Meaning.{first_bytes}
use Rattle.c_semantics.specs.Memory.{with_bytes}

abbrev pub started_one : ℕ → Var → Contents → Contents
started_one address d c = record {
  bytes = with_bytes address (first_bytes d) c.bytes;
  live = c.live ++ record { address = address; size = size (declared_shape d) } ∷ [];
}

abbrev pub started : List ℕ → List Var → Contents → Contents
started (address ∷ rest) (d ∷ ds) c = started rest ds (started_one address d c)
started _ _ c = c
