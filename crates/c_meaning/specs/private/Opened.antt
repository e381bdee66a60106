-- Locals that begin to live, one behind the other.
use Rattle.std.specs.Prelude.{ℕ, ◌+◌, List, [], ◌∷◌, ◌++◌}
use Rattle.c_semantics.specs.declared.local.Local.{Local}
use Rattle.c_semantics.specs.Contents.{Contents}
use Rattle.c_semantics.specs.Exec.{object_at}
use Rattle.c_semantics.specs.Memory.{blank}

abbrev pub opened : ℕ → Local → Contents → Contents
opened sp l c = record {
  bytes = blank (sp + l.offset) l.size c.bytes;
  live = c.live ++ object_at sp l ∷ [];
}

abbrev pub opened_all : ℕ → List Local → Contents → Contents
opened_all sp [] c = c
opened_all sp (l ∷ ls) c = opened_all sp ls (opened sp l c)
