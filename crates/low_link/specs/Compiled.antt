-- The program of a text, as the compiler answers it.
use Rattle.std.specs.Prelude.{◌≡◌, ℕ, List, Result, Ok, Err}
use Rattle.rv_code.specs.declared.program.Program.{Program}
use Rattle.c_tree.specs.Item.{Item}
use Rattle.low_stmt.specs.TextProgram.{program_of}
use Rattle.low_link.specs.declared.refused.Refused.{Refused}
use Rattle.low_link.specs.Front.{IsSource, Refuses}

-- this is the program of the text
pub record IsProgramOf (text : List ℕ) (program : Program) : Type 0 where
  pub ps : List Item
  pub source : IsSource text ps
  pub same : program ≡ program_of ps

-- the program of the text, or why it is refused
abbrev pub Compiled : List ℕ → Result Program Refused → Type 0
Compiled text (Ok program) = IsProgramOf text program
Compiled text (Err refused) = Refuses text refused
