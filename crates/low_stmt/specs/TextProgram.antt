-- The program of a text.
use Rattle.std.specs.Prelude.{ℕ, List, replicate}
use Rattle.rv_code.specs.declared.program.Program.{Program}
use Rattle.rv_code.specs.Step.{address_of}
use Rattle.c_layout.specs.Laid.{plan}
use Rattle.c_tree.specs.Item.{Item}
use Rattle.low_labels.specs.Closed.{place_in, words_of}
use Rattle.low_stmt.specs.RegionEnds.{ends_in_text, with_ends}
use Rattle.low_stmt.specs.TextCode.{data_of, emitted}

-- the program of a text with words of code, whose labels are at these places
abbrev pub program_with : (code : List ℕ) (labels : ℕ → ℕ) → List Item → Program
program_with code labels text = record {
  code = code;
  bytes = data_of text;
  classes = (plan text).classes;
  entry = address_of 0;
  ends = with_ends labels (ends_in_text text) (replicate 256 0);
}

-- the words of its code, where each label has its place
abbrev pub program_of : List Item → Program
program_of text =
    let e = emitted text in program_with (words_of e) (place_in e.places) text
