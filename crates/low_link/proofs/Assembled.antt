-- The parts of the program of a text, put together.
use Rattle.std.proofs.Common.{◌≡◌, List, ℕ, replicate, ap, ◌∙◌}
use Rattle.bop_bits.specs.declared.class.Classes.{Classes}
use Rattle.bop_bits.specs.declared.map.TheConstants.{CODE_FROM}
use Rattle.c_layout.specs.Laid.{plan}
use Rattle.c_tree.specs.Item.{Item}
use Rattle.low_labels.specs.Closed.{place_in, words_of}
use Rattle.low_labels.specs.Emission.{Emission}
use Rattle.low_stmt.specs.RegionEnds.{ends_in_text, with_ends}
use Rattle.low_stmt.specs.TextCode.{data_of, emitted}
use Rattle.low_stmt.specs.TextProgram.{program_of}

pub assembled : (text : List Item) (e : Emission) (code bytes ends : List ℕ) (classes : Classes)
    → e ≡ emitted text → code ≡ words_of e → bytes ≡ data_of text
    → classes ≡ (plan text).classes
    → ends ≡ with_ends (place_in e.places) (ends_in_text text) (replicate 256 0)
    → record { code = code; bytes = bytes; classes = classes; entry = CODE_FROM; ends = ends }
    ≡ program_of text
assembled text e code bytes ends classes made closed filled known set =
    let words = closed ∙ ap words_of made in
    let places = set ∙ ap (λ (m : Emission). with_ends (place_in m.places) (ends_in_text text) (replicate 256 0)) made in
    λ i. record { code = words i; bytes = filled i; classes = known i; entry = CODE_FROM; ends = places i }
