-- The words of a text's code have its operations at their places.
use Rattle.std.proofs.Common.{◌≤◌, List, length, arith}
use Rattle.bop_bits.specs.declared.map.TheConstants.{CODE_WORDS}
use Rattle.c_tree.specs.Item.{Item}
use Rattle.low_labels.specs.Closed.{place_in, words_of}
use Rattle.low_labels.specs.Emission.{labelled}
use Rattle.low_labels.specs.Operation.{width_of}
use Rattle.low_labels.specs.Placed.{HasAt}
use Rattle.low_labels.proofs.ClosedLemmas.{length_words}
use Rattle.low_labels.proofs.Standing.{closed}
use Rattle.low_expr.proofs.Emitting.{lines_more}
use Rattle.low_stmt.specs.CodeBound.{count_text}
use Rattle.low_stmt.specs.DefinedOnce.{AreDefinedOnce}
use Rattle.low_stmt.specs.TextCode.{labels_in_text, text_code, emitted}
use Rattle.low_stmt.specs.TextReadiness.{IsReadyText}
use Rattle.low_stmt.proofs.PlacingsOfTexts.{text_placed_once}
use Rattle.low_stmt.proofs.TextsInRange.{text_in_range}
use Rattle.low_stmt.proofs.WordsOfTexts.{text_words}

short_code : (text : List Item) → IsReadyText text → count_text text ≤ 7680
    → width_of (text_code text) ≤ CODE_WORDS
short_code text ready few = omega (arith, text_words text ready, few)

pub closed_text : (text : List Item) → IsReadyText text → AreDefinedOnce text
    → count_text text ≤ 7680
    → HasAt (words_of (emitted text)) (place_in (emitted text).places) 0 (text_code text)
closed_text text ready once few =
    closed (labels_in_text text) (text_code text) (text_in_range text ready)
    (text_placed_once text once) (short_code text ready few)

pub short_text : (text : List Item) → IsReadyText text → count_text text ≤ 7680
    → length (words_of (emitted text)) ≤ CODE_WORDS
short_text text ready few =
    omega (
      arith,
      length_words (place_in (emitted text).places) 0 (emitted text).lines,
      lines_more (text_code text) (labelled (labels_in_text text)),
      short_code text ready few,
    )
