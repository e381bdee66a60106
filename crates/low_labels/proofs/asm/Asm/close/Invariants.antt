use Rattle.std.proofs.Common.{◌≡◌, take}
use Rattle.low_labels.specs.Closed.{place_in, words_from}
use Rattle.low_labels.proofs.asm.Asm.close.Given as goal

abbrev pub invariant-loop-line : goal.invariant-loop-line
invariant-loop-line l = l.words.items ≡ words_from (place_in l.fn.self.places) 0 (take l.line-index l.fn.self.lines)
