use Rattle.std.proofs.Common.{length, map, string_bytes}
use Rattle.bop_words.specs.private.ReadOptions.{IsReadUpTo, values_of}
use Rattle.bop_words.proofs.options.options_of.Given as goal

abbrev pub invariant-loop-reading : goal.invariant-loop-reading
invariant-loop-reading l =
    IsReadUpTo l.fn.command (map string_bytes l.fn.words) (map string_bytes l.reading.rest.now) (values_of l.reading.options)

abbrev pub decreases-loop-reading : goal.decreases-loop-reading
decreases-loop-reading l = length l.reading.rest.now
