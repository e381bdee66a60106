use Rattle.std.proofs.Common.{length}
use Rattle.c_token.specs.private.Readers.{HasRead}
use Rattle.c_token.proofs.tokens.Given as goal

abbrev pub invariant-loop-reader : goal.invariant-loop-reader
invariant-loop-reader l = HasRead l.text l.reader

abbrev pub decreases-loop-reader : goal.decreases-loop-reader
decreases-loop-reader l = length l.reader.rest.now
