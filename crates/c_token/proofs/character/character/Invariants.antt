use Rattle.std.proofs.Common.{◌≡◌, ℕ, ◌<◌, ◌≤◌, None}
use Rattle.c_token.specs.private.Quotes.{character_in}
use Rattle.c_token.proofs.character.character.Given as goal

abbrev pub invariant-loop-len : goal.invariant-loop-len
invariant-loop-len l = (k : ℕ) → 3 ≤ k → k < l.len → character_in l.rest k ≡ None
