-- How far a piece is written.
use Rattle.std.proofs.Common.{◌≡◌, ℕ, ◌+◌, ◌≤◌, List, length, take, drop, Option, ap, ◌∙◌, subst, arith}
use Rattle.std.proofs.Math.Seq.{take-add}
use Rattle.std.proofs.lemmas.List.{drop-drop}
use Rattle.std.proofs.lemmas.Grind.{common_steps}
use Rattle.std.proofs.KnownBytes.{Appends-trans}
use Rattle.std.specs.Io.KnownBytes.{Appends}

-- the first bytes of the piece stand behind the known bytes, and the rest is still to be written
pub record IsWrittenTo (old new : Option (List ℕ)) (piece rest : List ℕ) : Type 0 where
  pub count : ℕ
  pub fits : count ≤ length piece
  pub behind : rest ≡ drop count piece
  pub moved : Appends old new (take count piece)

-- n more bytes are written
pub writes_more : (a b c : Option (List ℕ)) (piece rest : List ℕ) (n : ℕ)
    → IsWrittenTo a b piece rest
    → n ≤ length rest → Appends b c (take n rest) → IsWrittenTo a c piece (drop n rest)
writes_more a b c piece rest n before within more =
    let left : n ≤ length (drop before.count piece) = subst (λ r. n ≤ length r) before.behind within in
    record {
      count = before.count + n;
      fits = grind (arith, common_steps, left, before.fits);
      behind = ap (drop n) before.behind ∙ drop-drop n before.count piece;
      moved = rw (take-add before.count n piece, ← before.behind) (Appends-trans a b c _ _ before.moved more);
    }
