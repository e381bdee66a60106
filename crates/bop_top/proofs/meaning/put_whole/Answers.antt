use Rattle.std.proofs.Common.{ℕ, List, Option, Result, Ok, Err, OnErr}
use Rattle.byte_lists.specs.Content.{AppendsPrefix}
use Rattle.byte_lists.proofs.ContentLemmas.{AppendsPrefix-take}
use Rattle.bop_ends.specs.Ends.{AppendsPiece}
use Rattle.bop_top.proofs.meaning.put_whole.Goals as goal

front : {T E : Type 0} (a b : Option (List ℕ)) (r : Result T E) (piece : List ℕ)
    → AppendsPiece a b r piece → OnErr r (AppendsPrefix a b piece)
front a b (Ok x) piece p = tt
front a b (Err e) piece p = AppendsPrefix-take a b p.0 piece p.1

pub returns-clause-part : goal.returns-clause-part
returns-clause-part g c = front _ _ c.append.result c.args.bytes.now c.append.ensures.bytes
