use Rattle.std.proofs.Common.{arith, ◌≡◌, ap, List, ℕ, Bor, nat_cmp}
use Rattle.std.specs.BTreeMap.{is_at}
use Rattle.std.specs.Map.{lookup}
use Rattle.std.specs.Cmp.Lexicographic.{slice_cmp}
use Rattle.c_token.specs.Pieces.{nothing_defined}
use Rattle.c_token.specs.private.Readers.{names_of}
use Rattle.c_token.specs.Spots.{beginning}
use Rattle.c_token.specs.Text.IsReadTo.{start}
use Rattle.c_token.proofs.reader.Reader.new.Goals as goal

pub returns : goal.returns
returns c =
    let e : names_of c.new.result ≡ nothing_defined = ap (λ es name. lookup (is_at {K = Bor (List ℕ)} (λ k. slice_cmp nat_cmp name k.now)) es) c.new.ensures.empty in
    let b : c.beginning.result ≡ beginning = c.beginning.ensures in
    record { read = rw (b, e, c.new-2.ensures.items) start; room = rw b (omega arith, omega arith) }
