-- Laws of content that grows. That nothing appended keeps it, and that appends join, are std's:
-- `Appends-nil` and `Appends-trans` of `Rattle.std.proofs.KnownBytes`.
use Rattle.std.proofs.Common.{ℕ, List, ◌++◌, take, Option}
use Rattle.std.proofs.KnownBytes.{Appends-trans}
use Rattle.std.specs.Io.KnownBytes.{Appends}
use Rattle.byte_lists.specs.Prefix.{IsPrefix}
use Rattle.byte_lists.specs.Content.{AppendsPrefix}
use Rattle.byte_lists.proofs.Prefixes.{IsPrefix-trans, IsPrefix-take, IsPrefix-behind}

pub AppendsPrefix-take : (a b : Option (List ℕ)) (n : ℕ) (bytes : List ℕ)
    → Appends a b (take n bytes) → AppendsPrefix a b bytes
AppendsPrefix-take a b n bytes p = (take n bytes, IsPrefix-take n bytes, p)

-- a prefix of these is one of those
pub AppendsPrefix-longer : (a b : Option (List ℕ)) (xs ys : List ℕ)
    → IsPrefix xs ys → AppendsPrefix a b xs → AppendsPrefix a b ys
AppendsPrefix-longer a b xs ys front p = (p.0, IsPrefix-trans p.0 xs ys p.1 front, p.2)

-- first all of these, and then a prefix of those
pub AppendsPrefix-after : (a b c : Option (List ℕ)) (xs ys : List ℕ)
    → Appends a b xs → AppendsPrefix b c ys → AppendsPrefix a c (xs ++ ys)
AppendsPrefix-after a b c xs ys p q =
    (xs ++ q.0, IsPrefix-behind xs q.0 ys q.1, Appends-trans a b c xs q.0 p q.2)
