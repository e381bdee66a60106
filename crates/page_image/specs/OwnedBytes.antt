-- An image, as callers see it.
use Rattle.std.specs.Prelude.{ℕ, Bool, List}
use Rattle.std.proofs.Common.{refl}
use Rattle.std.specs.Coded.{Coded, code_by, coded_list, coded_ℕ, coded_bool, coded×}

-- the bytes of data and stack, and whether stores take no memory
pub record OwnedBytes : Type 0 where
  pub bytes : List ℕ
  pub owned : Bool

abbrev pub coded_bytes : Coded OwnedBytes
coded_bytes =
    code_by (List ℕ × Bool) (coded× (coded_list coded_ℕ) coded_bool) (λ m. (m.bytes, m.owned))
    (λ p. record { bytes = p.0; owned = p.1 }) (λ _. refl)
