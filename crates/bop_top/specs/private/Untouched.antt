-- A shelf that stays as it was.
use Rattle.std.specs.Prelude.{◌≡◌, Bool, List, ℕ, Option}

-- it tells its files as before, and each name keeps its file
pub record Untouched {H : Type 0} (tells : H → Bool) (file : H → List ℕ → Option (List ℕ))
    (old new : H) : Type 0 where
  pub same_telling : tells new ≡ tells old
  pub same_files : file new ≡ file old
