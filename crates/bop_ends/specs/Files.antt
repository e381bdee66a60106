-- A map of files.
use Rattle.std.specs.Prelude.{ℕ, List, Option, String, Vec}
use Rattle.std.specs.Option.{option_map}
use Rattle.std.specs.BTreeMap.{BTreeMap, get_by_text}

-- the bytes of the file that the map has under this name
abbrev pub file_in : {A B : Type 0} → BTreeMap (String A) (Vec ℕ B) → List ℕ → Option (List ℕ)
file_in files name = option_map (λ content. content.items) (get_by_text files name)
