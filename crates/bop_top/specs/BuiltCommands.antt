-- Which commands are built, and which of them read the input.
use Rattle.std.specs.Prelude.{ℕ, List, Option, Some, None}
use Rattle.bop_words.specs.WordRequests.{Request, Seq, Mean, Check, IsRequest}

-- the command of this request is built
abbrev pub IsBuilt : Request → Type 0
IsBuilt (Seq program budget) = Unit {0}
IsBuilt (Mean program budget) = Unit {0}
IsBuilt (Check program) = Unit {0}
IsBuilt _ = ⊥

-- and reads the input
abbrev pub ReadsInput : Request → Type 0
ReadsInput (Seq program budget) = Unit {0}
ReadsInput (Mean program budget) = Unit {0}
ReadsInput _ = ⊥

-- the words ask for what reads the input
abbrev pub AsksInput : List (List ℕ) → Type 0
AsksInput words = (request : Request) × IsRequest words request × ReadsInput request

-- the file of this name, where there is a name
abbrev pub file_named : (List ℕ → Option (List ℕ)) → Option (List ℕ) → Option (List ℕ)
file_named files None = None
file_named files (Some name) = files name
