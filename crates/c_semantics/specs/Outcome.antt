-- What a meaning tells.
use Rattle.std.specs.Prelude.{ℕ, List, Bool, true, false}
use Rattle.c_semantics.specs.Meaning.{Meaning, Done, StackFull', More', Undefined'}

abbrev pub output_of : Meaning → List ℕ
output_of (Done output exit) = output
output_of (StackFull' output) = output
output_of (More' output) = output
output_of (Undefined' output act at) = output

-- the run came to an end within its steps
abbrev pub has_ended : Meaning → Bool
has_ended (Done output exit) = true
has_ended (StackFull' output) = true
has_ended (More' output) = false
has_ended (Undefined' output act at) = true
