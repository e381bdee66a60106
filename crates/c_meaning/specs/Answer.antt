-- What the code answers of a meaning.
use Rattle.std.specs.Prelude.{◌≡◌, ℕ, Option, Result, Ok, Err}
use Rattle.c_semantics.specs.declared.flow.Flow.{Flow}
use Rattle.c_meaning.specs.declared.halt.Halt.{Halt}
use Rattle.c_meaning.specs.declared.machine.Machine.{Machine}
use Rattle.c_meaning.specs.declared.meant.Meant.{Meant}
use Rattle.c_meaning.specs.declared.meant.Meant.TheVariants as meant
use Rattle.c_meaning.specs.private.EvaluatorState.{store_of, Halts}
use Rattle.c_meaning.specs.private.Pending.{given_by}
use Rattle.c_semantics.specs.Run.{Ended, Goes}
use Rattle.c_semantics.specs.Meaning.{Meaning, Done, StackFull', More', Undefined'}

abbrev pub meaning_of : Meant → Meaning
meaning_of (meant.Done output exit) = Done output exit
meaning_of (meant.StackFull output) = StackFull' output
meaning_of (meant.More output) = More' output
meaning_of (meant.Undefined output act at) = Undefined' output act at

-- how the work on a program ended, and its last flow, by what the program comes to
abbrev pub Ends : Ended (Option ℕ) → Flow → Machine → Result (Unit {0}) Halt → Type 0
Ends end f m (Ok done) = end ≡ Goes (given_by f) (store_of m) m.left
Ends end f m (Err why) = Halts end m why
