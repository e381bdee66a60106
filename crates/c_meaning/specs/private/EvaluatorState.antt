-- What a call of the machine does, as a run.
use Rattle.std.specs.Prelude.{◌≡◌, Result, Ok, Err}
use Rattle.c_meaning.specs.declared.halt.Halt.{Halt}
use Rattle.c_meaning.specs.declared.halt.Halt.TheVariants as halt
use Rattle.c_meaning.specs.declared.machine.Machine.{Machine}
use Rattle.c_semantics.specs.Run.{Store, Run, Ended, Goes, StackFull, More, Undef}

abbrev pub store_of : Machine → Store
store_of m = record {
  bytes = m.memory.bytes;
  live = m.memory.live;
  sp = m.sp;
  cursor = m.cursor;
  output = m.output;
}

-- where a run stops with the machine in this state; want of memory is free
abbrev pub Halts : {A : Type 0} → Ended A → Machine → Halt → Type 0
Halts end new halt.StackFull = end ≡ StackFull new.output
Halts end new halt.More = end ≡ More new.output
Halts end new (halt.Undefined act at) = end ≡ Undef new.output act at
Halts end new halt.OutOfMemory = Unit {0}

-- from one state to another, with this answer
abbrev pub Ran : {A : Type 0} → Run A → Machine → Machine → Result A Halt → Type 0
Ran run old new (Ok v) = run (store_of old) old.left ≡ Goes v (store_of new) new.left
Ran run old new (Err why) = Halts (run (store_of old) old.left) new why

abbrev pub SameSteps : Machine → Machine → Type 0
SameSteps old new = new.left ≡ old.left
