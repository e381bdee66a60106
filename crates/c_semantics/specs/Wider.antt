-- The meaning with wider bounds: loops that may test more often, and calls that may nest deeper.
use Rattle.std.specs.Prelude.{◌≡◌, ℕ, suc, ◌+◌, List, []}
use Rattle.c_tree.specs.Item.{Item}
use Rattle.c_semantics.specs.declared.flow.Flow.{Flow}
use Rattle.c_semantics.specs.Run.{Store, Run, ◌>>◌, count}
use Rattle.c_semantics.specs.Eval.{enter}
use Rattle.c_semantics.specs.Exec.{turns, loop}
use Rattle.c_semantics.specs.Meaning.{Meaning, definition, main_name, start, calls_at, ended}

-- a loop that may test k times more
abbrev pub longer_loop : ℕ → Run ℕ → Run Flow → Run (Unit {0}) → Run Flow
longer_loop k test body step store left = turns (suc left + k) test body step store left

-- the loop is the same with any number of tests more, from each store and with each number of steps left
abbrev pub NeedsNoMoreTests : Run ℕ → Run Flow → Run (Unit {0}) → Type 0
NeedsNoMoreTests test body step =
    (k : ℕ) (store : Store) (left : ℕ)
    → longer_loop k test body step store left ≡ loop test body step store left

-- the meaning of a text within n steps where calls may nest k deeper
unfoldable pub meant_deeper : ℕ → List Item → List ℕ → ℕ → Meaning
meant_deeper k text input n =
    ended ((count >> enter (calls_at text input (n + k)) (definition text main_name) [])
    (start text) n)
