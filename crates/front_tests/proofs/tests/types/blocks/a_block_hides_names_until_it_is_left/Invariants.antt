use Rattle.std.proofs.Common.{◌≤◌, length}
use Rattle.c_types.specs.Env.{scope_of}
use Rattle.front_tests.proofs.tests.types.blocks.a_block_hides_names_until_it_is_left.Given as goal

abbrev pub invariant-loop-line : goal.invariant-loop-line
invariant-loop-line g l = (goal.iterator-loop-line g).can_next l.line-iterator × (goal.iterator-loop-line g).is_finite l.line-iterator × (l.depth ≤ length (scope_of l.env).outer)
