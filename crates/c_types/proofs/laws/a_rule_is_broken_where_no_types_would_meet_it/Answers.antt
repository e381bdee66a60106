use Rattle.c_tree.proofs.Possible.{binary_exact, conditional_exact, index_exact, assign_exact}
use Rattle.c_tree.proofs.PossibleParts.{unary_exact, step_exact, cast_exact, taking_exact}
use Rattle.c_types.proofs.laws.a_rule_is_broken_where_no_types_would_meet_it.Goals as goal

pub returns-clause-operators : goal.returns-clause-operators
returns-clause-operators c = binary_exact

pub returns-clause-choices : goal.returns-clause-choices
returns-clause-choices c = conditional_exact

pub returns-clause-elements : goal.returns-clause-elements
returns-clause-elements c = index_exact

pub returns-clause-assignments : goal.returns-clause-assignments
returns-clause-assignments c = assign_exact

pub returns-clause-prefixes : goal.returns-clause-prefixes
returns-clause-prefixes c = unary_exact

pub returns-clause-steps : goal.returns-clause-steps
returns-clause-steps c = step_exact

pub returns-clause-casts : goal.returns-clause-casts
returns-clause-casts c = cast_exact

pub returns-clause-taken : goal.returns-clause-taken
returns-clause-taken c = taking_exact
