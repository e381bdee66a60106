use Rattle.c_tree.proofs.Related.{typed_by}
use Rattle.c_tree.proofs.Derived.{derived}
use Rattle.c_types.proofs.laws.the_type_is_what_the_rules_derive.Goals as goal

pub returns-clause-derived : goal.returns-clause-derived
returns-clause-derived c = typed_by

pub returns-clause-each : goal.returns-clause-each
returns-clause-each c = derived
