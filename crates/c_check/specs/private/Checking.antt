-- What a check notes, and in which scope.
use Rattle.std.specs.Prelude.{List}
use Rattle.c_tree.specs.Breach.{Adds}
use Rattle.c_tree.specs.declared.breach.Breach.{Breach}
use Rattle.c_tree.specs.Scope.{Scope}
use Rattle.c_types.specs.Env.{scope_of}
use Rattle.c_check.specs.declared.checker.Checker.{Checker}

-- the names in scope
abbrev pub scope_in : Checker → Scope
scope_in checker = scope_of checker.env

-- some breaches are noted
abbrev pub Notes : Checker → Checker → List Breach → Type 0
Notes old new more = Adds old.least new.least more
