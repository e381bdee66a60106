-- What the names in a marker are for.
use Rattle.std.specs.Prelude.{Bool}
use Rattle.c_tree.specs.Statements.{is_sent, is_int}
use Rattle.c_tree.specs.Ty.{Ty}
use Rattle.c_check.specs.declared.marker.Role.{Role}
use Rattle.c_check.specs.declared.marker.Role.TheVariants.{Source, Length}

-- whether a variable of a type can have the role
abbrev pub can_be : Role → Ty → Bool
can_be Source = is_sent
can_be Length = is_int
