-- What is known of a constant.
use Rattle.c_tree.specs.Ty.{Ty}
use Rattle.c_tree.specs.Ty as ty
use Rattle.c_rules.specs.declared.integers.Integer.{Integer}
use Rattle.c_rules.specs.declared.integers.Integer.TheVariants.{Int, Unsigned, Char}

abbrev pub integer : Integer → Ty
integer Int = ty.Int
integer Unsigned = ty.Unsigned
integer Char = ty.Char
