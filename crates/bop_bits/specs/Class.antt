-- The class of a page.
use Rattle.std.specs.Prelude.{ℕ, Bool, ◌&&◌, nat_le, nat_lt, if◌then◌else◌}
use Rattle.bop_bits.specs.declared.class.Class.{Class}
use Rattle.bop_bits.specs.declared.class.Class.TheVariants.{Shared, Checked, Private}
use Rattle.bop_bits.specs.declared.class.Classes.{Classes}
use Rattle.bop_bits.specs.declared.map.TheConstants.{STACK_PAGE}

abbrev pub is_within : ℕ → ℕ → ℕ → Bool
is_within from to page = nat_le from page && nat_lt page to

-- the stack is private
abbrev pub class_of : Classes → ℕ → Class
class_of classes page =
    if nat_le STACK_PAGE page then Private
    else if is_within classes.checked_from classes.private_from page then Checked
    else if is_within classes.private_from classes.private_to page then Private
    else Shared
