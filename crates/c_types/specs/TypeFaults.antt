-- What a fault says.
use Rattle.std.specs.Prelude.{◌≡◌, Option, Some}
use Rattle.c_tree.specs.declared.breach.Breach.{Breach}
use Rattle.c_tree.specs.declared.breach.Broken.TheVariants as broken
use Rattle.c_types.specs.declared.fault.TypeFault.{TypeFault}
use Rattle.c_types.specs.declared.fault.TypeFault.TheVariants.{Mismatch, NotAPlace, NotConstant, Unknown, Arguments, OutOfMemory}

-- a fault is the least breach; want of memory is free
abbrev pub IsFault : TypeFault → Option Breach → Type 0
IsFault (Mismatch at) least = least ≡ Some (record { kind = broken.Mismatch; place = at })
IsFault (NotAPlace at) least = least ≡ Some (record { kind = broken.NotAPlace; place = at })
IsFault (NotConstant at) least = least ≡ Some (record { kind = broken.NotConstant; place = at })
IsFault (Unknown at) least = least ≡ Some (record { kind = broken.Unknown; place = at })
IsFault (Arguments at) least = least ≡ Some (record { kind = broken.Arguments; place = at })
IsFault OutOfMemory least = Unit {0}
