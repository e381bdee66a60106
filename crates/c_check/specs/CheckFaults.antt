-- What a fault says.
use Rattle.std.specs.Prelude.{◌≡◌, Option, MatchOption}
use Rattle.c_tree.specs.declared.breach.Breach.{Breach}
use Rattle.c_tree.specs.declared.breach.Broken.{Broken}
use Rattle.c_tree.specs.declared.breach.Broken.TheVariants as broken
use Rattle.c_check.specs.declared.fault.CheckFault.{CheckFault}
use Rattle.c_check.specs.declared.fault.CheckFault.TheVariants.{Breach as Breaches, OutOfMemory}
use Rattle.c_check.specs.declared.fault.CheckKind.{CheckKind}
use Rattle.c_check.specs.declared.fault.CheckKind.TheVariants.{Unknown, Twice, BadType, Arguments, Marker, NoMain, TooManyParameters}

-- three kinds of breach are bad types
abbrev pub kind_of : Broken → CheckKind
kind_of broken.Mismatch = BadType
kind_of broken.NotAPlace = BadType
kind_of broken.NotConstant = BadType
kind_of broken.Unknown = Unknown
kind_of broken.Arguments = Arguments
kind_of broken.Twice = Twice
kind_of broken.Marker = Marker
kind_of broken.NoMain = NoMain
kind_of broken.TooManyParameters = TooManyParameters

-- a fault is the breach that was found; want of memory is free
abbrev pub IsFault : CheckFault → Option Breach → Type 0
IsFault (Breaches kind at) found =
    MatchOption found ⊥ (λ b. (kind_of b.kind ≡ kind) × (b.place ≡ at))
IsFault OutOfMemory found = Unit {0}
