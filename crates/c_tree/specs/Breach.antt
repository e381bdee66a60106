-- Breaches, and the least of them.
use Rattle.std.specs.Prelude.{◌≡◌, ℕ, ◌==◌, Bool, true, false, ◌&&◌, ◌||◌, List, [], ◌∷◌, Option, Some, None, if◌then◌else◌, nat_lt}
use Rattle.c_tree.specs.declared.breach.Breach.{Breach}
use Rattle.c_tree.specs.declared.breach.Broken.{Broken}
use Rattle.c_tree.specs.declared.breach.Broken.TheVariants.{Mismatch, NotAPlace, NotConstant, Unknown, Arguments, Twice, Marker, NoMain, TooManyParameters}
use Rattle.c_tree.specs.declared.breach.Least.{Least}
use Rattle.c_tree.specs.declared.breach.Ranking.{Ranking}
use Rattle.c_tree.specs.declared.breach.Ranking.TheVariants.{ForTypes, ForChecks}
use Rattle.c_tree.specs.declared.place.Place.{Place}

-- as the faults of a check are numbered, where the first three kinds are one
abbrev pub check_number : Broken → ℕ
check_number Unknown = 1
check_number Twice = 2
check_number Mismatch = 3
check_number NotAPlace = 3
check_number NotConstant = 3
check_number Arguments = 4
check_number Marker = 5
check_number NoMain = 6
check_number TooManyParameters = 7

-- as the faults of types are numbered, which have the first five kinds alone
abbrev pub type_number : Broken → ℕ
type_number Mismatch = 1
type_number NotAPlace = 2
type_number NotConstant = 3
type_number Unknown = 4
type_number Arguments = 5
type_number Twice = 6
type_number Marker = 7
type_number NoMain = 8
type_number TooManyParameters = 9

-- the kinds of breach that an expression can have
abbrev pub is_typing : Broken → Bool
is_typing Mismatch = true
is_typing NotAPlace = true
is_typing Unknown = true
is_typing Arguments = true
is_typing _ = false

abbrev pub number : Ranking → Broken → ℕ
number ForTypes = type_number
number ForChecks = check_number

-- the earlier place comes first, at one place the least number
abbrev pub is_before : Ranking → Breach → Breach → Bool
is_before by a b =
    nat_lt a.place.line b.place.line
    || (a.place.line == b.place.line
    && (nat_lt a.place.column b.place.column
    || (a.place.column == b.place.column && nat_lt (number by a.kind) (number by b.kind))))

abbrev pub nearer : Ranking → Option Breach → Breach → Option Breach
nearer by None b = Some b
nearer by (Some a) b = if is_before by b a then Some b else Some a

-- the least of what was found and one more
abbrev pub lesser : Least → Breach → Least
lesser least b = record least { found = nearer least.by least.found b }

-- the least of what was found and some more
abbrev pub least_of : Least → List Breach → Least
least_of least [] = least
least_of least (b ∷ bs) = least_of (lesser least b) bs

-- some breaches are added to the least that was found
abbrev pub Adds : Least → Least → List Breach → Type 0
Adds old new more = new ≡ least_of old more

abbrev pub nothing_found : Ranking → Least
nothing_found by = record { by = by; found = None }

abbrev pub breach : Broken → Place → List Breach
breach kind at = record { kind = kind; place = at } ∷ []

-- a breach of a kind, unless all is right
abbrev pub unless : Bool → Broken → Place → List Breach
unless right kind at = if right then [] else breach kind at
