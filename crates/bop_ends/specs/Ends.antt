-- What the calls of an end do to its count of faults, and to the content that it tells.
use Rattle.std.specs.Prelude.{◌≡◌, ℕ, ◌+◌, ◌-◌, ◌^◌, ◌≤◌, min, List, take, Option, Some, None, Result, MatchResult, OnOk, OnErr, IsErrOf}
use Rattle.std.specs.Io.KnownBytes.{Appends}
use Rattle.bop_ends.specs.declared.fault.LoadFault.{LoadFault}
use Rattle.bop_ends.specs.declared.fault.LoadFault.TheVariants.{Failed, OutOfMemory}

-- the count is above what it was, or stands at the end of its 64 bits
abbrev pub Rose : ℕ → ℕ → Type 0
Rose before now = min (before + 1) (2 ^ 64 - 1) ≤ now

-- the count is one more than it was, or stands at the end of its 64 bits
abbrev pub RaisedOnce : ℕ → ℕ → Type 0
RaisedOnce before now = now ≡ min (before + 1) (2 ^ 64 - 1)

-- an error comes only where the count rose, and every other answer leaves the count
pub record HasCause {T E : Type 0} (before now : ℕ) (result : Result T E) : Type 0 where
  pub later : before ≤ now
  pub failed : OnErr result (Rose before now)
  pub kept : OnOk result (now ≡ before)

-- the same of a load, where want of memory leaves the count too
pub record HasLoadCause {T : Type 0} (before now : ℕ) (result : Result T LoadFault) : Type 0 where
  pub later : before ≤ now
  pub failed : IsErrOf result Failed → Rose before now
  pub kept : OnOk result (now ≡ before)
  pub free : IsErrOf result OutOfMemory → now ≡ before

-- known bytes grow by the whole piece, or at a failure by a front of it
abbrev pub AppendsPiece : {T E : Type 0}
    → Option (List ℕ) → Option (List ℕ) → Result T E → List ℕ → Type 0
AppendsPiece old new result piece =
    MatchResult result (λ _. Appends old new piece) (λ _. (n : ℕ) × Appends old new (take n piece))

-- the bytes are the first of the file, and there is a file
abbrev pub IsFront : Option (List ℕ) → ℕ → List ℕ → Type 0
IsFront None most bytes = ⊥
IsFront (Some file) most bytes = bytes ≡ take most file
