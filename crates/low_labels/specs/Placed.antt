-- Where operations are in words of code.
use Rattle.std.specs.Prelude.{◌≡◌, ℕ, ◌+◌, List, [], ◌∷◌, Some, ℤ, pos, slice_get}
use Rattle.rv_code.specs.declared.instr.Instr.{Instr}
use Rattle.rv_code.specs.declared.instr.Instr.TheVariants.{Jal}
use Rattle.rv_code.specs.Table.{IsInstr, word_of}
use Rattle.rv_code.specs.Word.{sum, word}
use Rattle.rv_code.specs.Step.{address_of}
use Rattle.low_labels.specs.Operation.{Operation, Do, Jump, Branch, Mark, width, unless}

-- Labels give places, which are counted in words from the first word on.
module _ (code : List ℕ) (labels : ℕ → ℕ) where
  -- the word of an instruction is at a place
  abbrev pub HasWord : ℕ → Instr → Type 0
  HasWord i x = IsInstr x × (slice_get code i ≡ Some (word_of x))

  -- a jump that leads to a label
  abbrev pub HasJump : (i rd label : ℕ) → Type 0
  HasJump i rd label =
      (imm : ℤ) × HasWord i (Jal rd imm)
      × (sum (address_of i) (word imm) ≡ address_of (labels label))

  -- a branch is two words: past a jump where its test doesn't hold
  abbrev pub Stands : ℕ → Operation → Type 0
  Stands i (Do x) = HasWord i x
  Stands i (Jump rd label) = HasJump i rd label
  Stands i (Branch t rs1 rs2 label) =
      HasWord i (unless t rs1 rs2 (pos 8)) × HasJump (i + 1) 0 label
  Stands i (Mark label) = labels label ≡ i

  -- operations one behind the other
  abbrev pub HasAt : ℕ → List Operation → Type 0
  HasAt i [] = Unit {0}
  HasAt i (o ∷ os) = Stands i o × HasAt (i + width o) os
