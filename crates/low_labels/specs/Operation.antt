-- The operations of code with labels.
use Rattle.std.specs.Prelude.{ℕ, ◌+◌, List, [], ◌∷◌, ℤ}
use Rattle.rv_code.specs.declared.instr.Instr.{Instr}
use Rattle.rv_code.specs.declared.instr.Instr.TheVariants.{Beq, Bne, Blt, Bge, Bltu, Bgeu}
use Rattle.low_labels.specs.declared.test.Test.{Test}
use Rattle.low_labels.specs.declared.test.Test.TheVariants as test

-- an instruction; a jump or a branch to a label; a label's place
pub data Operation : Type 0 where
  Do : (instr : Instr) → Operation
  Jump : (rd label : ℕ) → Operation
  Branch : (test : Test) (rs1 rs2 label : ℕ) → Operation
  Mark : (label : ℕ) → Operation

-- how many words an operation has
abbrev pub width : Operation → ℕ
width (Do i) = 1
width (Jump rd label) = 1
width (Branch t rs1 rs2 label) = 2
width (Mark label) = 0

abbrev pub width_of : List Operation → ℕ
width_of [] = 0
width_of (o ∷ os) = width o + width_of os

-- a branch that is taken where the test doesn't hold
abbrev pub unless : Test → (rs1 rs2 : ℕ) → ℤ → Instr
unless test.Eq rs1 rs2 imm = Bne rs1 rs2 imm
unless test.Ne rs1 rs2 imm = Beq rs1 rs2 imm
unless test.Lt rs1 rs2 imm = Bge rs1 rs2 imm
unless test.Ge rs1 rs2 imm = Blt rs1 rs2 imm
unless test.LtU rs1 rs2 imm = Bgeu rs1 rs2 imm
unless test.GeU rs1 rs2 imm = Bltu rs1 rs2 imm
