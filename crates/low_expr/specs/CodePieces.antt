-- Pieces of code that load constants, addresses and slots. Values are in the slots of the frame:
-- slot s is the word at 4 * s above the stack pointer.
use Rattle.std.specs.Prelude.{ℕ, ◌+◌, ◌*◌, ◌/◌, ◌%◌, ◌^◌, nat_lt, Bool, true, false, List, [], ◌∷◌, ◌++◌, map, ℤ, pos}
use Rattle.bop_bits.specs.Bits.{signed_of}
use Rattle.rv_code.specs.declared.instr.Instr.{Instr}
use Rattle.rv_code.specs.declared.instr.Instr.TheVariants as instr
use Rattle.low_labels.specs.Operation.{Operation}
use Rattle.low_labels.specs.Operation as op
use Rattle.c_semantics.specs.declared.home.Home.{Home}
use Rattle.c_semantics.specs.declared.home.Home.TheVariants.{Fixed, InFrame, Nowhere}
use Rattle.c_semantics.specs.declared.kind.Held.{Held}
use Rattle.c_semantics.specs.declared.kind.Held.TheVariants.{Byte, Word, Array}
use Rattle.low_expr.specs.Registers.{x0, sp, t0, t2}

-- A number below 2^32 is an upper part of 20 bits, which LUI loads, and a lower part of 12 bits in
-- two's complement, which ADDI or a load or a store adds.
abbrev pub upper : ℕ → ℕ
upper v = (v + 2 ^ 11) / 2 ^ 12 % 2 ^ 20

abbrev pub lower : ℕ → ℤ
lower v = signed_of 12 v

-- a word that an immediate of 12 bits gives, with its sign
abbrev pub is_immediate : ℕ → Bool
is_immediate v = nat_lt ((v + 2 ^ 11) % 2 ^ 32) (2 ^ 12)

abbrev pub constant_by : Bool → (rd v : ℕ) → List Instr
constant_by true rd v = instr.Addi rd x0 (lower v) ∷ []
constant_by false rd v = instr.Lui rd (upper v) ∷ instr.Addi rd rd (lower v) ∷ []

-- a number into a register
abbrev pub constant : (rd v : ℕ) → List Instr
constant rd v = constant_by (is_immediate v) rd v

-- an offset whose upper part is 0
abbrev pub is_near : ℕ → Bool
is_near offset = nat_lt offset (2 ^ 11)

abbrev pub frame_address_by : Bool → (rd offset : ℕ) → List Instr
frame_address_by true rd offset = instr.Addi rd sp (pos offset) ∷ []
frame_address_by false rd offset =
    instr.Lui rd (upper offset) ∷ instr.Add rd rd sp ∷ instr.Addi rd rd (lower offset) ∷ []

-- the address of what is so far above the stack pointer
abbrev pub frame_address : (rd offset : ℕ) → List Instr
frame_address rd offset = frame_address_by (is_near offset) rd offset

abbrev pub take_by : Bool → (rd offset : ℕ) → List Instr
take_by true rd offset = instr.Lw rd sp (pos offset) ∷ []
take_by false rd offset =
    instr.Lui rd (upper offset) ∷ instr.Add rd rd sp ∷ instr.Lw rd rd (lower offset) ∷ []

-- a slot into a register
abbrev pub take_slot : (rd slot : ℕ) → List Instr
take_slot rd slot = take_by (is_near (4 * slot)) rd (4 * slot)

abbrev pub find_by : Bool → (offset : ℕ) → List Instr
find_by true offset = []
find_by false offset = instr.Lui t2 (upper offset) ∷ instr.Add t2 t2 sp ∷ []

abbrev pub put_by : Bool → (rs offset : ℕ) → Instr
put_by true rs offset = instr.Sw sp rs (pos offset)
put_by false rs offset = instr.Sw t2 rs (lower offset)

-- a register into a slot: what finds the slot, and the store
abbrev pub find_slot : (slot : ℕ) → List Instr
find_slot slot = find_by (is_near (4 * slot)) (4 * slot)

abbrev pub put_slot : (rs slot : ℕ) → Instr
put_slot rs slot = put_by (is_near (4 * slot)) rs (4 * slot)

-- it does nothing
abbrev pub nothing : Instr
nothing = instr.Addi x0 x0 (pos 0)

-- the address of a variable into t0
abbrev pub home_address : Home → List Instr
home_address (Fixed address) = constant t0 address
home_address (InFrame offset) = frame_address t0 offset
home_address Nowhere = constant t0 0

-- what the object at the address in a register holds, into t0
abbrev pub read_by : Held → (rs : ℕ) → List Instr
read_by Byte rs = instr.Lbu t0 rs (pos 0) ∷ []
read_by Word rs = instr.Lw t0 rs (pos 0) ∷ []
read_by Array rs = instr.Addi t0 rs (pos 0) ∷ []

-- t0 as a value of the object's type
abbrev pub narrow_by : Held → List Instr
narrow_by Byte = instr.Andi t0 t0 (pos 255) ∷ []
narrow_by Word = []
narrow_by Array = []

-- t0 into the object at the address in t2; an array isn't assigned
abbrev pub write_by : Held → List Instr
write_by Byte = instr.Sb t2 t0 (pos 0) ∷ []
write_by Word = instr.Sw t2 t0 (pos 0) ∷ []
write_by Array = []

abbrev pub all_do : List Instr → List Operation
all_do xs = map op.Do xs

-- instructions that leave a value in a register, which goes into a slot
abbrev pub keep : List Instr → (rs slot : ℕ) → List Operation
keep xs rs slot = all_do (xs ++ find_slot slot) ++ op.Do (put_slot rs slot) ∷ []
