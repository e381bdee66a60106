-- Bytes that are put into the data.
use Rattle.std.specs.Prelude.{ℕ, ◌+◌, ◌-◌, List, [], ◌∷◌, slice_set}
use Rattle.bop_bits.specs.declared.map.TheConstants.{DATA_FROM}
use Rattle.c_tree.specs.Var.{Var}
use Rattle.c_semantics.specs.Meaning.{first_bytes}

-- one behind the other from an address on; those behind the data are left out
abbrev pub with_data : ℕ → List ℕ → List ℕ → List ℕ
with_data at [] out = out
with_data at (b ∷ bs) out = with_data (at + 1) bs (slice_set out (at - DATA_FROM) b)

-- what globals hold first, each at its address, in order of declaration
abbrev pub with_first_data : List ℕ → List Var → List ℕ → List ℕ
with_first_data (address ∷ rest) (d ∷ ds) out =
    with_first_data rest ds (with_data address (first_bytes d) out)
with_first_data _ _ out = out
