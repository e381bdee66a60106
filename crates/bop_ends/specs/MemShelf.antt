-- What a shelf in memory shows.
use Rattle.std.specs.Prelude.{◌≡◌, ◌+◌, ◌-◌, ◌^◌, ℕ, List, Bool, Option, min}
use Rattle.bop_ends.specs.Files.{file_in}
use Rattle.bop_ends.specs.Plan.{fails_at}
use Rattle.bop_ends.specs.declared.mem_shelf.MemShelf.{MemShelf}

-- the bytes of the file of this name
abbrev pub mem_shelf_file : MemShelf → List ℕ → Option (List ℕ)
mem_shelf_file shelf = file_in shelf.files

-- the numbers of the loads that are to fail
abbrev pub mem_shelf_plan : MemShelf → List ℕ
mem_shelf_plan shelf = shelf.fails.items

-- the number of the next load
abbrev pub mem_shelf_calls : MemShelf → ℕ
mem_shelf_calls shelf = shelf.calls

abbrev pub mem_shelf_faults : MemShelf → ℕ
mem_shelf_faults shelf = shelf.faults.count

-- the next load is to fail
abbrev pub next_fails : MemShelf → Bool
next_fails shelf = fails_at (mem_shelf_plan shelf) (mem_shelf_calls shelf)

-- the plan stays, and the next load has the next number
pub record TakesLoad (old new : MemShelf) : Type 0 where
  pub plan : mem_shelf_plan new ≡ mem_shelf_plan old
  pub calls : mem_shelf_calls new ≡ min (mem_shelf_calls old + 1) (2 ^ 64 - 1)
