-- What a source in memory shows.
use Rattle.std.specs.Prelude.{◌≡◌, ◌+◌, ◌-◌, ◌^◌, ℕ, List, Bool, length, drop, min, if◌then◌else◌}
use Rattle.bop_ends.specs.Plan.{fails_at}
use Rattle.bop_ends.specs.declared.mem_source.MemSource.{MemSource}

-- the bytes that no read has given yet
abbrev pub mem_source_left : MemSource → List ℕ
mem_source_left source = drop source.at source.content.items

-- how many bytes a read gives at most
abbrev pub mem_source_piece : MemSource → ℕ
mem_source_piece source = source.piece

-- the numbers of the calls that are to fail
abbrev pub mem_source_plan : MemSource → List ℕ
mem_source_plan source = source.fails.items

-- the number of the next call
abbrev pub mem_source_calls : MemSource → ℕ
mem_source_calls source = source.calls

abbrev pub mem_source_faults : MemSource → ℕ
mem_source_faults source = source.faults.count

-- the next call is to fail
abbrev pub next_fails : MemSource → Bool
next_fails source = fails_at (mem_source_plan source) (mem_source_calls source)

-- how many bytes the next call moves into the buffer: none where it is to fail, and else as many
-- as it gives at most, as are left and as there is room for, whatever is least
abbrev pub moved_by : MemSource → List ℕ → ℕ
moved_by source into =
    if next_fails source then 0
    else min (mem_source_piece source) (min (length (mem_source_left source)) (length into))

-- the plan and the most of a read stay, and the next call has the next number
pub record TakesRead (old new : MemSource) : Type 0 where
  pub piece : mem_source_piece new ≡ mem_source_piece old
  pub plan : mem_source_plan new ≡ mem_source_plan old
  pub calls : mem_source_calls new ≡ min (mem_source_calls old + 1) (2 ^ 64 - 1)
