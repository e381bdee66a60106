-- What a source over a reader shows.
use Rattle.std.specs.Prelude.{ℕ}
use Rattle.bop_ends.specs.declared.real_source.RealSource.{RealSource}

abbrev pub real_source_reader : {R : Type 0} → RealSource R → R
real_source_reader source = source.reader

abbrev pub real_source_faults : {R : Type 0} → RealSource R → ℕ
real_source_faults source = source.faults.count
