-- What a shelf over the machine's files shows.
use Rattle.std.specs.Prelude.{ℕ}
use Rattle.bop_ends.specs.declared.real_shelf.RealShelf.{RealShelf}

abbrev pub real_shelf_faults : {F A B : Type 0} → RealShelf F A B → ℕ
real_shelf_faults shelf = shelf.faults.count
