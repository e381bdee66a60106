-- How often the ends of a command fail.
use Rattle.std.specs.Prelude.{◌≡◌, ℕ, Option, Some, None}
use Rattle.bop_ends.specs.Ends.{Rose}
use Rattle.bop_top.specs.declared.outcome.Outcome.{Outcome}
use Rattle.bop_top.specs.declared.status.End.{End}
use Rattle.bop_top.specs.declared.status.End.TheVariants as end
use Rattle.bop_top.specs.Statuses.{row_of, status_of}

-- how often the ends of a command have failed
pub record Faults : Type 0 where
  pub shelf : ℕ
  pub input : ℕ
  pub output : ℕ

-- the count of this end rose, if of any, and the others stand (a command doesn't use the report)
abbrev pub Rises : Option End → Faults → Faults → Type 0
Rises None old new = new ≡ old
Rises (Some end.Shelf) old new =
    Rose old.shelf new.shelf × (new ≡ record old { shelf = new.shelf })
Rises (Some end.Input) old new =
    Rose old.input new.input × (new ≡ record old { input = new.input })
Rises (Some end.Output) old new =
    Rose old.output new.output × (new ≡ record old { output = new.output })
Rises (Some end.Report) old new = ⊥

-- what an outcome says of the faults before the call and after it
abbrev pub Counts : Outcome → Faults → Faults → Type 0
Counts outcome old new = Rises (row_of (status_of outcome)).fault old new
