-- The statuses: a row each, with all that is told of one.
use Rattle.std.specs.Prelude.{ℕ, Bool, true, false, List, codes, Option, Some, None}
use Rattle.bop_top.specs.declared.outcome.Outcome.{Outcome}
use Rattle.bop_top.specs.declared.outcome.Outcome.TheVariants as outcome
use Rattle.bop_top.specs.declared.status.End.{End}
use Rattle.bop_top.specs.declared.status.End.TheVariants.{Shelf, Input, Output, Report}
use Rattle.bop_top.specs.declared.status.Status.{Status}
use Rattle.bop_top.specs.declared.status.Status.TheVariants.{Done, Fine, BadWords, LoadFault, ProgramTooLong, Rejected, ReadFault, InputTooLong, Budget, Trapped, StackFull, Undefined, MoreSteps, WriteFault, ReportFault, OutOfMemory, NotYetBuilt}

-- its name in the report, the status of the process, whether what was asked for was answered, and
-- the end that has failed
pub record Row : Type 0 where
  pub name : List ℕ
  pub code : ℕ
  pub answer : Bool
  pub fault : Option End

abbrev pub row : List ℕ → ℕ → Bool → Option End → Row
row name code answer fault =
    record { name = name; code = code; answer = answer; fault = fault }

abbrev pub row_of : Status → Row
row_of (Done exit) = row (codes "done") 0 true None
row_of Fine = row (codes "fine") 0 true None
row_of BadWords = row (codes "bad-words") 2 false None
row_of LoadFault = row (codes "load-fault") 3 false (Some Shelf)
row_of ProgramTooLong = row (codes "program-too-long") 4 false None
row_of (Rejected refused) = row (codes "rejected") 5 false None
row_of ReadFault = row (codes "read-fault") 7 false (Some Input)
row_of InputTooLong = row (codes "input-too-long") 8 false None
row_of Budget = row (codes "budget") 9 true None
row_of (Trapped trap pc) = row (codes "trapped") 10 true None
row_of StackFull = row (codes "stack-full") 11 true None
row_of (Undefined act at) = row (codes "undefined") 12 true None
row_of MoreSteps = row (codes "more-steps") 13 true None
row_of WriteFault = row (codes "write-fault") 14 false (Some Output)
row_of ReportFault = row (codes "report-fault") 15 false (Some Report)
row_of OutOfMemory = row (codes "out-of-memory") 18 false None
row_of NotYetBuilt = row (codes "not-yet-built") 19 false None

-- the status with which a command ends
abbrev pub status_of : Outcome → Status
status_of (outcome.Done exit) = Done exit
status_of outcome.Fine = Fine
status_of outcome.LoadFault = LoadFault
status_of outcome.ProgramTooLong = ProgramTooLong
status_of (outcome.Rejected refused) = Rejected refused
status_of outcome.ReadFault = ReadFault
status_of outcome.InputTooLong = InputTooLong
status_of outcome.Budget = Budget
status_of (outcome.Trapped trap pc) = Trapped trap pc
status_of outcome.StackFull = StackFull
status_of (outcome.Undefined act at) = Undefined act at
status_of outcome.MoreSteps = MoreSteps
status_of outcome.WriteFault = WriteFault
status_of outcome.OutOfMemory = OutOfMemory
status_of outcome.NotYetBuilt = NotYetBuilt
