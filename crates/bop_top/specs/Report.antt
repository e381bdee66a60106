-- The report: a line about how a command has ended, for a run one about its steps, for a run and a
-- meaning one about the bytes written; and what becomes of them.
use Rattle.std.specs.Prelude.{◌≡◌, ℕ, List, [], ◌++◌, codes, if◌then◌else◌, Option, Some, None, ◌⊎◌}
use Rattle.std.specs.Fmt.{decimal, signed_decimal}
use Rattle.std.specs.Io.KnownBytes.{Appends}
use Rattle.byte_lists.specs.Content.{AppendsPrefix}
use Rattle.bop_ends.specs.Ends.{Rose}
use Rattle.c_check.specs.declared.fault.CheckFault.{CheckFault}
use Rattle.c_check.specs.declared.fault.CheckFault.TheVariants as check
use Rattle.c_check.specs.declared.fault.CheckKind.{CheckKind}
use Rattle.c_check.specs.declared.fault.CheckKind.TheVariants as kind
use Rattle.c_expr.specs.declared.fault.ParseFault.{ParseFault}
use Rattle.c_expr.specs.declared.fault.ParseFault.TheVariants as parse
use Rattle.c_layout.specs.declared.fault.LayoutFault.{LayoutFault}
use Rattle.c_layout.specs.declared.fault.LayoutFault.TheVariants as layout
use Rattle.c_token.specs.declared.fault.TokenFault.{TokenFault}
use Rattle.c_token.specs.declared.fault.TokenFault.TheVariants as token
use Rattle.c_tree.specs.declared.place.Place.{Place}
use Rattle.c_tree.specs.declared.undefined.Undefined.{Undefined as Act}
use Rattle.c_tree.specs.declared.undefined.Undefined.TheVariants as act
use Rattle.low_link.specs.declared.refused.Refused.{Refused}
use Rattle.low_link.specs.declared.refused.Refused.TheVariants as refused
use Rattle.rv_code.specs.declared.stop.Trap.{Trap}
use Rattle.rv_code.specs.declared.stop.Trap.TheVariants as trap
use Rattle.bop_top.specs.declared.ending.Figures.{Figures}
use Rattle.bop_top.specs.declared.status.Status.{Status}
use Rattle.bop_top.specs.declared.status.Status.TheVariants.{Done, Rejected, Trapped, Undefined, ReportFault}
use Rattle.bop_top.specs.Statuses.{row_of}

-- a place behind the name of what stands there
abbrev pub placed : List ℕ → Place → List ℕ
placed name at = name ++ (codes " " ++ (decimal at.line ++ (codes " " ++ decimal at.column)))

abbrev pub token_text : TokenFault → List ℕ
token_text (token.BadByte at) = placed (codes "bad-byte") at
token_text (token.OpenComment at) = placed (codes "open-comment") at
token_text (token.BadLiteral at) = placed (codes "bad-literal") at
token_text (token.TooLarge at) = placed (codes "too-large") at
token_text (token.BadLine at) = placed (codes "bad-line") at
token_text token.OutOfMemory = codes "out-of-memory"

abbrev pub parse_text : ParseFault → List ℕ
parse_text (parse.Unexpected at) = placed (codes "unexpected") at
parse_text (parse.TooDeep at) = placed (codes "too-deep") at
parse_text parse.OutOfMemory = codes "out-of-memory"

abbrev pub kind_text : CheckKind → List ℕ
kind_text kind.Unknown = codes "unknown"
kind_text kind.Twice = codes "twice"
kind_text kind.BadType = codes "bad-type"
kind_text kind.Arguments = codes "arguments"
kind_text kind.Marker = codes "marker"
kind_text kind.NoMain = codes "no-main"
kind_text kind.TooManyParameters = codes "too-many-parameters"

abbrev pub check_text : CheckFault → List ℕ
check_text (check.Breach kind at) = placed (kind_text kind) at
check_text check.OutOfMemory = codes "out-of-memory"

abbrev pub layout_text : LayoutFault → List ℕ
layout_text layout.DataTooLarge = codes "data-too-large"
layout_text (layout.FrameTooLarge at) = placed (codes "frame-too-large") at
layout_text layout.OutOfMemory = codes "out-of-memory"

-- why a text is rejected (none is for want of memory)
abbrev pub rejection : Refused → List ℕ
rejection (refused.Token fault) = token_text fault
rejection (refused.Parse fault) = parse_text fault
rejection (refused.Check fault) = check_text fault
rejection (refused.Layout fault) = layout_text fault
rejection refused.CodeTooLong = codes "code-too-long"
rejection refused.OutOfMemory = codes "out-of-memory"

abbrev pub act_text : Act → List ℕ
act_text act.Overflow = codes "overflow"
act_text act.Divide = codes "divide"
act_text act.Shift = codes "shift"
act_text act.Access = codes "access"
act_text act.Indeterminate = codes "indeterminate"
act_text act.Pointer = codes "pointer"
act_text act.NoValue = codes "no-value"

abbrev pub trap_text : Trap → List ℕ
trap_text trap.Fetch = codes "fetch"
trap_text trap.Illegal = codes "illegal"
trap_text trap.Load = codes "load"
trap_text trap.Store = codes "store"
trap_text trap.LoadAlign = codes "load-align"
trap_text trap.StoreAlign = codes "store-align"
trap_text trap.JumpAlign = codes "jump-align"
trap_text trap.Break = codes "break"
trap_text trap.Call = codes "call"

-- what the text of a status has behind its name
abbrev pub detail : Status → List ℕ
detail (Done exit) = codes " " ++ signed_decimal exit
detail (Rejected refused) = codes " " ++ rejection refused
detail (Trapped trap pc) = codes " " ++ (trap_text trap ++ (codes " " ++ decimal pc))
detail (Undefined act at) = codes " " ++ placed (act_text act) at
detail _ = []

-- the text of a status (no command ends with ReportFault, so its text is never reported)
abbrev pub text_of : Status → List ℕ
text_of status = (row_of status).name ++ detail status

-- the line that reports it
abbrev pub line : Status → List ℕ
line status = codes "status " ++ text_of status ++ codes "\n"

-- a line that reports a number, where it is told
abbrev pub number_line : List ℕ → Option ℕ → List ℕ
number_line name None = []
number_line name (Some count) = name ++ (codes " " ++ decimal count ++ codes "\n")

-- the whole report
abbrev pub report_of : Status → Figures → List ℕ
report_of status told =
    line status ++ (number_line (codes "steps") told.steps ++ number_line (codes "bytes") told.bytes)

-- how a call ends where its command has ended so and the report has failed
abbrev pub unreported : Status → Status
unreported inner = if (row_of inner).answer then ReportFault else inner

-- the whole report was appended
pub record HasReported (inner final : Status) (told : Figures) (old new : Option (List ℕ))
    (before now : ℕ) : Type 0 where
  pub same : final ≡ inner
  pub whole : Appends old new (report_of inner told)
  pub stands : now ≡ before

-- it failed at some front
pub record HasFailed (inner final : Status) (told : Figures) (old new : Option (List ℕ))
    (before now : ℕ) : Type 0 where
  pub same : final ≡ unreported inner
  pub front : AppendsPrefix old new (report_of inner told)
  pub rose : Rose before now

-- the end of a call whose command has ended with this status, by what the report held and counted
abbrev pub Reported : Status → Status → Figures → Option (List ℕ) → Option (List ℕ) → ℕ → ℕ
    → Type 0
Reported inner final told old new before now =
    HasReported inner final told old new before now ⊎ HasFailed inner final told old new before
    now
