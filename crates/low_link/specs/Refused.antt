-- Why a text has no program, from why a stage has no answer. Want of memory is one.
use Rattle.c_check.specs.declared.fault.CheckFault.{CheckFault}
use Rattle.c_check.specs.declared.fault.CheckFault.TheVariants as check
use Rattle.c_expr.specs.declared.fault.ParseFault.{ParseFault}
use Rattle.c_expr.specs.declared.fault.ParseFault.TheVariants as parse
use Rattle.c_layout.specs.declared.fault.LayoutFault.{LayoutFault}
use Rattle.c_layout.specs.declared.fault.LayoutFault.TheVariants as layout
use Rattle.c_token.specs.declared.fault.TokenFault.{TokenFault}
use Rattle.c_token.specs.declared.fault.TokenFault.TheVariants as token
use Rattle.low_labels.specs.declared.fault.AsmFault.{AsmFault}
use Rattle.low_labels.specs.declared.fault.AsmFault.TheVariants as code
use Rattle.low_link.specs.declared.refused.Refused.{Refused}
use Rattle.low_link.specs.declared.refused.Refused.TheVariants.{Token, Parse, Check, Layout, CodeTooLong, OutOfMemory}

-- a text is at fault
abbrev pub IsRejection : Refused → Type 0
IsRejection OutOfMemory = ⊥
IsRejection _ = Unit {0}

abbrev pub of_token : TokenFault → Refused
of_token token.OutOfMemory = OutOfMemory
of_token fault = Token fault

abbrev pub of_parse : ParseFault → Refused
of_parse parse.OutOfMemory = OutOfMemory
of_parse fault = Parse fault

abbrev pub of_check : CheckFault → Refused
of_check check.OutOfMemory = OutOfMemory
of_check fault = Check fault

abbrev pub of_layout : LayoutFault → Refused
of_layout layout.OutOfMemory = OutOfMemory
of_layout fault = Layout fault

abbrev pub of_code : AsmFault → Refused
of_code code.CodeTooLong = CodeTooLong
of_code code.OutOfMemory = OutOfMemory
