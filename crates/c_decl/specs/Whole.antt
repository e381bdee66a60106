-- What a parser of whole lists answers for a rule of the grammar.
use Rattle.std.specs.Prelude.{List, [], Result, Ok, Err}
use Rattle.c_tree.specs.declared.tree.Tree.{Tree}
use Rattle.c_tree.specs.View.{items_of}
use Rattle.c_token.specs.declared.token.Token.{Token}
use Rattle.c_expr.specs.declared.fault.ParseFault.{ParseFault}
use Rattle.c_expr.specs.declared.fault.ParseFault.TheVariants.{Unexpected, TooDeep, OutOfMemory}
use Rattle.c_expr.specs.Leveled.{Leveled}
use Rattle.c_expr.specs.Parsing.{IsRead, IsOutOfPlace, IsTooDeep}
use Rattle.c_decl.specs.Units.{IsUnit}

-- The whole list spells the tree; or the fault is that of the first token that is out of place or too deep, and out of place if it is both.
-- Want of memory may come at any time.
abbrev pub ParsedWhole : {X : Type 0} → (List Leveled → X → Type 0) → List Token
    → Result X ParseFault → Type 0
ParsedWhole P ts (Ok tree) = IsRead P ts tree []
ParsedWhole P ts (Err (Unexpected place)) = IsOutOfPlace P ts place
ParsedWhole P ts (Err (TooDeep place)) = IsTooDeep P ts place
ParsedWhole P ts (Err OutOfMemory) = Unit {0}

-- The same of a text (C11 6.9).
abbrev pub ParsedText : List Token → Result Tree ParseFault → Type 0
ParsedText ts (Ok tree) = ParsedWhole IsUnit ts (Ok (items_of tree))
ParsedText ts (Err e) = ParsedWhole IsUnit ts (Err e)
