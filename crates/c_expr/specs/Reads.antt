-- What a function of the parser does to its cursor.
use Rattle.std.specs.Prelude.{◌≡◌, ℕ, List, Result, Ok, Err}
use Rattle.c_token.specs.declared.token.Token.{Token}
use Rattle.c_expr.specs.declared.cursor.Cursor.{Cursor}
use Rattle.c_expr.specs.declared.fault.ParseFault.{ParseFault}
use Rattle.c_expr.specs.declared.fault.ParseFault.TheVariants.{Unexpected, TooDeep, OutOfMemory}
use Rattle.c_expr.specs.Next.{Outcome}

-- The function read nothing, since the reading has this fault, or since memory ran out.
abbrev pub Fails : {Y : Type 0} → ParseFault → Outcome Y → Type 0
Fails OutOfMemory read = Unit {0}
Fails (Unexpected p) read = read ≡ Err (Unexpected p)
Fails (TooDeep p) read = read ≡ Err (TooDeep p)

-- What the function returned, seen by view, and the tokens that it left are what the reading gives, and the room is what it was.
abbrev pub Reads : {X Y : Type 0} → (X → Y) → Result X ParseFault → Cursor → Cursor
    → (ℕ → List Token → Outcome Y) → Type 0
Reads view (Ok x) old new reading =
    (reading old.room old.tokens.now ≡ Ok (view x, new.tokens.now)) × (new.room ≡ old.room)
Reads view (Err e) old new reading = Fails e (reading old.room old.tokens.now)

-- The same of a function that takes no memory.
abbrev pub ReadsInPlace : {X Y : Type 0} → (X → Y) → Result X ParseFault → Cursor → Cursor
    → (ℕ → List Token → Outcome Y) → Type 0
ReadsInPlace view (Ok x) old new reading = Reads view (Ok x) old new reading
ReadsInPlace view (Err e) old new reading = reading old.room old.tokens.now ≡ Err e
