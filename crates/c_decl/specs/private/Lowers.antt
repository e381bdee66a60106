-- What a function of the parser that adds levels for what follows does to its cursor.
use Rattle.std.specs.Prelude.{◌≡◌, ℕ, List, Result, Ok, Err}
use Rattle.c_token.specs.declared.token.Token.{Token}
use Rattle.c_expr.specs.declared.cursor.Cursor.{Cursor}
use Rattle.c_expr.specs.declared.fault.ParseFault.{ParseFault}
use Rattle.c_expr.specs.Next.{Outcome}
use Rattle.c_expr.specs.Reads.{Fails}

-- What the function returned, seen by view, and the room and the tokens that it left are what the reading gives.
abbrev pub Lowers : {X Y : Type 0} → (X → Y) → Result X ParseFault → Cursor → Cursor
    → (ℕ → List Token → Outcome (Y × ℕ)) → Type 0
Lowers view (Ok x) old new reading =
    reading old.room old.tokens.now ≡ Ok ((view x, new.room), new.tokens.now)
Lowers view (Err e) old new reading = Fails e (reading old.room old.tokens.now)
