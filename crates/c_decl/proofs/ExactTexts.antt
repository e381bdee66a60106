-- What is read of a whole text is what the grammar has.
use Rattle.std.proofs.Common.{◌≡◌, ◌≤◌, ◌<◌, ◌+◌, sym, get_or, length, zero, List, [], ◌∷◌, ◌++◌, Ok, Err, subst, arith}
use Rattle.c_tree.specs.Item.{Item}
use Rattle.c_token.specs.declared.token.Token.{Token}
use Rattle.c_expr.specs.declared.fault.ParseFault.{ParseFault}
use Rattle.c_expr.specs.declared.fault.ParseFault.TheVariants.{Unexpected, TooDeep, OutOfMemory}
use Rattle.c_expr.specs.Leveled.{Leveled, tokens_of}
use Rattle.c_expr.specs.Next.{Outcome}
use Rattle.c_expr.specs.Reads.{Fails}
use Rattle.c_expr.specs.Parsing.{IsEnded, IsOutOfPlace, IsRead}
use Rattle.c_expr.proofs.ExactExpressions.{limit_of, wide}
use Rattle.c_decl.specs.Units.{IsUnit}
use Rattle.c_decl.specs.private.UnitReading.{unit}
use Rattle.c_decl.specs.Whole.{ParsedWhole}
use Rattle.c_decl.proofs.OneTextTree.{read_whole}
use Rattle.c_decl.proofs.SoundWhole.{whole_of, unit_by}

room : (c : List Leveled) → limit_of c + 201 ≡ wide zero c
room c = omega arith

complete : (c : List Leveled) (xs : List Item) → IsUnit c xs
    → unit (wide zero c) (tokens_of c ++ []) ≡ Ok (xs, [])
complete c xs h = subst (λ r. unit r (tokens_of c ++ []) ≡ Ok (xs, [])) (room c) (read_whole c xs h)

answers : (ts : List Token) (o : Outcome (List Item)) → IsEnded ts → unit 201 ts ≡ o
    → ParsedWhole IsUnit ts (whole_of o)
answers ts o ended e = subst (λ o. ParsedWhole IsUnit ts (whole_of o)) e (unit_by complete ts ended)

pub text_refused : (ts : List Token) (e : ParseFault) → IsEnded ts → Fails e (unit 201 ts)
    → ParsedWhole IsUnit ts (Err e)
text_refused ts (Unexpected p) ended h = answers ts (Err (Unexpected p)) ended h
text_refused ts (TooDeep p) ended h = answers ts (Err (TooDeep p)) ended h
text_refused ts OutOfMemory ended h = tt

pub text_whole : (ts rest : List Token) (xs : List Item) → IsEnded ts → unit 201 ts ≡ Ok (xs, rest)
    → length rest < 1 → IsRead IsUnit ts xs []
text_whole ts [] xs ended e h = answers ts (Ok (xs, [])) ended e
text_whole ts (t ∷ rest) xs ended e h = absurd (omega arith)

pub text_left : (ts rest : List Token) (xs : List Item) (next : Token) → IsEnded ts
    → unit 201 ts ≡ Ok (xs, rest) → 1 ≤ length rest → next ≡ get_or rest 0 next
    → IsOutOfPlace IsUnit ts next.place
text_left ts [] xs next ended e h is = absurd (omega arith)
text_left ts (t ∷ rest) xs next ended e h is = subst (λ (u : Token). IsOutOfPlace IsUnit ts u.place) (sym is) (answers ts (Ok (xs, t ∷ rest)) ended e)
