-- What the tokens of a text spell is parsed; so an accepted text that fits is ready for its code.
use Rattle.std.proofs.Common.{ℕ, List, inl, inr, refl, subst, All, append-nil, ◌∙◌}
use Rattle.c_tree.specs.Ty.{Ty}
use Rattle.c_tree.specs.Item.{Item}
use Rattle.c_token.specs.Tokens.{IsProper}
use Rattle.c_token.proofs.TokenFacts.{tokens_proper}
use Rattle.c_expr.specs.Leveled.{Leveled, tokens_of}
use Rattle.c_decl.specs.Units as u
use Rattle.c_decl.specs.Units.{IsResult, IsItem, IsItems, IsUnit}
use Rattle.low_stmt.specs.ParsedTexts.{IsParsedResult, IsParsedItem, IsParsedText}
use Rattle.low_stmt.specs.TextReadiness.{IsReadyText}
use Rattle.low_stmt.proofs.AcceptedTexts.{accepted_ready}
use Rattle.low_link.specs.Front.{Spells, IsAccepted, Fits}
use Rattle.low_link.proofs.SpelledExpressions.{AreProper, all_proper, front, back, after}
use Rattle.low_link.proofs.SpelledStatements.{base_integer, vars_parsed, params_parsed, block_parsed}

result_parsed : {l n : ℕ} {a : List Leveled} {base : Ty} → IsResult l n a base
    → IsParsedResult base n
result_parsed (u.typed h i) = inl (base_integer h)
result_parsed (u.void p) = inr (refl, refl)

item_parsed : {l : ℕ} {a : List Leveled} {x : Item} → IsItem l a x → AreProper a → IsParsedItem x
item_parsed (u.vars {a = a} p h) w = vars_parsed h (front a _ w)
item_parsed (u.kept {a = a} p q e h) w = vars_parsed h (front a _ w.1)
item_parsed (u.declared p q r s h i) w = (result_parsed h, params_parsed i, tt)
item_parsed (u.defined {a = a} {b = b} {c = c} p q r h i j) w =
    (result_parsed h, params_parsed i, block_parsed j (after b _ c (after a _ _ w).1))

items_parsed : {l : ℕ} {a : List Leveled} {xs : List Item} → IsItems l a xs → AreProper a
    → IsParsedText xs
items_parsed u.none w = tt
items_parsed (u.more {a = a} {b = b} h i) w =
    (item_parsed h (front a b w), items_parsed i (back a b w))

unit_parsed : {a : List Leveled} {xs : List Item} → IsUnit a xs → AreProper a → IsParsedText xs
unit_parsed (u.unit {a = a} p h) w = items_parsed h (front a _ w)

spelled_parsed : (text : List ℕ) (ps : List Item) → Spells text ps → IsParsedText ps
spelled_parsed text ps h =
    let same = h.read.splits ∙ append-nil (tokens_of h.read.read) in
    let proper = subst (All IsProper) same (tokens_proper text h.tokens h.are) in
    unit_parsed h.read.spelled (all_proper h.read.read proper)

pub fitting_ready : (text : List ℕ) (ps : List Item) → IsAccepted text ps → Fits ps
    → IsReadyText ps
fitting_ready text ps accepted fits =
    accepted_ready ps (spelled_parsed text ps accepted.spells) accepted.faultless fits.globals
    fits.stack
