-- The numbers of a request are in the ranges of their options.
use Rattle.std.proofs.Common.{◌≡◌, ◌≤◌, ℕ, Bool, true, false, List, [], ◌∷◌, arith, sym, subst}
use mathlib.Core.Logic.{⊎_elim}
use Rattle.std.specs.List.{All}
use Rattle.std.proofs.lemmas.Bool.{cases_Bool}
use Rattle.std.proofs.lemmas.List.Elements.{All-head, All-tail}
use Rattle.bop_words.proofs.OptionTableLemmas.{found_first, found_other, same, same_is}
use Rattle.bop_words.specs.CommandTable.{Need, Refused, Required, Optional, Usually, StandsFor, need}
use Rattle.bop_words.specs.OptionTable.{Alone, AnyName, Within, Kind, Absent, Named, Number, Present, Value, Given, IsWritten, found, row_of}
use Rattle.bop_words.specs.RequestBounds.{HasBounds, IsBetween}
use Rattle.bop_words.specs.WordRequests.{File, Made, Race, Seq, Mean, Check, Replay, Text, Request, IsRequest, IsRight, command_for, value_of}
use Rattle.bop_words.specs.declared.option_name.OptionName.{OptionName}
use Rattle.bop_words.specs.declared.option_name.OptionName.TheVariants.{Workers, Group, Budget, Regions}

-- a number is in the range of its kind
abbrev IsInRange : Value → Kind → Type 0
IsInRange (Number number) (Within least most) = IsBetween least most number
IsInRange _ _ = Unit {0}

written_in_range : (kind : Kind) (behind : List (List ℕ)) (value : Value) → IsWritten kind behind value → IsInRange value kind
written_in_range (Within least most) (word ∷ []) (Number number) h = record { above = h.above; below = h.below }
written_in_range AnyName (word ∷ []) (Named name) h = tt
written_in_range Alone [] Present h = tt
written_in_range _ _ _ h = absurd h

found_in_range : (given : List Given) (option : OptionName) → All IsRight given → IsInRange (found given option) (row_of option).kind
found_in_range [] option right = tt
found_in_range (first ∷ others) option right =
    ⊎_elim
    (λ y.
    let is : first.option ≡ option = same_is first.option option y in
    let here : IsInRange first.value (row_of first.option).kind =
    written_in_range (row_of first.option).kind first.behind first.value (All-head IsRight first others right) in
    subst (λ v. IsInRange v (row_of option).kind) (sym (found_first first others option is))
    (subst (λ o. IsInRange first.value (row_of o).kind) is here))
    (λ n.
    subst (λ v. IsInRange v (row_of option).kind) (sym (found_other first others option n))
    (found_in_range others option (All-tail IsRight first others right)))
    (cases_Bool (same first.option option))

-- the usual number of an option is in its range
abbrev IsUsual : Need → Kind → Type 0
IsUsual (Usually usual) kind = IsInRange (Number usual) kind
IsUsual _ kind = Unit {0}

stands_in_range : (n : Need) (kind : Kind) (f value : Value) → IsUsual n kind → IsInRange f kind → StandsFor n f value → IsInRange value kind
stands_in_range Refused kind f value usual h stands = subst (λ v. IsInRange v kind) (sym stands.1) tt
stands_in_range Required kind f value usual h stands = subst (λ v. IsInRange v kind) (sym stands.1) h
stands_in_range Optional kind f value usual h stands = subst (λ v. IsInRange v kind) (sym stands) h
stands_in_range (Usually n) kind Absent value usual h stands = subst (λ v. IsInRange v kind) (sym stands) usual
stands_in_range (Usually n) kind (Number f) value usual h stands = subst (λ v. IsInRange v kind) (sym stands) h
stands_in_range (Usually n) kind (Named f) value usual h stands = subst (λ v. IsInRange v kind) (sym stands) h
stands_in_range (Usually n) kind Present value usual h stands = subst (λ v. IsInRange v kind) (sym stands) h

module _ (words : List (List ℕ)) (request : Request) (h : IsRequest words request) where
  in_range : (option : OptionName) → IsUsual (need (command_for request) option) (row_of option).kind
      → IsInRange (value_of request option) (row_of option).kind
  in_range option usual =
      stands_in_range (need (command_for request) option) (row_of option).kind (found h.given option)
      (value_of request option) usual (found_in_range h.given option h.right) (h.options option)

usual_number : (least most number : ℕ) → least ≤ number → number ≤ most → IsBetween least most number
usual_number least most number above below = record { above = above; below = below }

usual_four : IsBetween 1 16 4
usual_four = usual_number 1 16 4 (omega arith) (omega arith)

usual_budget : IsBetween 1 1000000000000 1000000000
usual_budget = usual_number 1 1000000000000 1000000000 (omega arith) (omega arith)

pub bounds : (words : List (List ℕ)) (request : Request) → IsRequest words request → HasBounds request
bounds words (Race (File name) workers group budget journal confirm) h = (
  tt,
  in_range words (Race (File name) workers group budget journal confirm) h Workers usual_four,
  in_range words (Race (File name) workers group budget journal confirm) h Group usual_four,
  in_range words (Race (File name) workers group budget journal confirm) h Budget usual_budget,
)
bounds words (Race (Made seed regions) workers group budget journal confirm) h = (
  in_range words (Race (Made seed regions) workers group budget journal confirm) h Regions tt,
  in_range words (Race (Made seed regions) workers group budget journal confirm) h Workers usual_four,
  in_range words (Race (Made seed regions) workers group budget journal confirm) h Group usual_four,
  in_range words (Race (Made seed regions) workers group budget journal confirm) h Budget usual_budget,
)
bounds words (Seq program budget) h = in_range words (Seq program budget) h Budget usual_budget
bounds words (Mean program budget) h = in_range words (Mean program budget) h Budget usual_budget
bounds words (Check program) h = tt
bounds words (Replay program schedule group budget) h = (
  in_range words (Replay program schedule group budget) h Group usual_four,
  in_range words (Replay program schedule group budget) h Budget usual_budget,
)
bounds words (Text seed regions) h = in_range words (Text seed regions) h Regions tt
