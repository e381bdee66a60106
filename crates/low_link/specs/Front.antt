-- What a text is to the compiler: a tree that is accepted, with its layout and few parts, or the first
-- of five faults.
use Rattle.std.specs.Prelude.{◌≡◌, ℕ, ◌<◌, ◌≤◌, false, List, None, Result, Ok, Err}
use Rattle.c_tree.specs.declared.checked.Checked.{Checked}
use Rattle.c_tree.specs.Accepted.{text_fault}
use Rattle.c_tree.specs.Item.{Item}
use Rattle.c_tree.specs.View.{items_of}
use Rattle.c_token.specs.declared.fault.TokenFault.TheVariants as token
use Rattle.c_token.specs.declared.token.Token.{Token}
use Rattle.c_token.specs.Text.{AreTokensOf, IsFaultOf}
use Rattle.c_expr.specs.declared.fault.ParseFault.TheVariants as parse
use Rattle.c_decl.specs.Units.{IsUnit}
use Rattle.c_decl.specs.Whole.{ParsedWhole}
use Rattle.c_check.specs.declared.fault.CheckFault.TheVariants as check
use Rattle.c_check.specs.CheckFaults.{IsFault}
use Rattle.c_layout.specs.declared.fault.LayoutFault.TheVariants as layout
use Rattle.c_layout.specs.declared.layout.Layout.{Layout}
use Rattle.c_layout.specs.Frames.{frames}
use Rattle.c_layout.specs.Laid.{plan, is_data_too_large, first_too_large}
use Rattle.c_layout.specs.LayoutAnswers as laid
use Rattle.c_layout.specs.LayoutAnswers.{plan_of}
use Rattle.low_stmt.specs.declared.count.TheConstants.{MOST_PARTS}
use Rattle.low_stmt.specs.CodeBound.{count_text}
use Rattle.low_link.specs.declared.refused.Refused.{Refused}
use Rattle.low_link.specs.declared.refused.Refused.TheVariants.{Token as OfToken, Parse as OfParse, Check as OfCheck, Layout as OfLayout, CodeTooLong, OutOfMemory}

-- the text's tokens spell these items
pub record Spells (text : List ℕ) (ps : List Item) : Type 0 where
  pub tokens : List Token
  pub are : AreTokensOf text tokens
  pub read : ParsedWhole IsUnit tokens (Ok ps)

-- the text spells these items, and they break no rule
pub record IsAccepted (text : List ℕ) (ps : List Item) : Type 0 where
  pub spells : Spells text ps
  pub faultless : text_fault ps ≡ None

-- the items fit into the memory
pub record Fits (ps : List Item) : Type 0 where
  pub globals : is_data_too_large ps ≡ false
  pub stack : first_too_large (frames ps) ≡ None

-- a text that the compiler takes: it is accepted, fits, and has few parts
pub record IsSource (text : List ℕ) (ps : List Item) : Type 0 where
  pub accepted : IsAccepted text ps
  pub fits : Fits ps
  pub few : count_text ps ≤ MOST_PARTS

-- Why a text is refused: the first of the five that fails. Want of memory may come at any time.
abbrev pub Refuses : List ℕ → Refused → Type 0
Refuses text (OfToken token.OutOfMemory) = ⊥
Refuses text (OfToken fault) = IsFaultOf text fault
Refuses text (OfParse parse.OutOfMemory) = ⊥
Refuses text (OfParse fault) =
    (tokens : List Token) × AreTokensOf text tokens × ParsedWhole IsUnit tokens (Err fault)
Refuses text (OfCheck check.OutOfMemory) = ⊥
Refuses text (OfCheck fault) = (ps : List Item) × Spells text ps × IsFault fault (text_fault ps)
Refuses text (OfLayout layout.OutOfMemory) = ⊥
Refuses text (OfLayout fault) = (ps : List Item) × IsAccepted text ps × laid.IsFault ps fault
Refuses text CodeTooLong =
    (ps : List Item) × IsAccepted text ps × Fits ps × (MOST_PARTS < count_text ps)
Refuses text OutOfMemory = Unit {0}

-- a tree that the text spells, with its layout
pub record IsFront (text : List ℕ) (checked : Checked) (laid : Layout) : Type 0 where
  pub spells : Spells text (items_of checked.tree)
  pub fits : Fits (items_of checked.tree)
  pub planned : plan_of laid ≡ plan (items_of checked.tree)

-- the front doesn't count the parts of a text
abbrev pub RefusesUncounted : List ℕ → Refused → Type 0
RefusesUncounted text CodeTooLong = ⊥
RefusesUncounted text refused = Refuses text refused

abbrev pub Fronted : List ℕ → Result (Checked × Layout) Refused → Type 0
Fronted text (Ok x) = IsFront text x.0 x.1
Fronted text (Err refused) = RefusesUncounted text refused

-- the same of a text that the compiler takes
pub record IsFrontOfSource (text : List ℕ) (checked : Checked) (laid : Layout) : Type 0 where
  pub front : IsFront text checked laid
  pub few : count_text (items_of checked.tree) ≤ MOST_PARTS

abbrev pub Sourced : List ℕ → Result (Checked × Layout) Refused → Type 0
Sourced text (Ok x) = IsFrontOfSource text x.0 x.1
Sourced text (Err refused) = Refuses text refused
