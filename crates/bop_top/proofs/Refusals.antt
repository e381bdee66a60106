-- What is said of a text that was refused, or whose input was not read to its end.
use Rattle.std.proofs.Common.{◌≡◌, ◌<◌, ◌≤◌, ℕ, List, [], length, Option, Some, None, refl}
use Rattle.std.specs.Io.KnownBytes.{Consumes}
use Rattle.std.proofs.KnownBytes.{Appends-nil, Consumes-nil}
use Rattle.c_layout.specs.declared.layout.Layout.{Layout}
use Rattle.c_token.specs.declared.limits.TheConstants.{TEXT_BYTES}
use Rattle.c_tree.specs.declared.checked.Checked.{Checked}
use Rattle.c_tree.specs.View.{items_of}
use Rattle.c_tree.proofs.Acceptance.{faultless}
use Rattle.low_link.specs.declared.refused.Refused.{Refused}
use Rattle.low_link.specs.declared.refused.Refused.TheVariants as r
use Rattle.low_link.specs.Front.{IsFrontOfSource, IsSource, Refuses}
use Rattle.low_link.specs.Refused.{IsRejection}
use Rattle.rv_step.specs.declared.limits.TheConstants.{INPUT_BYTES}
use Rattle.bop_top.specs.declared.outcome.Outcome.{Outcome}
use Rattle.bop_top.specs.declared.outcome.Outcome.TheVariants as outcome
use Rattle.bop_words.specs.WordRequests.{Request, Seq, Check, Mean}
use Rattle.bop_top.specs.BuiltCommands.{ReadsInput}
use Rattle.bop_top.specs.CommandTransfers.{CanEnd, Moves, Tells, Transfers, no_figures}
use Rattle.bop_top.specs.Headline.{HasDone, Says}
use Rattle.bop_top.specs.TextSays.{FileSays, IsFine, IsUnread, IsUnready, refused_outcome}

-- the compiler takes the text
pub source_of : (text : List ℕ) (checked : Checked) (laid : Layout)
    → IsFrontOfSource text checked laid → IsSource text (items_of checked.tree)
source_of text checked laid h = record {
  accepted = record {
    spells = h.front.spells;
    faultless = faultless checked.tree checked.accepted;
  };
  fits = h.front.fits;
  few = h.few;
}

pub fine_of : (text : List ℕ) (checked : Checked) (laid : Layout)
    → IsFrontOfSource text checked laid → IsFine text
fine_of text checked laid h = (items_of checked.tree, source_of text checked laid h)

-- it doesn't
pub refused_unready : (text : List ℕ) (refused : Refused) → Refuses text refused
    → IsUnready (refused_outcome refused) text []
refused_unready text (r.Token fault) h = (h, tt, refl)
refused_unready text (r.Parse fault) h = (h, tt, refl)
refused_unready text (r.Check fault) h = (h, tt, refl)
refused_unready text (r.Layout fault) h = (h, tt, refl)
refused_unready text r.CodeTooLong h = (h, tt, refl)
refused_unready text r.OutOfMemory h = tt

-- it does, and then the input was not read to its end
pub unread_unready : (o : Outcome) (text taken : List ℕ) → IsFine text → IsUnread o taken
    → IsUnready o text taken
unread_unready outcome.ReadFault text taken fine h = fine
unread_unready outcome.OutOfMemory text taken fine h = tt
unread_unready outcome.InputTooLong text taken fine h = (fine, h)
unread_unready _ text taken fine h = absurd h

-- how a request ends whose text is neither run nor evaluated
data Unready (text taken : List ℕ) : Outcome → Type 0 where
  rejected : (refused : Refused) → Refuses text refused → IsRejection refused → taken ≡ []
      → Unready text taken (outcome.Rejected refused)
  too_long : IsFine text → INPUT_BYTES < length taken → Unready text taken outcome.InputTooLong
  unread : IsFine text → Unready text taken outcome.ReadFault
  no_memory : Unready text taken outcome.OutOfMemory

unready : (o : Outcome) (text taken : List ℕ) → IsUnready o text taken → Unready text taken o
unready (outcome.Rejected refused) text taken h = rejected refused h.0 h.1 h.2
unready outcome.InputTooLong text taken h = too_long h.0 h.1
unready outcome.ReadFault text taken h = unread h
unready outcome.OutOfMemory text taken h = no_memory
unready _ text taken h = absurd h

-- what it says of the file
says : (request : Request) (o : Outcome) (text taken : List ℕ) → length text ≤ TEXT_BYTES
    → Unready text taken o → Says request o no_figures (Some text) taken []
says (Seq name budget) o text taken fits (rejected refused h i e) = (text, refl, fits, h)
says (Seq name budget) o text taken fits (too_long fine long) = (text, refl, fits, fine)
says (Seq name budget) o text taken fits (unread fine) = (text, refl, fits, fine)
says (Seq name budget) o text taken fits no_memory = tt
says (Mean name steps) o text taken fits (rejected refused h i e) = (text, refl, fits, h)
says (Mean name steps) o text taken fits (too_long fine long) = (text, refl, fits, fine)
says (Mean name steps) o text taken fits (unread fine) = (text, refl, fits, fine)
says (Mean name steps) o text taken fits no_memory = tt
says request o text taken fits (rejected refused h i e) = (text, refl, fits, h)
says request o text taken fits (too_long fine long) = (text, refl, fits, fine)
says request o text taken fits (unread fine) = (text, refl, fits, fine)
says request o text taken fits no_memory = tt

-- nothing is written, nor told
tells : (request : Request) (o : Outcome) (text taken : List ℕ) → Unready text taken o
    → Tells request o 0 no_figures
tells (Seq name budget) o text taken (rejected refused h i e) = refl
tells (Seq name budget) o text taken (too_long fine long) = refl
tells (Seq name budget) o text taken (unread fine) = refl
tells (Seq name budget) o text taken no_memory = refl
tells (Mean name steps) o text taken (rejected refused h i e) = refl
tells (Mean name steps) o text taken (too_long fine long) = refl
tells (Mean name steps) o text taken (unread fine) = refl
tells (Mean name steps) o text taken no_memory = refl
tells request o text taken h = refl

moves : (o : Outcome) (text taken : List ℕ) (left : Option (List ℕ)) → Unready text taken o
    → Moves o taken left []
moves o text taken left (rejected refused h i e) = (e, refl)
moves o text taken left (too_long fine long) = (long, refl)
moves o text taken left (unread fine) = refl
moves o text taken left no_memory = refl

-- a command that reads the input can end so
can_end : (request : Request) (o : Outcome) (text taken : List ℕ) → ReadsInput request
    → Unready text taken o → CanEnd request o
can_end (Seq name budget) o text taken reads (rejected refused h i e) = (tt, i)
can_end (Seq name budget) o text taken reads (too_long fine long) = tt
can_end (Seq name budget) o text taken reads (unread fine) = tt
can_end (Seq name budget) o text taken reads no_memory = tt
can_end (Mean name steps) o text taken reads (rejected refused h i e) = (tt, i)
can_end (Mean name steps) o text taken reads (too_long fine long) = tt
can_end (Mean name steps) o text taken reads (unread fine) = tt
can_end (Mean name steps) o text taken reads no_memory = tt
can_end _ o text taken reads h = absurd reads

ended : (request : Request) (told : Type 0) (o : Outcome) (text taken : List ℕ)
    (input left content : Option (List ℕ)) → length text ≤ TEXT_BYTES → CanEnd request o
    → Unready text taken o → Consumes input left taken
    → HasDone request told (Some text) o no_figures input left content content
ended request told o text taken input left content fits can h takes = record {
  taken = taken;
  written = [];
  takes = takes;
  writes = Appends-nil content;
  transfers = record { can = can; moves = moves o text taken left h; tells = tells request o text taken h };
  says = λ here. says request o text taken fits h;
}

pub unready_done : (request : Request) (told : Type 0) (o : Outcome) (text taken : List ℕ)
    (input left content : Option (List ℕ)) → length text ≤ TEXT_BYTES → ReadsInput request
    → IsUnready o text taken → Consumes input left taken
    → HasDone request told (Some text) o no_figures input left content content
unready_done request told o text taken input left content fits reads h takes =
    let how = unready o text taken h in
    ended request told o text taken input left content fits (can_end request o text taken reads how) how takes

refused_can : (name text : List ℕ) (refused : Refused) → Refuses text refused
    → CanEnd (Check name) (refused_outcome refused)
refused_can name text (r.Token fault) h = (tt, tt)
refused_can name text (r.Parse fault) h = (tt, tt)
refused_can name text (r.Check fault) h = (tt, tt)
refused_can name text (r.Layout fault) h = (tt, tt)
refused_can name text r.CodeTooLong h = (tt, tt)
refused_can name text r.OutOfMemory h = tt

-- a check of a text that is refused
pub refused_done : (name : List ℕ) (told : Type 0) (text : List ℕ) (refused : Refused)
    (left content : Option (List ℕ)) → length text ≤ TEXT_BYTES → Refuses text refused
    → HasDone (Check name) told (Some text) (refused_outcome refused) no_figures left left content
    content
refused_done name told text refused left content fits h =
    let o = refused_outcome refused in
    ended (Check name) told o text [] left left content fits (refused_can name text refused h) (unready o text [] (refused_unready text refused h)) (Consumes-nil left)

-- and of one that isn't
pub fine_done : (name : List ℕ) (told : Type 0) (text : List ℕ) (checked : Checked) (laid : Layout)
    (left content : Option (List ℕ)) → length text ≤ TEXT_BYTES
    → IsFrontOfSource text checked laid
    → HasDone (Check name) told (Some text) outcome.Fine no_figures left left content content
fine_done name told text checked laid left content fits h = record {
  taken = [];
  written = [];
  takes = Consumes-nil left;
  writes = Appends-nil content;
  transfers = record { can = tt; moves = (refl, refl); tells = refl };
  says = λ here. (text, refl, fits, fine_of text checked laid h);
}
