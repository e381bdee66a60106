-- How a call ends whose words are turned away, and one whose request is served.
use Rattle.std.proofs.Common.{◌≡◌, ℕ, List, [], Option, refl}
use mathlib.Core.Logic.{⊎_elim}
use Rattle.std.proofs.KnownBytes.{Appends-nil, Consumes-nil}
use Rattle.bop_words.specs.WordRequests.{Request, Race, Seq, Mean, Check, Replay, Text}
use Rattle.bop_top.specs.declared.ending.Figures.{Figures}
use Rattle.bop_top.specs.declared.outcome.Outcome.{Outcome}
use Rattle.bop_top.specs.declared.outcome.Outcome.TheVariants as outcome
use Rattle.bop_top.specs.declared.status.Status.{Status}
use Rattle.bop_top.specs.declared.status.Status.TheVariants.{BadWords}
use Rattle.bop_top.specs.BuiltCommands.{IsBuilt}
use Rattle.bop_top.specs.CommandTransfers.{Tells, no_figures}
use Rattle.bop_top.specs.Headline.{HasDone, Says}
use Rattle.bop_top.specs.Report.{Reported}

-- a call whose words are faulty ends so
pub still_bad : (final : Status) (told : Figures) (old new : Option (List ℕ)) (before now : ℕ)
    → Reported BadWords final told old new before now → final ≡ BadWords
still_bad final told old new before now reported = ⊎_elim (λ y. y.same) (λ n. n.same) reported

unbuilt_tells : (request : Request) → Tells request outcome.NotYetBuilt 0 no_figures
unbuilt_tells (Race program workers group budget journal confirm) = refl
unbuilt_tells (Seq program budget) = refl
unbuilt_tells (Mean program budget) = refl
unbuilt_tells (Check program) = refl
unbuilt_tells (Replay program schedule group budget) = refl
unbuilt_tells (Text seed regions) = refl

unbuilt_says : (request : Request) (file : Option (List ℕ))
    → Says request outcome.NotYetBuilt no_figures file [] []
unbuilt_says (Race program workers group budget journal confirm) file = tt
unbuilt_says (Seq program budget) file = tt
unbuilt_says (Mean program budget) file = tt
unbuilt_says (Check program) file = tt
unbuilt_says (Replay program schedule group budget) file = tt
unbuilt_says (Text seed regions) file = tt

-- a command that isn't built does nothing
pub unbuilt_done : (request : Request) (known : Type 0) (file left content : Option (List ℕ))
    → (IsBuilt request → ⊥)
    → HasDone request known file outcome.NotYetBuilt no_figures left left content content
unbuilt_done request known file left content unbuilt = record {
  taken = [];
  written = [];
  takes = Consumes-nil left;
  writes = Appends-nil content;
  transfers = record { can = unbuilt; moves = (refl, refl); tells = unbuilt_tells request };
  says = λ here. unbuilt_says request file;
}
