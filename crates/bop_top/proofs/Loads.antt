-- What is said of a text that was not loaded.
use Rattle.std.proofs.Common.{◌≡◌, ◌<◌, ◌≤◌, ℕ, List, [], length, Option, Some, None, refl, sym, ap, subst, ◌∙◌, arith}
use Rattle.std.proofs.KnownBytes.{Appends-nil, Consumes-nil}
use Rattle.std.proofs.lemmas.List.{length-take, take_all}
use Rattle.bop_ends.specs.Ends.{IsFront}
use Rattle.bop_top.specs.declared.ending.Figures.{Figures}
use Rattle.bop_top.specs.declared.outcome.Outcome.{Outcome}
use Rattle.bop_top.specs.declared.outcome.Outcome.TheVariants as outcome
use Rattle.c_token.specs.declared.limits.TheConstants.{TEXT_BYTES}
use Rattle.bop_words.specs.WordRequests.{Request, Seq, Check, Mean}
use Rattle.bop_top.specs.BuiltCommands.{IsBuilt}
use Rattle.bop_top.specs.CommandTransfers.{CanEnd, Moves, Tells, no_figures}
use Rattle.bop_top.specs.Headline.{HasDone, Says}
use Rattle.bop_top.specs.TextSays.{IsTooLong, IsUnloaded}

-- fewer bytes than were asked for are the whole file
pub whole_file : (file : Option (List ℕ)) (most : ℕ) (text : List ℕ) → IsFront file most text
    → length text < most → file ≡ Some text
whole_file None most text front few = absurd front
whole_file (Some bytes) most text front few =
    let short : length bytes ≤ most = omega (arith, length-take most bytes, ap length front) in
    ap Some (sym (front ∙ take_all most bytes short))

-- a file whose first bytes are more than a text may have is too long
pub longer_file : (file : Option (List ℕ)) (most : ℕ) (text : List ℕ) → IsFront file most text
    → TEXT_BYTES < length text → IsTooLong file
longer_file None most text front long = absurd front
longer_file (Some bytes) most text front long =
    (bytes, refl, omega (arith, length-take most bytes, ap length front))

module _ (told : Type 0) (file : Option (List ℕ)) where
  unloaded_says : (request : Request) (o : Outcome) → IsBuilt request → IsUnloaded o told file
      → told → Says request o no_figures file [] []
  unloaded_says (Seq name budget) outcome.LoadFault built h here = tt
  unloaded_says (Seq name budget) outcome.OutOfMemory built h here = tt
  unloaded_says (Seq name budget) outcome.ProgramTooLong built h here = h here
  unloaded_says (Seq name budget) _ built h here = absurd h
  unloaded_says (Check name) outcome.LoadFault built h here = tt
  unloaded_says (Check name) outcome.OutOfMemory built h here = tt
  unloaded_says (Check name) outcome.ProgramTooLong built h here = h here
  unloaded_says (Check name) _ built h here = absurd h
  unloaded_says (Mean name steps) outcome.LoadFault built h here = tt
  unloaded_says (Mean name steps) outcome.OutOfMemory built h here = tt
  unloaded_says (Mean name steps) outcome.ProgramTooLong built h here = h here
  unloaded_says (Mean name steps) _ built h here = absurd h
  unloaded_says _ o built h here = absurd built

  unloaded_tells : (request : Request) (o : Outcome) → IsBuilt request → IsUnloaded o told file
      → Tells request o 0 no_figures
  unloaded_tells (Seq name budget) outcome.LoadFault built h = refl
  unloaded_tells (Seq name budget) outcome.OutOfMemory built h = refl
  unloaded_tells (Seq name budget) outcome.ProgramTooLong built h = refl
  unloaded_tells (Seq name budget) _ built h = absurd h
  unloaded_tells (Check name) o built h = refl
  unloaded_tells (Mean name steps) outcome.LoadFault built h = refl
  unloaded_tells (Mean name steps) outcome.OutOfMemory built h = refl
  unloaded_tells (Mean name steps) outcome.ProgramTooLong built h = refl
  unloaded_tells (Mean name steps) _ built h = absurd h
  unloaded_tells _ o built h = absurd built

  unloaded_ends : (request : Request) (o : Outcome) → IsBuilt request → IsUnloaded o told file
      → CanEnd request o
  unloaded_ends request outcome.LoadFault built h = built
  unloaded_ends request outcome.OutOfMemory built h = built
  unloaded_ends request outcome.ProgramTooLong built h = built
  unloaded_ends request _ built h = absurd h

  unloaded_moves : (o : Outcome) (left : Option (List ℕ)) → IsUnloaded o told file
      → Moves o [] left []
  unloaded_moves outcome.LoadFault left h = (refl, refl)
  unloaded_moves outcome.OutOfMemory left h = refl
  unloaded_moves outcome.ProgramTooLong left h = (refl, refl)
  unloaded_moves _ left h = absurd h

  -- nothing is taken then, nor written, nor told
  pub unloaded : (request : Request) (o : Outcome) (left content : Option (List ℕ))
      → IsBuilt request → IsUnloaded o told file
      → HasDone request told file o no_figures left left content content
  unloaded request o left content built h = record {
    taken = [];
    written = [];
    takes = Consumes-nil left;
    writes = Appends-nil content;
    transfers = record {
      can = unloaded_ends request o built h;
      moves = unloaded_moves o left h;
      tells = unloaded_tells request o built h;
    };
    says = unloaded_says request o built h;
  }

-- where the shelf tells the file, it is the text
pub known_file : (request : Request) (told : Type 0) (file : Option (List ℕ)) (text : List ℕ)
    (o : Outcome) (figures : Figures) (input left old new : Option (List ℕ))
    → (told → file ≡ Some text) → HasDone request (Unit {0}) (Some text) o figures input left old new
    → HasDone request told file o figures input left old new
known_file request told file text o figures input left old new is done = record {
  taken = done.taken;
  written = done.written;
  takes = done.takes;
  writes = done.writes;
  transfers = done.transfers;
  says = λ here. subst (λ f. Says request o figures f done.taken done.written) (sym (is here)) (done.says tt);
}
