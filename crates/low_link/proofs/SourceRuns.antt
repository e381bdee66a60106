-- The program of a text that the compiler takes does what is meant.
use Rattle.std.proofs.Common.{◌<◌, ◌^◌, ℕ, List, All, sym, subst}
use Rattle.c_tree.specs.Item.{Item}
use Rattle.c_tree.specs.Erase.{erased_text}
use Rattle.c_semantics.specs.Meaning.{meant}
use Rattle.c_semantics.proofs.ErasedMeaning.{same_meaning}
use Rattle.low_labels.specs.Closed.{place_in, words_of}
use Rattle.low_stmt.specs.TextCode.{emitted}
use Rattle.low_stmt.specs.TextProgram.{program_of}
use Rattle.low_stmt.specs.TextSimulation.{DoesAs}
use Rattle.low_stmt.proofs.Booting.{meant_done}
use Rattle.low_stmt.proofs.ClosedCode.{closed_text, short_text}
use Rattle.low_stmt.proofs.DefinedOnceLemmas.{accepted_once}
use Rattle.low_link.specs.Front.{IsSource}
use Rattle.low_link.specs.SourceSimulation.{IsSimulated}
use Rattle.low_link.proofs.Determined.{sound, complete}
use Rattle.low_link.proofs.SpelledTexts.{fitting_ready}

-- it comes to each end that is meant
does : (text : List ℕ) (ps : List Item) → IsSource text ps → (input : List ℕ)
    → All (λ b. b < 2 ^ 8) input → (n : ℕ)
    → DoesAs (program_of ps) input n (meant (erased_text ps) input n)
does text ps source input small n =
    let ready = fitting_ready text ps source.accepted source.fits in
    let e = emitted ps in
    subst (DoesAs (program_of ps) input n) (sym (same_meaning ps input n))
    (meant_done ps ready (words_of e) input (place_in e.places) (short_text ps ready source.few)
    small (closed_text ps ready (accepted_once ps source.accepted.faultless) source.few) n)

pub simulated : (text : List ℕ) (ps : List Item) → IsSource text ps → (input : List ℕ)
    → All (λ b. b < 2 ^ 8) input → (budget : ℕ) → IsSimulated ps input budget
simulated text ps source input small budget = record {
  sound = λ defined. sound (program_of ps) input budget _ (does text ps source input small budget) defined;
  complete = λ n few. complete (program_of ps) input budget n _ few (does text ps source input small n);
}
