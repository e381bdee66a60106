use Rattle.std.proofs.Common.{Err, ap, inl, inr, map, refl}
use Rattle.std.proofs.KnownBytes.{Appends-nil, Consumes-nil}
use Rattle.std.specs.Prelude.{string_bytes}
use Rattle.bop_words.proofs.RequestBoundsLemmas.{bounds}
use Rattle.bop_words.specs.WordRequests.{request_of}
use Rattle.bop_words.specs.declared.request.Request.TheVariants as code
use Rattle.bop_top.proofs.Services.{still_bad, unbuilt_done}
use Rattle.bop_top.specs.CommandTransfers.{no_figures}
use Rattle.bop_top.specs.declared.outcome.Outcome.TheVariants.{NotYetBuilt}
use Rattle.bop_top.specs.declared.status.Status.TheVariants.{BadWords}
use Rattle.bop_top.proofs.top.bop_main.Goals as goal

pub bop_plain-requires : goal.bop_plain-requires
bop_plain-requires g c =
    rw c.in-Ok-Plain.field-0-is at (bounds (map string_bytes c.args.words.now) (request_of c.in-Ok-Plain.field-0) c.in-Ok-Plain.ensures.request)

pub returns-in-Ok-Race-clause-course : goal.returns-in-Ok-Race-clause-course
returns-in-Ok-Race-clause-course g c =
    let request = request_of (code.Race c.in-Ok-Race.field-0-0) in
    rw c.told.ensures.output (inr (record {
      request = request;
      asked = rw c.in-Ok-Race.field-0-is at c.in-Ok-Race.ensures.request;
      serves = record {
        outcome = NotYetBuilt;
        told = no_figures;
        ended = record { done = unbuilt_done request _ _ _ _ (λ built. built); counts = refl };
        reported = c.told.ensures.reported;
      };
    }))

pub returns-in-Err-BadWords-clause-course : goal.returns-in-Err-BadWords-clause-course
returns-in-Err-BadWords-clause-course g c =
    rw c.told-in-Err-BadWords.ensures.output (inl (record {
      inner = BadWords;
      cause = c.in-Err-BadWords.ensures.bad_words.0 (ap Err c.in-Err-BadWords.field-0-is);
      takes = Consumes-nil _;
      writes = Appends-nil _;
      counts = refl;
      reported = c.told-in-Err-BadWords.ensures.reported;
    }))

pub returns-in-Err-BadWords-clause-bad_words : goal.returns-in-Err-BadWords-clause-bad_words
returns-in-Err-BadWords-clause-bad_words g c = (
  λ bad. c.in-Err-BadWords.ensures.bad_words.0 (ap Err c.in-Err-BadWords.field-0-is),
  λ asks. still_bad _ no_figures _ _ _ _ c.told-in-Err-BadWords.ensures.reported,
)
