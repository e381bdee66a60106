use Rattle.std.proofs.Common.{List, map, ap, nat_lt}
use Rattle.c_layout.specs.Globals.{Global, addresses, classes_of, private_to}
use Rattle.c_layout.specs.Laid.{planned, first_too_large}
use Rattle.bop_bits.specs.declared.map.TheConstants.{STACK_FROM}
use Rattle.c_layout.proofs.ErasedLayout.{same_frames, same_globals}
use Rattle.c_layout.proofs.laws.erased_text_has_the_same_layout.Goals as goal

pub returns-clause-plan : goal.returns-clause-plan
returns-clause-plan c = λ text i. record {
  globals = addresses (same_globals text i);
  frames = map planned (same_frames text i);
  classes = classes_of (same_globals text i);
}

pub returns-clause-data : goal.returns-clause-data
returns-clause-data c = λ text. ap (λ (gs : List Global). nat_lt STACK_FROM (private_to gs)) (same_globals text)

pub returns-clause-frames : goal.returns-clause-frames
returns-clause-frames c = λ text. ap first_too_large (same_frames text)
