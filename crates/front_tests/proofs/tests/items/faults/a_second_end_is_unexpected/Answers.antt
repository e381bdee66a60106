use Rattle.std.proofs.Common.{[], ◌∷◌}
use Rattle.c_token.specs.declared.token.Kind.TheVariants as k
use Rattle.front_tests.proofs.tests.items.faults.a_second_end_is_unexpected.Goals as goal

pub parse-found-requires : goal.parse-found-requires
parse-found-requires g c =
    record { before = record { kind = k.End; place = c.at.result } ∷ []; place = c.at-2.result; ended = c.as_slice.ensures }
