use Rattle.c_semantics.proofs.WiderLemmas.{deeper_calls, loops_need_no_more, for_loops_need_no_more}
use Rattle.c_semantics.proofs.laws.wider_bounds_change_nothing.Goals as goal

pub returns : goal.returns
returns c = record { calls = deeper_calls; loops = loops_need_no_more; for_loops = for_loops_need_no_more }
