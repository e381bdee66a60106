use Rattle.c_semantics.proofs.RunnableLemmas.{accepted_runnable, right_runnable}
use Rattle.c_semantics.proofs.laws.an_accepted_text_has_types.Goals as goal

pub returns : goal.returns
returns c = record { text = right_runnable; tree = accepted_runnable }
