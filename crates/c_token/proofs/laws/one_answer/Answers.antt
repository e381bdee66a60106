use Rattle.c_token.proofs.OneReading.{tokens_once, faults_once, tokens_or_fault}
use Rattle.c_token.proofs.laws.one_answer.Goals as goal

pub returns : goal.returns
returns c = record { tokens = tokens_once; faults = faults_once; apart = tokens_or_fault }
