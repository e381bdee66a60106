use Rattle.std.proofs.Common.{◌≡◌, sym, ◌∙◌, ap}
use Rattle.rv_code.specs.Decode.{instr_of}
use Rattle.rv_code.proofs.DecodeLemmas.{instr_of-word_of}
use Rattle.rv_code.proofs.DecodeSound.{instr_of-sound}
use Rattle.rv_code.proofs.decoding.decode.Goals as goal

pub returns : goal.returns
returns c = record {
  value = c.read_word.ensures;
  sound = rw c.read_word.ensures (instr_of-sound c.args.word c.ranges.word.fits);
  complete = λ i fits same. c.read_word.ensures ∙ ap instr_of (sym same) ∙ instr_of-word_of i fits;
}
