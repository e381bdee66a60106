use Rattle.std.proofs.Common.{arith}
use Rattle.std.proofs.lemmas.List.Sums.{prefix_len-le-length}
use Rattle.c_token.specs.Bytes.{is_word}
use Rattle.c_token.proofs.blank.word_behind_blank.Goals as goal

pub split_at-requires : goal.split_at-requires
split_at-requires c = omega (arith, c.word_len-len.ensures, prefix_len-le-length is_word c.after_blanks-word.result.now)
