use Rattle.low_expr.proofs.WordsBound.{expr_words}
use Rattle.low_expr.proofs.laws.each_node_has_few_words.Goals as goal

pub returns : goal.returns
returns c = λ functions defined names e slot label ready. expr_words functions defined names e slot
    label ready
