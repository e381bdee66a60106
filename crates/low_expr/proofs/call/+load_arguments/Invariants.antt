use Rattle.low_expr.proofs.call.+load_arguments.Given as goal

abbrev pub decreases-load_arguments : goal.decreases-load_arguments
decreases-load_arguments l = l.count
