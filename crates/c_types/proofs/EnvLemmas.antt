-- An environment's scope after a change of its blocks.
use Rattle.c_tree.proofs.BlocksLemmas.{mapped_declared, mapped_entered, mapped_left, as_many, look_mapped, is_mapped}

pub ruleset mapped_rules = (mapped_declared, mapped_entered, mapped_left, as_many, look_mapped, is_mapped)
