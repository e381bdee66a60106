use Rattle.std.proofs.Common.{◌≡◌, take}
use Rattle.low_labels.specs.Emission.{emit_all}
use Rattle.low_expr.specs.CodePieces.{all_do}
use Rattle.low_expr.proofs.piece.add.Given as goal

abbrev pub invariant-loop-instr : goal.invariant-loop-instr
invariant-loop-instr l =
    l.asm ≡ emit_all (all_do (take l.instr-index l.instrs)) l.initial.asm
