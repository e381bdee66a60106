use Rattle.std.proofs.Common.{◌≡◌, length}
use Rattle.std.specs.List.{range_with_len}
use Rattle.low_expr.specs.Lowering.{fresh_by}
use Rattle.low_expr.proofs.names.make_labels.Given as goal

abbrev pub invariant-loop-label : goal.invariant-loop-label
invariant-loop-label l = record {
  labels : l.labels.items ≡ range_with_len (length l.initial.asm.places) l._label;
  made : l.asm ≡ fresh_by l._label l.initial.asm;
}
