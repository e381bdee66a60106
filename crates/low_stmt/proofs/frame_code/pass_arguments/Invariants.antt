use Rattle.std.proofs.Common.{◌≡◌, ◌≤◌, ◌+◌, ◌*◌, length, map, drop}
use Rattle.c_tree.specs.View.{param_of}
use Rattle.low_labels.specs.Emission.{emit_all}
use Rattle.low_stmt.specs.FunCode.{pass_code}
use Rattle.low_stmt.proofs.frame_code.pass_arguments.Given as goal

abbrev pub invariant-loop-p : goal.invariant-loop-p
invariant-loop-p l = record {
  added : emit_all (pass_code l.register l.rest (map param_of (drop l.p-index l.params))) l.asm
      ≡ emit_all (pass_code 10 l.places (map param_of l.params)) l.initial.asm;
  register : l.register ≡ 10 + l.p-index;
  few : length l.asm.lines ≤ length l.initial.asm.lines + 8 * l.p-index;
}
