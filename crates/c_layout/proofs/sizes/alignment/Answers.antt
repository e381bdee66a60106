use Rattle.std.proofs.Common.{sym, ◌∙◌}
use Rattle.c_tree.specs.View.{var_of}
use Rattle.c_layout.proofs.Extents.{declared_alignment_to, declared_alignment}
use Rattle.c_layout.proofs.sizes.alignment.Goals as goal

pub returns-then-v-gt0 : goal.returns-then-v-gt0
returns-then-v-gt0 c = sym (declared_alignment_to (var_of c.args.v.now) c.if-v-gt0.true)

pub returns-else-v-gt0 : goal.returns-else-v-gt0
returns-else-v-gt0 c = c.type_alignment.ensures ∙ sym (declared_alignment (var_of c.args.v.now) c.if-v-gt0.false)

pub type_alignment-requires : goal.type_alignment-requires
type_alignment-requires c = tt
