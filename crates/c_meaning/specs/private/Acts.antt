-- Acts on values that are at hand, without the steps that are counted before them.
use Rattle.std.specs.Prelude.{ℕ}
use Rattle.c_tree.specs.declared.operator.Step.{Step}
use Rattle.c_tree.specs.declared.place.Place.{Place}
use Rattle.c_semantics.specs.declared.kind.Held.{Held}
use Rattle.c_semantics.specs.declared.kind.Operand.{Operand}
use Rattle.c_semantics.specs.declared.kind.Operand.TheVariants.{Signed}
use Rattle.c_semantics.specs.Run.{Run, pure, ◌>>=◌}
use Rattle.c_semantics.specs.Eval.{combined, step_operator, step_value}

-- `++ --` of what an object at an address holds
unfoldable pub stepped_at : Step → Operand → Held → Place → Place → ℕ → Run ℕ
stepped_at how c h own at x = do
  both ← combined (step_operator how) c Signed h own at x 1
  pure (step_value how both.0 both.1)
