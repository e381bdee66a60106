-- Items of a text, as definitions speak of them: a text is a list of items.
use Rattle.std.specs.Prelude.{List}
use Rattle.c_tree.specs.declared.operator.Keep.{Keep}
use Rattle.c_tree.specs.Fun as fun
use Rattle.c_tree.specs.Var.{Var}

pub data Item : Type 0 where
  Vars : (keep : Keep) (declarators : List Var) → Item
  Fun : (function : fun.Fun) → Item
