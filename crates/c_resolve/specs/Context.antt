-- What the meaning of a part of a text depends on besides its names: the definitions of the text, the input, and what calls do.
use Rattle.std.specs.Prelude.{ℕ, List}
use Rattle.c_semantics.specs.Eval.{Calls}
use Rattle.c_semantics.specs.Names.{Definition}

pub record Context : Type 0 where
  pub definitions : List Definition
  pub input : List ℕ
  pub calls : Calls
