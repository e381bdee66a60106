-- What the code of a function takes for granted of it.
use Rattle.std.specs.Prelude.{ℕ, ◌^◌, ◌≤◌, List, ◌++◌, length, Option}
use Rattle.c_tree.specs.Stmt.{Stmts}
use Rattle.c_tree.specs.Fun.{Fun}
use Rattle.c_tree.specs.Accepted.{result_shape}
use Rattle.c_semantics.specs.Names.{Names, Definition}
use Rattle.c_semantics.specs.Exec.{block_locals}
use Rattle.c_semantics.specs.Meaning.{parameter_locals}
use Rattle.low_stmt.specs.FunCode.{last_word, body_of}
use Rattle.low_stmt.specs.StmtReadiness.{AreWithin, AreReadyStmts}

-- Under the names of the text: arguments fit into registers, parameters and locals are between the
-- slots and the return address, and the statements are ready.
pub record IsReadyFun (defined : List ℕ → Option Definition) (names : Names) (f : Fun)
    (body : Stmts) : Type 0 where
  pub few : length f.parameters ≤ 8
  pub small : (body_of names f body).frame.size ≤ 2 ^ 16
  pub within : (let b = body_of names f body in
      AreWithin defined b.frame.slots (last_word b.frame.size)
      (parameter_locals b.frame.places f.parameters ++ block_locals b.own body))
  pub statements : (let b = body_of names f body in
      AreReadyStmts defined b.frame.slots (last_word b.frame.size) (result_shape f) b.names b.own
      body)
