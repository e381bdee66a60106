-- What the statements within a statement give, in their order, where `own` says what one gives by itself.
use Rattle.std.specs.Prelude.{List, [], ◌++◌}
use Rattle.c_tree.specs.Stmt.{Stmt, Stmts, ElseBranch}
use Rattle.c_tree.specs.Stmt as stmt

module _ {A : Type 0} (own : Stmt → List A) where
  abbrev mutual
    pub collect : Stmt → List A
    collect (stmt.Block body at) = own (stmt.Block body at) ++ collect_all body
    collect (stmt.If c s other at) =
        own (stmt.If c s other at) ++ (collect s ++ collect_else other)
    collect (stmt.While c s at) = own (stmt.While c s at) ++ collect s
    collect (stmt.Do s c at) = own (stmt.Do s c at) ++ collect s
    collect (stmt.For f c d s at) = own (stmt.For f c d s at) ++ collect s
    collect s = own s

    pub collect_else : ElseBranch → List A
    collect_else stmt.NoElse = []
    collect_else (stmt.Else s) = collect s

    pub collect_all : Stmts → List A
    collect_all stmt.NoMore = []
    collect_all (stmt.More s rest) = collect s ++ collect_all rest
