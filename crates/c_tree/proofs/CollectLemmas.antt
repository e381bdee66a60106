-- What statements give stays without their markers, where it does so for each by itself.
use Rattle.std.proofs.Common.{◌≡◌, List, ◌++◌, refl, ap₂}
use Rattle.c_tree.specs.Stmt.{Stmt, Stmts, ElseBranch}
use Rattle.c_tree.specs.Stmt as stmt
use Rattle.c_tree.specs.Collect.{collect, collect_else, collect_all}
use Rattle.c_tree.specs.Erase.{erased, erased_else, erased_all}

module _ {A : Type 0} (own : Stmt → List A) (same : (s : Stmt) → own (erased s) ≡ own s) where
  mutual
    pub collect_erased : (s : Stmt) → collect own (erased s) ≡ collect own s
    collect_erased (stmt.Block body at) = ap₂ (λ a b. a ++ b) (same (stmt.Block body at)) (collect_all_erased body)
    collect_erased (stmt.If c s other at) =
        ap₂ (λ a b. a ++ b) (same (stmt.If c s other at)) (ap₂ (λ a b. a ++ b) (collect_erased s) (collect_else_erased other))
    collect_erased (stmt.While c s at) = ap₂ (λ a b. a ++ b) (same (stmt.While c s at)) (collect_erased s)
    collect_erased (stmt.Do s c at) = ap₂ (λ a b. a ++ b) (same (stmt.Do s c at)) (collect_erased s)
    collect_erased (stmt.For f c d s at) = ap₂ (λ a b. a ++ b) (same (stmt.For f c d s at)) (collect_erased s)
    collect_erased s = same s

    collect_else_erased : (other : ElseBranch)
        → collect_else own (erased_else other) ≡ collect_else own other
    collect_else_erased stmt.NoElse = refl
    collect_else_erased (stmt.Else s) = collect_erased s

    pub collect_all_erased : (ss : Stmts) → collect_all own (erased_all ss) ≡ collect_all own ss
    collect_all_erased stmt.NoMore = refl
    collect_all_erased (stmt.More s rest) = ap₂ (λ a b. a ++ b) (collect_erased s) (collect_all_erased rest)
