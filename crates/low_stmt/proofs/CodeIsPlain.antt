-- Code of statements that places no label, and how many words declarations have.
use Rattle.std.proofs.Common.{◌+◌, ◌*◌, ◌≤◌, List, [], ◌∷◌, ◌++◌, Bool, true, false, arith}
use Rattle.rv_code.specs.declared.instr.Instr.{Instr}
use Rattle.c_tree.specs.Var.{Var}
use Rattle.c_semantics.specs.Exec.{has_init}
use Rattle.c_semantics.specs.declared.kind.Held.{Held}
use Rattle.low_labels.specs.Operation.{width_of}
use Rattle.low_expr.specs.CodePieces.{all_do, narrow_by, write_by}
use Rattle.low_stmt.specs.CodeBound.{count_declarators}
use Rattle.low_stmt.specs.StmtCode.{counted_where, write_code}
use Rattle.low_stmt.specs.private.StmtParts.{declarators_words}
use Rattle.low_stmt.proofs.UnplacedLabels.{ArePlain, plain_append, plain_do}

pub plain_write : (xs : List Instr) (h : Held) → ArePlain (write_code xs h)
plain_write xs h =
    plain_append (all_do (xs ++ narrow_by h)) (all_do (write_by h)) (plain_do (xs ++ narrow_by h)) (plain_do (write_by h))

pub plain_counted : (b : Bool) → ArePlain (counted_where b)
plain_counted true = tt
plain_counted false = tt

counted_width : (b : Bool) → width_of (counted_where b) ≤ 1
counted_width true = omega arith
counted_width false = omega arith

-- a step among the words of declarators
pub few_words : (ds : List Var)
    → declarators_words ds + width_of (counted_where (has_init ds)) ≤ 32 * count_declarators ds
few_words [] = omega arith
few_words (d ∷ ds) =
    let rest = few_words ds in
    let step = counted_width (has_init (d ∷ ds)) in
    omega arith
