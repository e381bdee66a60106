-- How the grammar's signs and words are written (C11 6.4.1 and 6.4.6).
use Rattle.std.specs.Prelude.{ℕ, Bool, false, if◌then◌else◌, List, [], ◌∷◌, codes, Option, Some, None}
use Rattle.std.specs.Str.{bytes_eq}
use Rattle.c_tree.specs.declared.operator.Binary.{Binary}
use Rattle.c_tree.specs.declared.operator.Binary.TheVariants as b
use Rattle.c_tree.specs.declared.operator.Group.{Group}
use Rattle.c_tree.specs.declared.operator.Group.TheVariants as by
use Rattle.c_tree.specs.declared.operator.Step.{Step}
use Rattle.c_tree.specs.declared.operator.Step.TheVariants as s
use Rattle.c_tree.specs.declared.operator.Unary.{Unary}
use Rattle.c_tree.specs.declared.operator.Unary.TheVariants as u
use Rattle.c_tree.specs.declared.tree.Callee.{Callee}
use Rattle.c_tree.specs.declared.tree.Callee.TheVariants as c
use Rattle.c_tree.specs.Groups.{group}
use Rattle.c_tree.specs.Ty.{Ty}
use Rattle.c_tree.specs.Ty as ty
use Rattle.c_token.specs.declared.token.Kind.{Kind}
use Rattle.c_token.specs.declared.token.Kind.TheVariants as k
use Rattle.c_token.specs.Signs.{padded}
use Rattle.c_expr.specs.declared.keyword.TheConstants.{INT, CHAR, GETCHAR, PUTCHAR}

abbrev pub sign : List ℕ → Kind
sign bytes = k.Sign (padded bytes)

abbrev pub same : Kind → Kind → Bool
same (k.Sign a) (k.Sign b) = bytes_eq a b
same (k.Reserved a) (k.Reserved b) = bytes_eq a b
same _ _ = false

-- what stands beside a sign or word
abbrev pub find : {X : Type 0} → List (Kind × X) → Kind → Option X
find [] kind = None
find (x ∷ xs) kind = if same kind x.0 then Some x.1 else find xs kind

-- assignment operators (C11 6.5.16); None is `=`
abbrev pub assign_ops : List (Kind × Option Binary)
assign_ops =
    (sign (codes "="), None) ∷ (sign (codes "*="), Some b.Times)
    ∷ (sign (codes "/="), Some b.Divide) ∷ (sign (codes "%="), Some b.Rest)
    ∷ (sign (codes "+="), Some b.Plus) ∷ (sign (codes "-="), Some b.Minus)
    ∷ (sign (codes "<<="), Some b.Left) ∷ (sign (codes ">>="), Some b.Right)
    ∷ (sign (codes "&="), Some b.BitAnd) ∷ (sign (codes "^="), Some b.BitXor)
    ∷ (sign (codes "|="), Some b.BitOr) ∷ []

abbrev pub assign_op : Kind → Option (Option Binary)
assign_op = find assign_ops

-- binary operators (C11 6.5.5 to 6.5.14)
abbrev pub binary_ops : List (Kind × Binary)
binary_ops =
    (sign (codes "||"), b.Or) ∷ (sign (codes "&&"), b.And) ∷ (sign (codes "|"), b.BitOr)
    ∷ (sign (codes "^"), b.BitXor) ∷ (sign (codes "&"), b.BitAnd)
    ∷ (sign (codes "=="), b.Equal) ∷ (sign (codes "!="), b.Unequal)
    ∷ (sign (codes "<"), b.Less) ∷ (sign (codes ">"), b.Greater) ∷ (sign (codes "<="), b.LessEqual)
    ∷ (sign (codes ">="), b.GreaterEqual)
    ∷ (sign (codes "<<"), b.Left) ∷ (sign (codes ">>"), b.Right) ∷ (sign (codes "+"), b.Plus)
    ∷ (sign (codes "-"), b.Minus)
    ∷ (sign (codes "*"), b.Times) ∷ (sign (codes "/"), b.Divide) ∷ (sign (codes "%"), b.Rest) ∷ []

abbrev pub binary_op : Kind → Option Binary
binary_op = find binary_ops

-- The rank of each group's rule, from `mul` to `lor`, the tightest first.
abbrev pub lor : ℕ
lor = 10

abbrev pub group_rank : Group → ℕ
group_rank by.Product = 1
group_rank by.Sum = 2
group_rank by.Difference = 2
group_rank by.Shift = 3
group_rank by.Order = 4
group_rank by.Equality = 5
group_rank by.BitAnd = 6
group_rank by.BitXor = 7
group_rank by.BitOr = 8
group_rank by.And = 9
group_rank by.Or = lor

abbrev pub rank : Binary → ℕ
rank op = group_rank (group op)

-- unary operators (C11 6.5.3.2 and 6.5.3.3)
abbrev pub unary_ops : List (Kind × Unary)
unary_ops =
    (sign (codes "+"), u.Plus) ∷ (sign (codes "-"), u.Minus) ∷ (sign (codes "!"), u.Not)
    ∷ (sign (codes "~"), u.Flip) ∷ (sign (codes "*"), u.At) ∷ (sign (codes "&"), u.Address) ∷ []

abbrev pub unary_op : Kind → Option Unary
unary_op = find unary_ops

-- `++` and `--` before their operand (C11 6.5.3.1), and behind it (6.5.2.4)
abbrev pub first_steps : List (Kind × Step)
first_steps = (sign (codes "++"), s.RaiseFirst) ∷ (sign (codes "--"), s.LowerFirst) ∷ []

abbrev pub first_step : Kind → Option Step
first_step = find first_steps

abbrev pub last_steps : List (Kind × Step)
last_steps = (sign (codes "++"), s.RaiseLast) ∷ (sign (codes "--"), s.LowerLast) ∷ []

abbrev pub last_step : Kind → Option Step
last_step = find last_steps

-- the callees that are reserved words
abbrev pub builtins : List (Kind × Callee)
builtins = (k.Reserved GETCHAR.now, c.Getchar) ∷ (k.Reserved PUTCHAR.now, c.Putchar)
    ∷ []

abbrev pub builtin : Kind → Option Callee
builtin = find builtins

-- the bases of one word
abbrev pub plain_bases : List (Kind × Ty)
plain_bases = (k.Reserved INT.now, ty.Int) ∷ (k.Reserved CHAR.now, ty.Char) ∷ []

abbrev pub plain_base : Kind → Option Ty
plain_base = find plain_bases
