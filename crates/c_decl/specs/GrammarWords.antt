-- Reserved words of declarations and statements (C11 6.4.1), with what each stands for.
use Rattle.std.specs.Prelude.{ℕ, List, [], ◌∷◌, Option}
use Rattle.c_tree.specs.declared.operator.Keep.{Keep}
use Rattle.c_tree.specs.declared.operator.Keep.TheVariants as keep
use Rattle.c_tree.specs.declared.tree.Marker.{Marker}
use Rattle.c_tree.specs.declared.tree.Marker.TheVariants as m
use Rattle.c_token.specs.declared.token.Kind.{Kind}
use Rattle.c_token.specs.declared.token.Kind.TheVariants as k
use Rattle.c_expr.specs.Spelled.{find}
use Rattle.c_decl.specs.declared.reserved.TheConstants.{BEGIN_PPR, END_PPR, WAIT, BOP_CHECKED, BOP_PRIVATE}

abbrev pub word : List ℕ → Kind
word bytes = k.Reserved bytes

-- the words that say how globals are kept
abbrev pub keeps : List (Kind × Keep)
keeps = (word BOP_CHECKED.now, keep.Checked) ∷ (word BOP_PRIVATE.now, keep.Private) ∷ []

abbrev pub keep_of : Kind → Option Keep
keep_of = find keeps

-- the markers that have a number alone
abbrev pub markers : List (Kind × (ℕ → Marker))
markers = (word BEGIN_PPR.now, (λ n. m.Begin n)) ∷ (word END_PPR.now, (λ n. m.End n))
    ∷ (word WAIT.now, (λ n. m.Wait n)) ∷ []

abbrev pub marker_of : Kind → Option (ℕ → Marker)
marker_of = find markers
