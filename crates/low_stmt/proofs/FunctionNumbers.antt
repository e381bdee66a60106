-- The labels of functions that are made first are those of the code of the text.
use Rattle.std.proofs.Common.{◌≡◌, ℕ, suc, ◌+◌, ◌<◌, Bool, true, false, cond, List, [], ◌∷◌, ◌++◌, length, Option, Some, None, refl, ap, sym, ◌∙◌, arith}
use Rattle.std.specs.List.{range_with_len}
use Rattle.std.specs.Prelude.{bytes_eq}
use Rattle.std.proofs.lemmas.List.FromFn.{length-range_with_len, get_or-range_with_len}
use Rattle.c_tree.specs.Item.{Item}
use Rattle.c_tree.specs.Item as item
use Rattle.c_tree.specs.Stmt.{Stmts}
use Rattle.c_resolve.specs.Routines.{definitions_of, number_from, own_definition}
use Rattle.c_semantics.specs.Names.{Definition}
use Rattle.low_expr.specs.declared.names.Names.{Names as Labelled}
use Rattle.low_expr.specs.LabelledNames.{functions_in, label_at, AreFunctionsOf}
use Rattle.low_stmt.specs.TextCode.{before_by, before_in, label_of}

-- a number, or where there is none how many there are
abbrev number_or : Option ℕ → ℕ → ℕ
number_or None all = all
number_or (Some k) all = k

in_order : (n : ℕ) (items : List Item) (name : List ℕ)
    → number_or (number_from n (definitions_of items) name) (n + length (definitions_of items))
    ≡ n + before_in items name
in_order n [] name = refl
in_order n (item.Vars keep ds ∷ rest) name = in_order n rest name
in_order n (item.Fun f ∷ rest) name = own f.body (in_order n rest name) (in_order (suc n) rest name)
  where
    ds : List Definition
    ds = definitions_of rest

    some : (b : Bool)
        → number_or (number_from (suc n) ds name) (suc n + length ds) ≡ suc n + before_in rest name
        → number_or (cond b (Some n) (number_from (suc n) ds name)) (n + suc (length ds))
        ≡ n + cond b 0 (1 + before_in rest name)
    some true h = let same : n ≡ n + 0 = omega arith in same
    some false h =
        let all : n + suc (length ds) ≡ suc n + length ds = omega arith in
        let next : suc n + before_in rest name ≡ n + (1 + before_in rest name) = omega arith in
        ap (number_or (number_from (suc n) ds name)) all ∙ (h ∙ next)

    chosen : (b : Bool) (body : Stmts)
        → cond b 0 (1 + before_in rest name) ≡ before_by b (Some body) (before_in rest name)
    chosen true body = refl
    chosen false body = refl

    none : (b : Bool) → before_in rest name ≡ before_by b None (before_in rest name)
    none true = refl
    none false = refl

    own : (body : Option Stmts)
        → number_or (number_from n ds name) (n + length ds) ≡ n + before_in rest name
        → number_or (number_from (suc n) ds name) (suc n + length ds) ≡ suc n + before_in rest name
        → number_or
        (number_from n (own_definition f body ++ ds) name) (n + length (own_definition f body ++ ds))
        ≡ n + before_by (bytes_eq f.name name) body (before_in rest name)
    own None h g = h ∙ ap (λ k. n + k) (none (bytes_eq f.name name))
    own (Some body) h g = some (bytes_eq f.name name) g ∙ ap (λ k. n + k) (chosen (bytes_eq f.name name) body)

number_low : (n : ℕ) (ds : List Definition) (name : List ℕ) (k : ℕ)
    → number_from n ds name ≡ Some k → k < n + length ds
number_low n [] name k h = cc
number_low n (d ∷ ds) name k h = by (bytes_eq d.function.name name) (number_low (suc n) ds name k) h
  where
    by : (b : Bool) → (number_from (suc n) ds name ≡ Some k → k < suc n + length ds)
        → cond b (Some n) (number_from (suc n) ds name) ≡ Some k
        → k < n + suc (length ds)
    by true later h = let same : n ≡ k = cc in omega arith
    by false later h = let low = later h in omega arith

labelled : (count : ℕ) (o : Option ℕ) → ((k : ℕ) → o ≡ Some k → k < count)
    → label_at (range_with_len 0 count) o ≡ number_or o count
labelled count None low = length-range_with_len 0 count
labelled count (Some k) low =
    let same : 0 + k ≡ k = omega arith in
    get_or-range_with_len 0 count k 0 (low k refl) ∙ same

-- labels that are made before all others have the numbers of their functions
pub functions_are_labels : (text : List Item) (names : Labelled) → AreFunctionsOf text names
    → names.labels.items ≡ range_with_len 0 names.numbers.count → (name : List ℕ)
    → functions_in names name ≡ label_of text name
functions_are_labels text names functions numbered name =
    let ds = definitions_of text in
    let count = functions.count in
    let none : 0 + length ds ≡ length ds = omega arith in
    let last : 0 + before_in text name ≡ before_in text name = omega arith in
    (λ i. label_at ((numbered ∙ ap (range_with_len 0) count) i) (functions.first name i))
    ∙ (labelled (length ds) (number_from 0 ds name) (λ k h. let low = number_low 0 ds name k h in omega arith)
    ∙ (sym (ap (number_or (number_from 0 ds name)) none) ∙ (in_order 0 text name ∙ last)))
