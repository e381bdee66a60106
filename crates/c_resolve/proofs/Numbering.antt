-- The numbers of definitions, and which definition a number is.
use Rattle.std.proofs.Common.{◌≡◌, ℕ, zero, suc, ◌+◌, Bool, true, false, cond, List, [], ◌∷◌, ◌++◌, length, map, drop, Option, Some, None, refl, ap, sym, ◌∙◌, add-zero, append_assoc, append-nil, length-append, arith}
use Rattle.std.specs.Prelude.{bytes_eq, slice_get}
use Rattle.c_tree.specs.Stmt.{Stmts}
use Rattle.c_tree.specs.Fun.{Fun}
use Rattle.c_tree.specs.Item.{Item}
use Rattle.c_tree.specs.Item as item
use Rattle.c_layout.specs.Frames.{frames, framed, frame_of, Planned, Framed}
use Rattle.c_layout.specs.Laid.{planned}
use Rattle.c_resolve.specs.declared.numbers.Numbers.{Numbers}
use Rattle.c_semantics.specs.Names.{Definition}
use Rattle.c_resolve.specs.DeclaredNames.{indexed_at, numbered}
use Rattle.c_semantics.specs.Meaning.{definition, defined_by}
use Rattle.c_resolve.specs.Routines.{own_definition, definitions_of, number_from, or_number, AreNumbersOf, definition_frame}

-- a name that has no number takes one
pub taken_number : (b : Bool) (o : Option ℕ) (n : ℕ) → (b ≡ true → o ≡ None)
    → cond b (Some n) o ≡ or_number o (cond b (Some n) None)
taken_number true o n h = ap (λ x. or_number x (Some n)) (sym (h refl))
taken_number false None n h = refl
taken_number false (Some m) n h = refl

cond_or : (b : Bool) (n : ℕ) (x y : Option ℕ)
    → cond b (Some n) (or_number x y) ≡ or_number (cond b (Some n) x) y
cond_or true n x y = refl
cond_or false n x y = refl

number_push : (n : ℕ) (ds : List Definition) (d : Definition) (name : List ℕ)
    → number_from n (ds ++ d ∷ []) name
    ≡ or_number (number_from n ds name)
    (cond (bytes_eq d.function.name name) (Some (n + length ds)) None)
number_push n [] d name = ap (λ m. cond (bytes_eq d.function.name name) (Some m) None) (sym (add-zero n))
number_push n (x ∷ ds) d name =
    let same : suc n + length ds ≡ n + suc (length ds) = omega arith in
    let last : Option ℕ → Option ℕ = λ m. cond (bytes_eq d.function.name name) m None in
    ap (cond (bytes_eq x.function.name name) (Some n)) (number_push (suc n) ds d name)
    ∙ (cond_or (bytes_eq x.function.name name) n (number_from (suc n) ds name) (last (Some (suc n + length ds)))
    ∙ ap (λ m. or_number (number_from n (x ∷ ds) name) (last (Some m))) same)

-- one definition more
pub one_more : (old new : Numbers) (ds : List Definition) (d : Definition) (name : List ℕ)
    → name ≡ d.function.name → AreNumbersOf old ds → new.count ≡ old.count + 1
    → ((other : List ℕ) → indexed_at new.numbers other ≡ or_number (indexed_at old.numbers other) (cond (bytes_eq name other) (Some old.count) None)) → AreNumbersOf new (ds ++ d ∷ [])
one_more old new ds d name is h count first = record {
  count = omega (arith, count, h.count, length-append ds (d ∷ []));
  first = λ other.
      let counted : old.count ≡ 0 + length ds = omega (arith, h.count) in
      first other
      ∙ ((λ i. or_number (h.first other i) (cond (bytes_eq (is i) other) (Some (counted i)) None))
      ∙ sym (number_push 0 ds d other));
}

pub definitions_cons : (p : Item) (ps : List Item)
    → definitions_of (p ∷ ps) ≡ definitions_of (p ∷ []) ++ definitions_of ps
definitions_cons (item.Vars keep ds) ps = refl
definitions_cons (item.Fun f) ps = ap (λ own. own ++ definitions_of ps) (sym (append-nil (own_definition f f.body)))

pub definitions_push : (ps : List Item) (p : Item)
    → definitions_of (ps ++ p ∷ []) ≡ definitions_of ps ++ definitions_of (p ∷ [])
definitions_push [] p = refl
definitions_push (item.Vars keep ds ∷ ps) p = definitions_push ps p
definitions_push (item.Fun f ∷ ps) p =
    ap (λ ds. own_definition f f.body ++ ds) (definitions_push ps p) ∙ sym (append_assoc (own_definition f f.body) (definitions_of ps) (definitions_of (p ∷ [])))

-- the first definition of a name
abbrev defined_in : List Definition → List ℕ → Option Definition
defined_in [] name = None
defined_in (d ∷ ds) name = cond (bytes_eq d.function.name name) (Some d) (defined_in ds name)

at_seam : (before : List Definition) (d : Definition) (ds : List Definition)
    → slice_get (before ++ d ∷ ds) (length before) ≡ Some d
at_seam [] d ds = refl
at_seam (x ∷ before) d ds = at_seam before d ds

by_test : (all : List Definition) (b : Bool) (k : ℕ) (d : Definition) (o : Option ℕ)
    (w : Option Definition) → slice_get all k ≡ Some d → numbered all o ≡ w
    → numbered all (cond b (Some k) o) ≡ cond b (Some d) w
by_test all true k d o w h g = h
by_test all false k d o w h g = g

by_number : (before ds : List Definition) (name : List ℕ)
    → numbered (before ++ ds) (number_from (length before) ds name) ≡ defined_in ds name
by_number before [] name = refl
by_number before (d ∷ ds) name =
    let long : suc (length before) ≡ length (before ++ d ∷ []) = omega (arith, length-append before (d ∷ [])) in
    let all : before ++ d ∷ ds ≡ (before ++ d ∷ []) ++ ds = sym (append_assoc before (d ∷ []) ds) in
    let later : numbered (before ++ d ∷ ds) (number_from (suc (length before)) ds name) ≡ defined_in ds name =
    (λ i. numbered (all i) (number_from (long i) ds name)) ∙ by_number (before ++ d ∷ []) ds name in
    by_test (before ++ d ∷ ds) (bytes_eq d.function.name name) (length before) d (number_from (suc (length before)) ds name) (defined_in ds name) (at_seam before d ds) later

own_first : (f : Fun) (body : Option Stmts) (name : List ℕ) (o : Option Definition)
    (ds : List Definition) → o ≡ defined_in ds name
    → defined_by (bytes_eq f.name name) f body o ≡ defined_in (own_definition f body ++ ds) name
own_first f None name o ds h = none (bytes_eq f.name name) ∙ h
  where
    none : (b : Bool) → defined_by b f None o ≡ o
    none true = refl
    none false = refl
own_first f (Some body) name o ds h = some (bytes_eq f.name name) ∙ ap (cond (bytes_eq f.name name) (Some (record { function = f; body = body }))) h
  where
    some : (b : Bool) → defined_by b f (Some body) o
        ≡ cond b (Some (record { function = f; body = body })) o
    some true = refl
    some false = refl

definition_is : (text : List Item) (name : List ℕ)
    → definition text name ≡ defined_in (definitions_of text) name
definition_is [] name = refl
definition_is (item.Vars keep ds ∷ rest) name = definition_is rest name
definition_is (item.Fun f ∷ rest) name = own_first f f.body name (definition rest name) (definitions_of rest) (definition_is rest name)

-- a name's definition is the one of its number
pub definition_numbered : (text : List Item) (name : List ℕ)
    → numbered (definitions_of text) (number_from 0 (definitions_of text) name)
    ≡ definition text name
definition_numbered text name = by_number [] (definitions_of text) name ∙ sym (definition_is text name)

own_frame : (f : Fun) (body : Option Stmts) (fs : List Framed) (ds : List Definition)
    → map planned fs ≡ map definition_frame ds
    → map planned (framed f body ++ fs) ≡ map definition_frame (own_definition f body ++ ds)
own_frame f None fs ds h = h
own_frame f (Some body) fs ds h = ap (λ (all : List Planned). frame_of f.parameters body ∷ all) h

-- the frames of a text are those of its definitions
pub frames_are : (text : List Item)
    → map planned (frames text) ≡ map definition_frame (definitions_of text)
frames_are [] = refl
frames_are (item.Vars keep ds ∷ rest) = frames_are rest
frames_are (item.Fun f ∷ rest) = own_frame f f.body (frames rest) (definitions_of rest) (frames_are rest)

-- what comes next in a list
at_drop : {A : Type 0} (xs : List A) (k : ℕ) (x : A) (rest : List A) → drop k xs ≡ x ∷ rest
    → slice_get xs k ≡ Some x
at_drop [] zero x rest h = cc
at_drop [] (suc k) x rest h = cc
at_drop (y ∷ xs) zero x rest h = cc
at_drop (y ∷ xs) (suc k) x rest h = at_drop xs k x rest h

pub next_is : {A : Type 0} (xs : List A) (k : ℕ) (x y : A) (rest : List A) → drop k xs ≡ x ∷ rest
    → slice_get xs k ≡ Some y → y ≡ x
next_is xs k x y rest h e =
    let same : Some y ≡ Some x = sym e ∙ at_drop xs k x rest h in
    cc
