-- The names of functions that are defined.
use Rattle.std.proofs.Common.{◌≡◌, ℕ, Bool, true, false, cond, ◌&&◌, ◌||◌, Option, Some, None, is_some, List, [], ◌∷◌, ◌++◌, Vec, Global, refl, ap, sym, subst, ◌∙◌}
use mathlib.Core.Logic.{⊎_elim}
use Rattle.std.specs.BTreeSet.{BTreeSet, UpdatesBy, contains_by}
use Rattle.std.specs.Cmp.{eq_by_cmp_equiv}
use Rattle.std.specs.Cmp.Lexicographic.{slice_cmp, bytes_decides, nat_list_cmp_total}
use Rattle.std.specs.Ordering.{nat_cmp}
use Rattle.std.specs.Prelude.{bytes_eq, option_map}
use Rattle.std.proofs.lemmas.Bool.{cases_Bool, cond-true, cond-false}
use Rattle.c_tree.specs.Accepted.{is_defined_by, is_defined}
use Rattle.c_tree.specs.Item.{Item}
use Rattle.c_tree.specs.View.{item_of, stmts_of}
use Rattle.c_tree.specs.declared.tree.Fun.{Fun}
use Rattle.c_tree.specs.declared.tree.Item.TheVariants as item
use Rattle.c_tree.specs.declared.tree.Stmt.{Stmt}
use Rattle.c_scope.proofs.Keys.{apart, set_others, vec_cmp}

pub updates_names : (bs : List ℕ) (s n : BTreeSet (Vec ℕ Global)) (b : Bool)
    → UpdatesBy vec_cmp (λ k. slice_cmp nat_cmp bs k.items) s n b
    → (cs : List ℕ) → contains_by (λ k. slice_cmp nat_cmp cs k.items) n ≡ cond (bytes_eq bs cs) b (contains_by (λ k. slice_cmp nat_cmp cs k.items) s)
updates_names bs s n b h cs =
    let at = λ (ds : List ℕ). contains_by (λ k. slice_cmp nat_cmp ds k.items) n in
    ⊎_elim
    (λ y. subst (λ l. at l ≡ b) ((bytes_decides bs cs).0 y) h.1 ∙ sym (cond-true (bytes_eq bs cs) b _ y))
    (λ e. set_others _ _ _ _ h.3 _ (λ x y. (eq_by_cmp_equiv nat_list_cmp_total).congr cs x.items y.items) (λ k. apart bs cs k.items e) ∙ sym (cond-false (bytes_eq bs cs) b _ e))
    (cases_Bool (bytes_eq bs cs))

pub cond_or : (t x : Bool) → cond t true x ≡ x || t
cond_or true true = refl
cond_or true false = refl
cond_or false true = refl
cond_or false false = refl

or_none : (t : Bool) → t || false ≡ t
or_none true = refl
or_none false = refl

or_assoc : (a b c : Bool) → a || (b || c) ≡ (a || b) || c
or_assoc true b c = refl
or_assoc false b c = refl

defined_push : (ps : List Item) (p : Item) (name : List ℕ)
    → is_defined (ps ++ p ∷ []) name ≡ is_defined ps name || is_defined_by name p
defined_push [] p name = or_none (is_defined_by name p)
defined_push (q ∷ ps) p name = ap (λ r. is_defined_by name q || r) (defined_push ps p name) ∙ or_assoc (is_defined_by name q) (is_defined ps name) (is_defined_by name p)

-- an item more that defines a function of the name, or doesn't
pub one_more : (ps : List Item) (p : Item) (name : List ℕ) (b : Bool) → is_defined_by name p ≡ b
    → is_defined ps name || b ≡ is_defined (ps ++ p ∷ []) name
one_more ps p name b h = ap (λ t. is_defined ps name || t) (sym h) ∙ sym (defined_push ps p name)

pub none_more : (ps : List Item) (p : Item) (name : List ℕ) → is_defined_by name p ≡ false
    → is_defined ps name ≡ is_defined (ps ++ p ∷ []) name
none_more ps p name h = sym (or_none (is_defined ps name)) ∙ one_more ps p name false h

some_mapped : {A B : Type 0} (f : A → B) (o : Option A) → is_some (option_map f o) ≡ is_some o
some_mapped f None = refl
some_mapped f (Some x) = refl

pub with_body : (f : Fun) (name : List ℕ) → is_some f.body ≡ true
    → is_defined_by name (item_of (item.Fun f)) ≡ bytes_eq f.name name
with_body f name h = ap (λ b. b && bytes_eq f.name name) (some_mapped (λ (body : Vec Stmt Global). stmts_of body.items) f.body ∙ h)

pub without_body : (f : Fun) (name : List ℕ) → is_some f.body ≡ false
    → is_defined_by name (item_of (item.Fun f)) ≡ false
without_body f name h = ap (λ b. b && bytes_eq f.name name) (some_mapped (λ (body : Vec Stmt Global). stmts_of body.items) f.body ∙ h)
