-- A tree is accepted where its text has no fault, and the other way round.
use Rattle.std.proofs.Common.{◌≡◌, rules, Bool, true, false, List, [], ◌∷◌, Option, Some, None, refl}
use Rattle.std.specs.Prelude.{IsTrue}
use Rattle.c_tree.specs.declared.breach.Breach.{Breach}
use Rattle.c_tree.specs.declared.breach.Ranking.TheVariants.{ForChecks}
use Rattle.c_tree.specs.declared.tree.Tree.{Tree}
use Rattle.c_tree.specs.Breach.{least_of, nothing_found}
use Rattle.c_tree.specs.View.{items_of}
use Rattle.c_tree.specs.Scope.{otherwise}
use Rattle.c_tree.specs.Accepted.{is_none_broken, is_accepted, Accepted, text_breaches, has_main, main_fault, text_fault}
use Rattle.c_tree.proofs.LeastBreach.{least_none}
use Rattle.c_tree.proofs.NoBreach.{left_true, right_true, and_true}

truth : (b : Bool) → b ≡ true → IsTrue b
truth true h = search rules
truth false h = absurd cc

true_of : (b : Bool) → IsTrue b → b ≡ true
true_of true h = refl
true_of false h = grind rules

none_broken : (bs : List Breach) → bs ≡ [] → is_none_broken bs ≡ true
none_broken [] h = refl
none_broken (b ∷ bs) h = cc

none_left : (bs : List Breach) → is_none_broken bs ≡ true → bs ≡ []
none_left [] h = refl
none_left (b ∷ bs) h = cc

pub accepted_without : (tree : Tree) → text_breaches (items_of tree) ≡ []
    → has_main (items_of tree) ≡ true → Accepted tree
unfolding is_accepted
accepted_without tree h main = truth _ (and_true _ _ (none_broken (text_breaches (items_of tree)) h) main)

pub unbroken : (tree : Tree) → Accepted tree → text_breaches (items_of tree) ≡ []
unfolding is_accepted
unbroken tree h = none_left (text_breaches (items_of tree)) (left_true _ _ (true_of _ h))

pub with_main : (tree : Tree) → Accepted tree → has_main (items_of tree) ≡ true
unfolding is_accepted
with_main tree h = right_true _ _ (true_of _ h)

first_none : (x y : Option Breach) → otherwise x y ≡ None → x ≡ None
first_none None y h = refl
first_none (Some b) y h = cc

second_none : (x y : Option Breach) → otherwise x y ≡ None → y ≡ None
second_none None y h = h
second_none (Some b) y h = cc

main_there : (b : Bool) → main_fault b ≡ None → b ≡ true
main_there true h = refl
main_there false h = cc

pub accepted_faultless : (tree : Tree) → text_fault (items_of tree) ≡ None → Accepted tree
accepted_faultless tree h =
    let least = first_none (least_of (nothing_found ForChecks) (text_breaches (items_of tree))).found (main_fault (has_main (items_of tree))) h in
    let main = second_none (least_of (nothing_found ForChecks) (text_breaches (items_of tree))).found (main_fault (has_main (items_of tree))) h in
    accepted_without tree (least_none (nothing_found ForChecks) (text_breaches (items_of tree)) least) (main_there (has_main (items_of tree)) main)

pub faultless : (tree : Tree) → Accepted tree → text_fault (items_of tree) ≡ None
faultless tree h = let none = unbroken tree h in let main = with_main tree h in rw (none, main) refl
