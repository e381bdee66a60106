-- The least breach of an expression, as a fault.
use Rattle.std.proofs.Common.{◌≡◌, Bool, true, List, [], Some, None, refl, ap, sym, ◌∙◌, subst}
use Rattle.c_tree.specs.declared.breach.Breach.{Breach}
use Rattle.c_tree.specs.declared.breach.Broken.{Broken}
use Rattle.c_tree.specs.declared.breach.Broken.TheVariants.{Mismatch, NotAPlace, NotConstant, Unknown, Arguments, Twice, Marker, NoMain, TooManyParameters}
use Rattle.c_tree.specs.declared.breach.Least.{Least}
use Rattle.c_tree.specs.Breach.{least_of}
use Rattle.c_tree.proofs.ConstantLemmas.{is_not_constant}
use Rattle.c_tree.proofs.LeastBreach.{HasEach, Has, least_has, least_none}

-- what all breaches have, the least has
pub of_each : (p : Broken → Bool) (start least : Least) (bs : List Breach) (b : Breach)
    → start.found ≡ None → least ≡ least_of start bs → HasEach p bs → least.found ≡ Some b
    → p b.kind ≡ true
of_each p start least bs b n e h s =
    let first : Has p start.found = subst (Has p) (sym n) tt in
    let all : Has p (least_of start bs).found = least_has p start bs first h in
    subst (Has p) s (subst (λ (l : Least). Has p l.found) (sym e) all)

-- where none was found there is none
pub of_none : (start least : Least) (bs : List Breach) → least ≡ least_of start bs
    → least.found ≡ None → bs ≡ []
of_none start least bs e n = least_none start bs (ap (λ l. l.found) (sym e) ∙ n)

pub not_constant : (kind : Broken) → is_not_constant kind ≡ true → kind ≡ NotConstant
not_constant NotConstant h = refl
not_constant Mismatch h = cc
not_constant NotAPlace h = cc
not_constant Unknown h = cc
not_constant Arguments h = cc
not_constant Twice h = cc
not_constant Marker h = cc
not_constant NoMain h = cc
not_constant TooManyParameters h = cc
