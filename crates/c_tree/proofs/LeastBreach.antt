-- The least of some breaches.
use Rattle.std.proofs.Common.{◌≡◌, Bool, true, false, List, [], ◌∷◌, ◌++◌, Option, Some, None, is_some, if◌then◌else◌, refl, ap}
use Rattle.c_tree.specs.declared.breach.Breach.{Breach}
use Rattle.c_tree.specs.declared.breach.Broken.{Broken}
use Rattle.c_tree.specs.declared.breach.Least.{Least}
use Rattle.c_tree.specs.declared.breach.Ranking.{Ranking}
use Rattle.c_tree.specs.Breach.{is_before, nearer, lesser, least_of}

pub least-append : (least : Least) (xs ys : List Breach)
    → least_of least (xs ++ ys) ≡ least_of (least_of least xs) ys
least-append least [] ys = refl
least-append least (x ∷ xs) ys = least-append (lesser least x) xs ys

pub ruleset append_rules = (least-append)

nearer_some : (by : Ranking) (found : Option Breach) (b : Breach)
    → is_some (nearer by found b) ≡ true
nearer_some by None b = refl
nearer_some by (Some a) b = go (is_before by b a)
  where
    go : (t : Bool) → is_some (if t then Some b else Some a) ≡ true
    go true = refl
    go false = refl

least_some : (least : Least) (bs : List Breach) → is_some least.found ≡ true
    → is_some (least_of least bs).found ≡ true
least_some least [] h = h
least_some least (b ∷ bs) h = least_some (lesser least b) bs (nearer_some least.by least.found b)

-- where none was found there is none
pub least_none : (least : Least) (bs : List Breach) → (least_of least bs).found ≡ None → bs ≡ []
least_none least [] h = refl
least_none least (b ∷ bs) h =
    let s : is_some (least_of (lesser least b) bs).found ≡ true = least_some (lesser least b) bs (nearer_some least.by least.found b) in
    let n : is_some (least_of (lesser least b) bs).found ≡ false = ap is_some h in
    cc

-- a property that the found one and all others have, the least has
abbrev pub HasEach : (Broken → Bool) → List Breach → Type 0
HasEach p [] = Unit {0}
HasEach p (b ∷ bs) = (p b.kind ≡ true) × HasEach p bs

abbrev pub Has : (Broken → Bool) → Option Breach → Type 0
Has p None = Unit {0}
Has p (Some b) = p b.kind ≡ true

nearer_has : (p : Broken → Bool) (by : Ranking) (found : Option Breach) (b : Breach) → Has p found
    → p b.kind ≡ true → Has p (nearer by found b)
nearer_has p by None b h k = k
nearer_has p by (Some a) b h k = go (is_before by b a)
  where
    go : (t : Bool) → Has p (if t then Some b else Some a)
    go true = k
    go false = h

pub least_has : (p : Broken → Bool) (least : Least) (bs : List Breach) → Has p least.found
    → HasEach p bs → Has p (least_of least bs).found
least_has p least [] h k = h
least_has p least (b ∷ bs) h k = least_has p (lesser least b) bs (nearer_has p least.by least.found b h k.0) k.1
