-- What makes the labels of functions differ: that no function is defined twice.
use Rattle.std.specs.Prelude.{◌≡◌, false, List, [], ◌∷◌, IfSome}
use Rattle.c_tree.specs.Accepted.{is_defined}
use Rattle.c_tree.specs.Item.{Item}
use Rattle.c_tree.specs.Item as item

-- no name of a function that is defined is defined again
abbrev pub AreDefinedOnce : List Item → Type 0
AreDefinedOnce [] = Unit {0}
AreDefinedOnce (item.Vars keep ds ∷ rest) = AreDefinedOnce rest
AreDefinedOnce (item.Fun f ∷ rest) =
    IfSome f.body (λ body. is_defined rest f.name ≡ false) × AreDefinedOnce rest
