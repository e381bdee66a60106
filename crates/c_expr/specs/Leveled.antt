-- Tokens with their levels. A token's level is the number of rules `stmt`, `assign`, `cond` and `unary` that are open at it, and of operators, suffixes,
-- stars and brackets that were read before in the iterations and declarators that are open at it.
use Rattle.std.specs.Prelude.{ℕ, ◌<◌, List, [], ◌∷◌}
use Rattle.c_tree.specs.declared.place.Place.{Place}
use Rattle.c_token.specs.declared.token.Kind.{Kind}
use Rattle.c_token.specs.declared.token.Token.{Token}

pub record Leveled : Type 0 where
  pub token : Token
  pub level : ℕ

abbrev pub at : ℕ → Kind → Place → Leveled
at level kind place = record { token = record { kind = kind; place = place }; level = level }

abbrev pub tokens_of : List Leveled → List Token
tokens_of [] = []
tokens_of (x ∷ xs) = x.token ∷ tokens_of xs

abbrev pub AreBelow : ℕ → List Leveled → Type 0
AreBelow limit [] = Unit {0}
AreBelow limit (x ∷ xs) = (x.level < limit) × AreBelow limit xs
