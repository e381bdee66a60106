-- The grammar of whole texts: which tokens, each with its level, spell which items (C11 6.9). One constructor for each alternative.
-- The first number of a family is the level that what is open outside adds to each token.
use Rattle.std.specs.Prelude.{◌≡◌, ℕ, zero, ◌+◌, List, [], ◌∷◌, ◌++◌, Option, Some, None, option_map}
use Rattle.c_tree.specs.declared.operator.Keep.{Keep}
use Rattle.c_tree.specs.declared.operator.Keep.TheVariants as keep
use Rattle.c_tree.specs.declared.place.Place.{Place}
use Rattle.c_tree.specs.Ty.{Ty}
use Rattle.c_tree.specs.Ty as ty
use Rattle.c_tree.specs.Var.{Var}
use Rattle.c_tree.specs.Stmt.{Stmt}
use Rattle.c_tree.specs.Fun.{Param}
use Rattle.c_tree.specs.Item.{Item}
use Rattle.c_tree.specs.Item as item
use Rattle.c_tree.specs.View.{stmts_list}
use Rattle.c_token.specs.declared.token.Kind.{Kind}
use Rattle.c_token.specs.declared.token.Kind.TheVariants as k
use Rattle.c_expr.specs.Leveled.{Leveled, at}
use Rattle.c_expr.specs.Grammar.{IsBase}
use Rattle.c_decl.specs.GrammarWords.{word, keep_of}
use Rattle.c_decl.specs.Declarations.{IsStars, IsVars, IsParams}
use Rattle.c_decl.specs.StatementGrammar.{IsBlock}
use Rattle.c_expr.specs.declared.punctuator.TheConstants.{PARENTHESIS_OPEN, PARENTHESIS_CLOSE, SEMICOLON}
use Rattle.c_decl.specs.declared.reserved.TheConstants.{VOID}

-- What a function's result begins with, and its stars. They count in the whole item, also in the function's body.
pub data IsResult : ℕ → ℕ → List Leveled → Ty → Type 0 where
  typed : {l n : ℕ} {a b : List Leveled} {base : Ty} → IsBase l a base → IsStars l n b
      → IsResult l n (a ++ b) base
  void : {l : ℕ} (p : Place) → IsResult l zero (at l (word VOID.now) p ∷ []) ty.Void

-- a function of these parts
abbrev pub function_item : Ty → ℕ → List ℕ → Place → List Param → Option (List Stmt) → Item
function_item base stars name place parameters body = item.Fun (record {
  base = base;
  stars = stars;
  name = name;
  place = place;
  parameters = parameters;
  body = option_map stmts_list body;
})

-- item (C11 6.9); the place of a function is that of its name
pub data IsItem : ℕ → List Leveled → Item → Type 0 where
  vars : {l : ℕ} {a : List Leveled} {ds : List Var} (p : Place) → IsVars l a ds
      → IsItem l (a ++ at l (k.Sign SEMICOLON) p ∷ []) (item.Vars keep.Shared ds)
  kept : {l : ℕ} {a : List Leveled} {ds : List Var} {kind : Kind} {how : Keep} (p q : Place)
      → keep_of kind ≡ Some how → IsVars l a ds
      → IsItem l (at l kind p ∷ (a ++ at l (k.Sign SEMICOLON) q ∷ [])) (item.Vars how ds)
  declared : {l n : ℕ} {a b : List Leveled} {base : Ty} {name : List ℕ} {xs : List Param}
      (p q r s : Place) → IsResult l n a base → IsParams (l + n) b xs
      → IsItem l (a ++ at (l + n) (k.Name name) p
      ∷ (at (l + n) (k.Sign PARENTHESIS_OPEN) q
      ∷ (b ++ at (l + n) (k.Sign PARENTHESIS_CLOSE) r ∷ (at (l + n) (k.Sign SEMICOLON) s ∷ []))))
      (function_item base n name p xs None)
  defined : {l n : ℕ} {a b c : List Leveled} {base : Ty} {name : List ℕ} {xs : List Param}
      {ss : List Stmt} (p q r : Place)
      → IsResult l n a base → IsParams (l + n) b xs → IsBlock (l + n) c ss
      → IsItem l (a ++ at (l + n) (k.Name name) p
      ∷ (at (l + n) (k.Sign PARENTHESIS_OPEN) q
      ∷ (b ++ at (l + n) (k.Sign PARENTHESIS_CLOSE) r ∷ c)))
      (function_item base n name p xs (Some ss))

-- items, one behind the other
pub data IsItems : ℕ → List Leveled → List Item → Type 0 where
  none : {l : ℕ} → IsItems l [] []
  more : {l : ℕ} {a b : List Leveled} {x : Item} {xs : List Item} → IsItem l a x → IsItems l b xs
      → IsItems l (a ++ b) (x ∷ xs)

-- unit (C11 6.9)
pub data IsUnit : List Leveled → List Item → Type 0 where
  unit : {a : List Leveled} {xs : List Item} (p : Place) → IsItems zero a xs
      → IsUnit (a ++ at zero k.End p ∷ []) xs
