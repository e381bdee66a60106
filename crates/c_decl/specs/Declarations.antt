-- The grammar of declarations: which tokens, each with its level, spell which declarators and parameters (C11 6.7). One constructor for each alternative.
-- The first number of each family is the level that what is open outside adds to each token.
use Rattle.std.specs.Prelude.{ℕ, zero, suc, ◌+◌, List, [], ◌∷◌, ◌++◌, true, false, Option, Some, None}
use Rattle.c_tree.specs.declared.place.Place.{Place}
use Rattle.c_tree.specs.Ty.{Ty}
use Rattle.c_tree.specs.Expr.{Expr}
use Rattle.c_tree.specs.Init.{Init}
use Rattle.c_tree.specs.Init as initial
use Rattle.c_tree.specs.Var.{Var}
use Rattle.c_tree.specs.Fun.{Param}
use Rattle.c_tree.specs.View.{exprs_list}
use Rattle.c_token.specs.declared.token.Kind.TheVariants as k
use Rattle.c_expr.specs.Leveled.{Leveled, at}
use Rattle.c_expr.specs.Grammar.{IsBase, IsAssign, IsCond, IsListed}
use Rattle.c_decl.specs.GrammarWords.{word}
use Rattle.c_expr.specs.declared.punctuator.TheConstants.{BRACKET_OPEN, BRACKET_CLOSE, BRACE_OPEN, BRACE_CLOSE, COMMA, EQUALS, STAR}
use Rattle.c_decl.specs.declared.reserved.TheConstants.{VOID}

-- Stars before a name (C11 6.7.6.1). The second number is that of the stars, each of which adds a level to what follows.
pub data IsStars : ℕ → ℕ → List Leveled → Type 0 where
  none : {l : ℕ} → IsStars l zero []
  more : {l n : ℕ} {a : List Leveled} (p : Place) → IsStars l n a
      → IsStars l (suc n) (a ++ at (l + n) (k.Sign STAR) p ∷ [])

-- Sizes of arrays behind a name (C11 6.7.6.2). The second number is that of the brackets, each of which adds a level to what follows its `[`.
pub data IsSizes : ℕ → ℕ → List Leveled → List Expr → Type 0 where
  none : {l : ℕ} → IsSizes l zero [] []
  more : {l n : ℕ} {a b : List Leveled} {xs : List Expr} {x : Expr} (p q : Place)
      → IsSizes l n a xs → IsCond (suc (l + n)) b x
      → IsSizes l (suc n) (a ++ at (l + n) (k.Sign BRACKET_OPEN) p
      ∷ (b ++ at (suc (l + n)) (k.Sign BRACKET_CLOSE) q ∷ [])) (xs ++ x ∷ [])

-- init (C11 6.7.9); a list may end in a comma
pub data IsInit : ℕ → List Leveled → Init → Type 0 where
  value : {l : ℕ} {a : List Leveled} {x : Expr} → IsAssign l a x → IsInit l a (initial.One x)
  values : {l : ℕ} {a : List Leveled} {xs : List Expr} (p q : Place) → IsListed l a xs
      → IsInit l (at l (k.Sign BRACE_OPEN) p ∷ (a ++ at l (k.Sign BRACE_CLOSE) q ∷ []))
      (initial.Many (exprs_list xs))
  values_and_comma : {l : ℕ} {a : List Leveled} {xs : List Expr} (p q r : Place) → IsListed l a xs
      → IsInit l (at l (k.Sign BRACE_OPEN) p
      ∷ (a ++ at l (k.Sign COMMA) q ∷ (at l (k.Sign BRACE_CLOSE) r ∷ [])))
      (initial.Many (exprs_list xs))

-- a variable of these parts
abbrev pub variable : Ty → ℕ → List ℕ → Place → List Expr → Option Init → Var
variable base stars name place sizes init = record {
  base = base;
  stars = stars;
  name = name;
  place = place;
  sizes = exprs_list sizes;
  init = init;
}

-- decl (C11 6.7.6), after a base; its place is that of the name
pub data IsDecl : ℕ → Ty → List Leveled → Var → Type 0 where
  plain : {l n m : ℕ} {base : Ty} {a b : List Leveled} {xs : List Expr} {name : List ℕ} (p : Place)
      → IsStars l n a → IsSizes (l + n) m b xs
      → IsDecl l base (a ++ at (l + n) (k.Name name) p ∷ b)
      (variable base n name p xs None)
  initialised : {l n m : ℕ} {base : Ty} {a b c : List Leveled} {xs : List Expr} {name : List ℕ}
      {i : Init} (p q : Place)
      → IsStars l n a → IsSizes (l + n) m b xs → IsInit (l + n + m) c i
      → IsDecl l base (a ++ at (l + n) (k.Name name) p
      ∷ (b ++ at (l + n + m) (k.Sign EQUALS) q ∷ c))
      (variable base n name p xs (Some i))

-- one declarator or more, with commas between them
pub data IsDecls : ℕ → Ty → List Leveled → List Var → Type 0 where
  one : {l : ℕ} {base : Ty} {a : List Leveled} {d : Var} → IsDecl l base a d
      → IsDecls l base a (d ∷ [])
  more : {l : ℕ} {base : Ty} {a b : List Leveled} {d : Var} {ds : List Var} (p : Place)
      → IsDecl l base a d → IsDecls l base b ds
      → IsDecls l base (a ++ at l (k.Sign COMMA) p ∷ b) (d ∷ ds)

-- vars (C11 6.7)
pub data IsVars : ℕ → List Leveled → List Var → Type 0 where
  vars : {l : ℕ} {base : Ty} {a b : List Leveled} {ds : List Var} → IsBase l a base
      → IsDecls l base b ds → IsVars l (a ++ b) ds

-- param (C11 6.7.6.3); its place is that of the name, or of its first token where it has none
pub data IsParam : ℕ → List Leveled → Param → Type 0 where
  unnamed : {l n : ℕ} {base : Ty} {first : Leveled} {a b : List Leveled}
      → IsBase l (first ∷ a) base → IsStars l n b
      → IsParam l (first ∷ (a ++ b))
      (record { base = base; stars = n; name = None; place = first.token.place; array = false })
  unnamed_array : {l n : ℕ} {base : Ty} {first : Leveled} {a b : List Leveled} (p q : Place)
      → IsBase l (first ∷ a) base → IsStars l n b
      → IsParam l (first ∷ (a ++
      (b ++ at (l + n) (k.Sign BRACKET_OPEN) p ∷ (at (suc (l + n)) (k.Sign BRACKET_CLOSE) q ∷ []))))
      (record { base = base; stars = n; name = None; place = first.token.place; array = true })
  named : {l n : ℕ} {base : Ty} {a b : List Leveled} {name : List ℕ} (p : Place) → IsBase l a base
      → IsStars l n b
      → IsParam l (a ++ (b ++ at (l + n) (k.Name name) p ∷ []))
      (record { base = base; stars = n; name = Some name; place = p; array = false })
  named_array : {l n : ℕ} {base : Ty} {a b : List Leveled} {name : List ℕ} (p q r : Place)
      → IsBase l a base → IsStars l n b
      → IsParam l (a ++ (b ++ at (l + n) (k.Name name) p
      ∷ (at (l + n) (k.Sign BRACKET_OPEN) q ∷ (at (suc (l + n)) (k.Sign BRACKET_CLOSE) r ∷ []))))
      (record { base = base; stars = n; name = Some name; place = p; array = true })

-- one parameter or more, with commas between them
pub data IsParamList : ℕ → List Leveled → List Param → Type 0 where
  one : {l : ℕ} {a : List Leveled} {x : Param} → IsParam l a x → IsParamList l a (x ∷ [])
  more : {l : ℕ} {a b : List Leveled} {x : Param} {xs : List Param} (p : Place) → IsParam l a x
      → IsParamList l b xs
      → IsParamList l (a ++ at l (k.Sign COMMA) p ∷ b) (x ∷ xs)

-- params (C11 6.7.6.3)
pub data IsParams : ℕ → List Leveled → List Param → Type 0 where
  nothing : {l : ℕ} → IsParams l [] []
  void : {l : ℕ} (p : Place) → IsParams l (at l (word VOID.now) p ∷ []) []
  some : {l : ℕ} {a : List Leveled} {xs : List Param} → IsParamList l a xs → IsParams l a xs
