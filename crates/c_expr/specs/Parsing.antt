-- What a parser answers for a rule of the grammar. A rule says which tokens spell which tree.
use Rattle.std.specs.Prelude.{◌≡◌, ℕ, ◌<◌, ◌≤◌, List, [], ◌∷◌, ◌++◌, length, drop, Result, Ok, Err}
use Rattle.c_tree.specs.declared.place.Place.{Place}
use Rattle.c_tree.specs.declared.tree.Expr.{Expr as ExprTree}
use Rattle.c_tree.specs.Expr.{Expr}
use Rattle.c_tree.specs.View.{expr_of}
use Rattle.c_token.specs.declared.token.Kind.TheVariants as k
use Rattle.c_token.specs.declared.token.Token.{Token}
use Rattle.c_expr.specs.declared.level.TheConstants.{LEVELS}
use Rattle.c_expr.specs.declared.fault.ParseFault.{ParseFault}
use Rattle.c_expr.specs.declared.fault.ParseFault.TheVariants.{Unexpected, TooDeep, OutOfMemory}
use Rattle.c_expr.specs.Leveled.{Leveled, tokens_of, AreBelow}

-- The tokens begin a list that the rule has.
pub record Begins {X : Type 0} (P : List Leveled → X → Type 0) (ts : List Token) : Type 0 where
  pub all : List Leveled
  pub tree : X
  pub spelled : P all tree
  pub more : List Token
  pub splits : tokens_of all ≡ ts ++ more

-- With the next token they begin none.
abbrev pub GoesNoFurther : {X : Type 0} → (List Leveled → X → Type 0) → List Leveled → List Token
    → Type 0
GoesNoFurther P read [] = Unit {0}
GoesNoFurther P read (next ∷ rest) = Begins P (tokens_of read ++ next ∷ []) → ⊥

-- The tokens up to the rest spell the tree, and no level in them is above 200.
pub record IsRead {X : Type 0} (P : List Leveled → X → Type 0) (ts : List Token) (tree : X)
    (rest : List Token) : Type 0 where
  pub read : List Leveled
  pub splits : ts ≡ tokens_of read ++ rest
  pub spelled : P read tree
  pub low : AreBelow LEVELS read
  pub no_further : GoesNoFurther P read rest

-- The tokens before this one begin a list of the rule, and with it they begin none.
pub record IsOutOfPlace {X : Type 0} (P : List Leveled → X → Type 0) (ts : List Token)
    (place : Place) : Type 0 where
  pub read : List Leveled
  pub next : Token
  pub rest : List Token
  pub splits : ts ≡ tokens_of read ++ next ∷ rest
  pub is_at : place ≡ next.place
  pub low : AreBelow LEVELS read
  pub more : List Leveled
  pub tree : X
  pub begins : P (read ++ more) tree
  pub no_further : GoesNoFurther P read (next ∷ rest)

-- The same, and the tokens before it are no list of the rule.
pub record IsUnexpected {X : Type 0} (P : List Leveled → X → Type 0) (ts : List Token)
    (place : Place) : Type 0 where
  pub stop : IsOutOfPlace P ts place
  pub unfinished : (all : List Leveled) (tree : X) → P all tree
      → tokens_of all ≡ tokens_of stop.read → ⊥

-- The tokens up to and with this one begin a list of the rule, in which it is the first whose level is above 200.
pub record IsTooDeep {X : Type 0} (P : List Leveled → X → Type 0) (ts : List Token)
    (place : Place) : Type 0 where
  pub read : List Leveled
  pub deep : Leveled
  pub rest : List Token
  pub splits : ts ≡ tokens_of read ++ deep.token ∷ rest
  pub is_at : place ≡ deep.token.place
  pub low : AreBelow LEVELS read
  pub is_deep : LEVELS ≤ deep.level
  pub more : List Leveled
  pub tree : X
  pub begins : P (read ++ deep ∷ more) tree

abbrev pub Parsed : {X : Type 0} → (List Leveled → X → Type 0) → List Token
    → Result (X × List Token) ParseFault → Type 0
Parsed P ts (Ok x) = IsRead P ts x.0 x.1
Parsed P ts (Err (Unexpected place)) = IsUnexpected P ts place
Parsed P ts (Err (TooDeep place)) = IsTooDeep P ts place
Parsed P ts (Err OutOfMemory) = Unit {0}

-- the same answer, where memory did not run out
abbrev pub Agrees : {X : Type 0} → Result X ParseFault → Result X ParseFault → Type 0
Agrees (Err OutOfMemory) other = Unit {0}
Agrees (Ok x) (Err OutOfMemory) = Unit {0}
Agrees (Err (Unexpected place)) (Err OutOfMemory) = Unit {0}
Agrees (Err (TooDeep place)) (Err OutOfMemory) = Unit {0}
Agrees one other = one ≡ other

-- The same of the tokens from a place on, with the place behind what was read. Want of memory may come at any time.
abbrev pub ParsedAt : (List Leveled → Expr → Type 0) → List Token → ℕ
    → Result (ExprTree × ℕ) ParseFault → Type 0
ParsedAt P tokens at (Ok x) =
    (x.1 < length tokens) × IsRead P (drop at tokens) (expr_of x.0) (drop x.1 tokens)
ParsedAt P tokens at (Err e) = Parsed P (drop at tokens) (Err e)

-- The last token is the end of the text.
pub record IsEnded (tokens : List Token) : Type 0 where
  pub before : List Token
  pub place : Place
  pub ended : tokens ≡ before ++ record { kind = k.End; place = place } ∷ []
