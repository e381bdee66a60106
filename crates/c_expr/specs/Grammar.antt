-- The grammar of expressions: which tokens, each with its level, spell which tree (C11 6.5). One constructor for each alternative.
-- The first number of each family is the level that what is open outside adds to each token.
use Rattle.std.specs.Prelude.{◌≡◌, ℕ, zero, suc, ◌+◌, List, [], ◌∷◌, ◌++◌, Option, Some}
use Rattle.c_tree.specs.declared.ctype.CType.{CType}
use Rattle.c_tree.specs.declared.operator.Binary.{Binary}
use Rattle.c_tree.specs.declared.operator.Step.{Step}
use Rattle.c_tree.specs.declared.operator.Unary.{Unary}
use Rattle.c_tree.specs.declared.place.Place.{Place}
use Rattle.c_tree.specs.declared.tree.Callee.{Callee}
use Rattle.c_tree.specs.declared.tree.Callee.TheVariants as c
use Rattle.c_tree.specs.Ty.{Ty}
use Rattle.c_tree.specs.Ty as the_ty
use Rattle.c_tree.specs.Expr.{Expr}
use Rattle.c_tree.specs.Expr as expr
use Rattle.c_tree.specs.View.{ty_of, exprs_list}
use Rattle.c_token.specs.declared.token.Kind.{Kind}
use Rattle.c_token.specs.declared.token.Kind.TheVariants as k
use Rattle.c_expr.specs.Leveled.{Leveled, at}
use Rattle.c_expr.specs.Spelled.{assign_op, binary_op, rank, lor, unary_op, first_step, last_step, builtin, plain_base}
use Rattle.c_expr.specs.declared.punctuator.TheConstants.{PARENTHESIS_OPEN, PARENTHESIS_CLOSE, BRACKET_OPEN, BRACKET_CLOSE, COMMA, QUESTION, COLON}
use Rattle.c_expr.specs.declared.keyword.TheConstants.{INT, CHAR, UNSIGNED, END_OF_FILE}

-- base (C11 6.7.2); the type `unsigned char` is `char`
pub data IsBase : ℕ → List Leveled → Ty → Type 0 where
  plain : {l : ℕ} {kind : Kind} {p : Place} {to : Ty} → plain_base kind ≡ Some to
      → IsBase l (at l kind p ∷ []) to
  unsigned : {l : ℕ} {p : Place}
      → IsBase l (at l (k.Reserved UNSIGNED.now) p ∷ []) the_ty.Unsigned
  unsigned_int : {l : ℕ} {p q : Place}
      → IsBase l (at l (k.Reserved UNSIGNED.now) p
      ∷ (at l (k.Reserved INT.now) q ∷ [])) the_ty.Unsigned
  unsigned_char : {l : ℕ} {p q : Place}
      → IsBase l (at l (k.Reserved UNSIGNED.now) p
      ∷ (at l (k.Reserved CHAR.now) q ∷ [])) the_ty.Char

mutual
  -- assign (C11 6.5.16)
  pub data IsAssign : ℕ → List Leveled → Expr → Type 0 where
    cond : {l : ℕ} {a : List Leveled} {x : Expr} → IsCond (suc l) a x → IsAssign l a x
    assign : {l : ℕ} {p : Place} {how : Option Binary} {a b : List Leveled} {x y : Expr}
        (kind : Kind)
        → IsCond (suc l) a x → assign_op kind ≡ Some how → IsAssign (suc l) b y
        → IsAssign l (a ++ at (suc l) kind p ∷ b) (expr.Assign how x y p)

  -- cond (C11 6.5.15)
  pub data IsCond : ℕ → List Leveled → Expr → Type 0 where
    binary : {l : ℕ} {a : List Leveled} {x : Expr} → IsBinary lor (suc l) a x → IsCond l a x
    conditional : {l : ℕ} {p : Place} {a b c : List Leveled} {x y z : Expr} (q : Place)
        → IsBinary lor (suc l) a x → IsAssign (suc l) b y → IsCond (suc l) c z
        → IsCond l (a ++ at (suc l) (k.Sign QUESTION) p
        ∷ (b ++ at (suc l) (k.Sign COLON) q ∷ c)) (expr.Conditional x y z p)

  -- lor to mul (C11 6.5.5 to 6.5.14): operands joined by operators of the rule of this rank, or of a tighter one
  pub data IsBinary : ℕ → ℕ → List Leveled → Expr → Type 0 where
    unary : {l : ℕ} {a : List Leveled} {x : Expr} → IsUnary l a x → IsBinary zero l a x
    chain : {r l n : ℕ} {a : List Leveled} {x : Expr} → IsChain r l n a x → IsBinary (suc r) l a x

  -- An iteration, which groups to the left. The third number is that of its operators so far, each of which adds a level to what follows.
  pub data IsChain : ℕ → ℕ → ℕ → List Leveled → Expr → Type 0 where
    first : {r l : ℕ} {a : List Leveled} {x : Expr} → IsBinary r l a x → IsChain r l zero a x
    next : {r l n : ℕ} {p : Place} {o : Binary} {a b : List Leveled} {x y : Expr} (kind : Kind)
        → IsChain r l n a x → binary_op kind ≡ Some o → rank o ≡ suc r
        → IsBinary r (suc (l + n)) b y
        → IsChain r l (suc n) (a ++ at (l + n) kind p ∷ b) (expr.Binary o x y p)

  -- unary (C11 6.5.3 and 6.5.4)
  pub data IsUnary : ℕ → List Leveled → Expr → Type 0 where
    prefix : {l : ℕ} {p : Place} {kind : Kind} {o : Unary} {a : List Leveled} {x : Expr}
        → unary_op kind ≡ Some o → IsUnary (suc l) a x
        → IsUnary l (at (suc l) kind p ∷ a) (expr.Unary o x p)
    step : {l : ℕ} {p : Place} {kind : Kind} {how : Step} {a : List Leveled} {x : Expr}
        → first_step kind ≡ Some how → IsUnary (suc l) a x
        → IsUnary l (at (suc l) kind p ∷ a) (expr.Step how x p)
    cast : {l : ℕ} {p : Place} {a b : List Leveled} {to : Ty} {x : Expr} (q : Place)
        → IsBase (suc l) a to → IsUnary (suc l) b x
        → IsUnary l (at (suc l) (k.Sign PARENTHESIS_OPEN) p
        ∷ (a ++ at (suc l) (k.Sign PARENTHESIS_CLOSE) q ∷ b))
        (expr.Cast to x p)
    postfix : {l n : ℕ} {a : List Leveled} {x : Expr} → IsPostfix (suc l) n a x → IsUnary l a x

  -- postfix (C11 6.5.2). The second number is that of the suffixes so far, each of which adds a level to what follows it.
  pub data IsPostfix : ℕ → ℕ → List Leveled → Expr → Type 0 where
    primary : {l : ℕ} {a : List Leveled} {x : Expr} → IsPrimary l a x → IsPostfix l zero a x
    index : {l n : ℕ} {p : Place} {a b : List Leveled} {x y : Expr} (q : Place) → IsPostfix l n a x
        → IsAssign (l + n) b y
        → IsPostfix l (suc n) (a ++ at (l + n) (k.Sign BRACKET_OPEN) p
        ∷ (b ++ at (l + n) (k.Sign BRACKET_CLOSE) q ∷ [])) (expr.Index x y p)
    step_last : {l n : ℕ} {p : Place} {how : Step} {a : List Leveled} {x : Expr} (kind : Kind)
        → IsPostfix l n a x → last_step kind ≡ Some how
        → IsPostfix l (suc n) (a ++ at (l + n) kind p ∷ []) (expr.Step how x p)

  -- primary (C11 6.5.1 and 6.5.2.2)
  pub data IsPrimary : ℕ → List Leveled → Expr → Type 0 where
    call : {l : ℕ} {p : Place} {kind : Kind} {callee : Callee} {a : List Leveled} {xs : List Expr}
        (q r : Place)
        → IsCallee kind callee → IsArguments l a xs
        → IsPrimary l (at l kind p
        ∷ (at l (k.Sign PARENTHESIS_OPEN) q ∷ (a ++ at l (k.Sign PARENTHESIS_CLOSE) r ∷ [])))
        (expr.Call callee (exprs_list xs) p)
    name : {l : ℕ} {p : Place} {n : List ℕ} → IsPrimary l (at l (k.Name n) p ∷ []) (expr.Name n p)
    eof : {l : ℕ} {p : Place} → IsPrimary l (at l (k.Reserved END_OF_FILE.now) p ∷ []) (expr.Eof p)
    number : {l v : ℕ} {ty : CType} {p : Place}
        → IsPrimary l (at l (k.Number ty v) p ∷ []) (expr.Number (ty_of ty) v p)
    character : {l v : ℕ} {p : Place}
        → IsPrimary l (at l (k.Character v) p ∷ []) (expr.Character v p)
    parens : {l : ℕ} {a : List Leveled} {x : Expr} (p q : Place) → IsAssign l a x
        → IsPrimary l (at l (k.Sign PARENTHESIS_OPEN) p
        ∷ (a ++ at l (k.Sign PARENTHESIS_CLOSE) q ∷ [])) x

  -- callee
  pub data IsCallee : Kind → Callee → Type 0 where
    named : {n : List ℕ} → IsCallee (k.Name n) (c.Name n)
    built_in : {kind : Kind} {callee : Callee} → builtin kind ≡ Some callee → IsCallee kind callee

  -- the arguments of a call
  pub data IsArguments : ℕ → List Leveled → List Expr → Type 0 where
    none : {l : ℕ} → IsArguments l [] []
    some : {l : ℕ} {a : List Leveled} {xs : List Expr} → IsListed l a xs → IsArguments l a xs

  -- one expression or more, with commas between them
  pub data IsListed : ℕ → List Leveled → List Expr → Type 0 where
    one : {l : ℕ} {a : List Leveled} {x : Expr} → IsAssign l a x → IsListed l a (x ∷ [])
    more : {l : ℕ} {a b : List Leveled} {x : Expr} {xs : List Expr} (p : Place) → IsAssign l a x
        → IsListed l b xs
        → IsListed l (a ++ at l (k.Sign COMMA) p ∷ b) (x ∷ xs)
