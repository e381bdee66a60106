-- The grammar of statements: which tokens, each with its level, spell which statement (C11 6.8). One constructor for each alternative.
-- The number of each family is the level that what is open outside adds to each token.
use Rattle.std.specs.Prelude.{◌≡◌, ℕ, suc, List, [], ◌∷◌, ◌++◌, Bool, true, false, Option, Some, None}
use Rattle.c_tree.specs.declared.ctype.CType.{CType}
use Rattle.c_tree.specs.declared.place.Place.{Place}
use Rattle.c_tree.specs.declared.tree.Count.{Count}
use Rattle.c_tree.specs.declared.tree.Count.TheVariants as count
use Rattle.c_tree.specs.declared.tree.Marker.{Marker}
use Rattle.c_tree.specs.declared.tree.Marker.TheVariants as m
use Rattle.c_tree.specs.Expr.{Expr}
use Rattle.c_tree.specs.Var.{Var}
use Rattle.c_tree.specs.First.{First}
use Rattle.c_tree.specs.First as for_first
use Rattle.c_tree.specs.Stmt.{Stmt}
use Rattle.c_tree.specs.Stmt as the_stmt
use Rattle.c_tree.specs.View.{stmts_list}
use Rattle.c_token.specs.declared.token.Kind.{Kind}
use Rattle.c_token.specs.declared.token.Kind.TheVariants as k
use Rattle.c_expr.specs.Leveled.{Leveled, at}
use Rattle.c_expr.specs.Grammar.{IsAssign}
use Rattle.c_decl.specs.GrammarWords.{word, marker_of}
use Rattle.c_decl.specs.Declarations.{IsVars}
use Rattle.c_expr.specs.declared.punctuator.TheConstants.{PARENTHESIS_OPEN, PARENTHESIS_CLOSE, BRACE_OPEN, BRACE_CLOSE, COMMA, SEMICOLON}
use Rattle.c_decl.specs.declared.reserved.TheConstants.{IF, ELSE, WHILE, DO, FOR, RETURN, BREAK, CONTINUE, POST}

-- how many bytes a post sends
pub data IsCount : ℕ → List Leveled → Count → Type 0 where
  number : {l v : ℕ} {ty : CType} (p : Place)
      → IsCount l (at l (k.Number ty v) p ∷ []) (count.Number v)
  name : {l : ℕ} {n : List ℕ} (p : Place) → IsCount l (at l (k.Name n) p ∷ []) (count.Name n p)

-- marker
pub data IsMarker : ℕ → List Leveled → Marker → Type 0 where
  numbered : {l v : ℕ} {kind : Kind} {ty : CType} {mark : ℕ → Marker} (p q r s t : Place)
      → marker_of kind ≡ Some mark
      → IsMarker l (at l kind p
      ∷ (at l (k.Sign PARENTHESIS_OPEN) q
      ∷ (at l (k.Number ty v) r
      ∷ (at l (k.Sign PARENTHESIS_CLOSE) s ∷ (at l (k.Sign SEMICOLON) t ∷ []))))) (mark v)
  post : {l v : ℕ} {ty : CType} {n : List ℕ} {c : Count} {a : List Leveled}
      (p q r s t u x y : Place) → IsCount l a c
      → IsMarker l
      (at l (word POST.now) p
      ∷ (at l (k.Sign PARENTHESIS_OPEN) q
      ∷ (at l (k.Number ty v) r
      ∷ (at l (k.Sign COMMA) s ∷ (at l (k.Name n) t ∷ (at l (k.Sign COMMA) u
      ∷ (a ++ at l (k.Sign PARENTHESIS_CLOSE) x ∷ (at l (k.Sign SEMICOLON) y ∷ []))))))))
      (m.Post v n t c)

-- an expression, or none
pub data IsOptional : ℕ → List Leveled → Option Expr → Type 0 where
  none : {l : ℕ} → IsOptional l [] None
  some : {l : ℕ} {a : List Leveled} {x : Expr} → IsAssign l a x → IsOptional l a (Some x)

-- what a `for` begins with
pub data IsBeginning : ℕ → List Leveled → First → Type 0 where
  nothing : {l : ℕ} → IsBeginning l [] for_first.Nothing
  vars : {l : ℕ} {a : List Leveled} {ds : List Var} → IsVars l a ds
      → IsBeginning l a (for_first.Vars ds)
  assign : {l : ℕ} {a : List Leveled} {x : Expr} → IsAssign l a x
      → IsBeginning l a (for_first.Expr x)

mutual
  -- stmt (C11 6.8); its place is that of its first token. The test says whether it ends in an `if` without `else`: then no `else` follows it,
  -- so that an `else` belongs to the nearest `if` (C11 6.8.4.1).
  pub data IsStatement : Bool → ℕ → List Leveled → Stmt → Type 0 where
    block : {l : ℕ} {first : Leveled} {a : List Leveled} {ss : List Stmt}
        → IsBlock (suc l) (first ∷ a) ss
        → IsStatement false l (first ∷ a) (the_stmt.Block (stmts_list ss) first.token.place)
    empty : {l : ℕ} {p : Place}
        → IsStatement false l (at (suc l) (k.Sign SEMICOLON) p ∷ []) (the_stmt.Empty p)
    expression : {l : ℕ} {first : Leveled} {a : List Leveled} {x : Expr} (p : Place)
        → IsAssign (suc l) (first ∷ a) x
        → IsStatement false l (first ∷ (a ++ at (suc l) (k.Sign SEMICOLON) p ∷ []))
        (the_stmt.Expr x first.token.place)
    marker : {l : ℕ} {first : Leveled} {a : List Leveled} {mark : Marker}
        → IsMarker (suc l) (first ∷ a) mark
        → IsStatement false l (first ∷ a) (the_stmt.Marker mark first.token.place)
    if : {open_if : Bool} {l : ℕ} {p : Place} {a b : List Leveled} {x : Expr} {s : Stmt}
        (q r : Place)
        → IsAssign (suc l) a x → IsStatement open_if (suc l) b s
        → IsStatement true l (at (suc l) (word IF.now) p
        ∷ (at (suc l) (k.Sign PARENTHESIS_OPEN) q
        ∷ (a ++ at (suc l) (k.Sign PARENTHESIS_CLOSE) r ∷ b)))
        (the_stmt.If x s the_stmt.NoElse p)
    if_else : {open_if : Bool} {l : ℕ} {p : Place} {a b c : List Leveled} {x : Expr} {s t : Stmt}
        (q r e : Place)
        → IsAssign (suc l) a x → IsStatement false (suc l) b s → IsStatement open_if (suc l) c t
        → IsStatement open_if l
        (at (suc l) (word IF.now) p
        ∷ (at (suc l) (k.Sign PARENTHESIS_OPEN) q
        ∷ (a ++ at (suc l) (k.Sign PARENTHESIS_CLOSE) r
        ∷ (b ++ at (suc l) (word ELSE.now) e ∷ c))))
        (the_stmt.If x s (the_stmt.Else t) p)
    while : {open_if : Bool} {l : ℕ} {p : Place} {a b : List Leveled} {x : Expr} {s : Stmt}
        (q r : Place)
        → IsAssign (suc l) a x → IsStatement open_if (suc l) b s
        → IsStatement open_if l (at (suc l) (word WHILE.now) p
        ∷ (at (suc l) (k.Sign PARENTHESIS_OPEN) q
        ∷ (a ++ at (suc l) (k.Sign PARENTHESIS_CLOSE) r ∷ b)))
        (the_stmt.While x s p)
    do_while : {open_if : Bool} {l : ℕ} {p : Place} {a b : List Leveled} {s : Stmt} {x : Expr}
        (w q r e : Place)
        → IsStatement open_if (suc l) a s → IsAssign (suc l) b x
        → IsStatement false l
        (at (suc l) (word DO.now) p
        ∷ (a ++ at (suc l) (word WHILE.now) w ∷ (at (suc l) (k.Sign PARENTHESIS_OPEN) q
        ∷ (b ++ at (suc l) (k.Sign PARENTHESIS_CLOSE) r ∷ (at (suc l) (k.Sign SEMICOLON) e ∷ [])))))
        (the_stmt.Do s x p)
    for : {open_if : Bool} {l : ℕ} {p : Place} {a b c d : List Leveled} {f : First}
        {x y : Option Expr} {s : Stmt} (q r t u : Place)
        → IsBeginning (suc l) a f → IsOptional (suc l) b x → IsOptional (suc l) c y
        → IsStatement open_if (suc l) d s
        → IsStatement open_if l
        (at (suc l) (word FOR.now) p
        ∷ (at (suc l) (k.Sign PARENTHESIS_OPEN) q ∷ (a ++ at (suc l) (k.Sign SEMICOLON) r
        ∷ (b ++ at (suc l) (k.Sign SEMICOLON) t
        ∷ (c ++ at (suc l) (k.Sign PARENTHESIS_CLOSE) u ∷ d)))))
        (the_stmt.For f x y s p)
    return : {l : ℕ} {p : Place} {a : List Leveled} {x : Option Expr} (q : Place)
        → IsOptional (suc l) a x
        → IsStatement false l (at (suc l) (word RETURN.now) p
        ∷ (a ++ at (suc l) (k.Sign SEMICOLON) q ∷ [])) (the_stmt.Return x p)
    break : {l : ℕ} {p : Place} (q : Place)
        → IsStatement false l (at (suc l) (word BREAK.now) p
        ∷ (at (suc l) (k.Sign SEMICOLON) q ∷ [])) (the_stmt.Break p)
    continue : {l : ℕ} {p : Place} (q : Place)
        → IsStatement false l (at (suc l) (word CONTINUE.now) p
        ∷ (at (suc l) (k.Sign SEMICOLON) q ∷ [])) (the_stmt.Continue p)

  -- block (C11 6.8.2)
  pub data IsBlock : ℕ → List Leveled → List Stmt → Type 0 where
    braces : {l : ℕ} {a : List Leveled} {ss : List Stmt} (p q : Place) → IsBody l a ss
        → IsBlock l (at l (k.Sign BRACE_OPEN) p ∷ (a ++ at l (k.Sign BRACE_CLOSE) q ∷ [])) ss

  -- what stands in a block: statements and declarations
  pub data IsBody : ℕ → List Leveled → List Stmt → Type 0 where
    none : {l : ℕ} → IsBody l [] []
    stmt : {open_if : Bool} {l : ℕ} {a b : List Leveled} {s : Stmt} {ss : List Stmt}
        → IsStatement open_if l a s → IsBody l b ss → IsBody l (a ++ b) (s ∷ ss)
    vars : {l : ℕ} {first : Leveled} {a b : List Leveled} {ds : List Var} {ss : List Stmt}
        (p : Place) → IsVars l (first ∷ a) ds → IsBody l b ss
        → IsBody l (first ∷ (a ++ at l (k.Sign SEMICOLON) p ∷ b))
        (the_stmt.Vars ds first.token.place ∷ ss)
