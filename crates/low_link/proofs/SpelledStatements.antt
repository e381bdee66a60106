-- What tokens of a text spell as declarations and statements has words, and begins with an integer
-- type where it declares.
use Rattle.std.proofs.Common.{◌≡◌, ℕ, List, ◌∷◌, refl, subst, Option, Some, None}
use Rattle.std.specs.Prelude.{Bool, true, false, if◌then◌else◌, IfSome}
use Rattle.std.specs.List.{AllByRecursion}
use Rattle.c_tree.specs.declared.tree.Count.{Count}
use Rattle.c_tree.specs.declared.tree.Marker.{Marker}
use Rattle.c_tree.specs.declared.tree.Marker.TheVariants as m
use Rattle.c_tree.specs.Ty.{Ty}
use Rattle.c_tree.specs.Ty as ty
use Rattle.c_tree.specs.Expr.{Expr}
use Rattle.c_tree.specs.Init.{Init}
use Rattle.c_tree.specs.Var.{Var}
use Rattle.c_tree.specs.First.{First}
use Rattle.c_tree.specs.Fun.{Param}
use Rattle.c_tree.specs.Stmt.{Stmt}
use Rattle.c_tree.specs.Shapes.{is_integer}
use Rattle.c_tree.specs.View.{stmts_list}
use Rattle.c_expr.specs.Leveled.{Leveled}
use Rattle.c_expr.specs.Grammar as g
use Rattle.c_expr.specs.Grammar.{IsBase}
use Rattle.c_decl.specs.Declarations as d
use Rattle.c_decl.specs.Declarations.{IsInit, IsDecl, IsDecls, IsVars, IsParam, IsParamList, IsParams}
use Rattle.c_decl.specs.StatementGrammar as s
use Rattle.c_decl.specs.StatementGrammar.{IsCount, IsMarker, IsOptional, IsBeginning, IsStatement, IsBlock, IsBody}
use Rattle.low_expr.specs.FittingNames.{HasWords}
use Rattle.low_stmt.specs.FittingTexts.{InitFits}
use Rattle.low_stmt.specs.ParsedTexts.{IsParsedVar, AreParsedVars, IsParsedFirst, IsParsedCount, IsParsedMarker, IsParsedStmt, AreParsedStmts, IsParsedParam}
use Rattle.low_link.proofs.SpelledExpressions.{AreProper, front, back, after, number_words, assign_words}

-- Declarations.

one_word : (int char : Bool) (to : Ty)
    → (if int then Some ty.Int else (if char then Some ty.Char else None)) ≡ Some to
    → is_integer to ≡ true
one_word true char to h = let same : ty.Int ≡ to = cc in subst (λ t. is_integer t ≡ true) same refl
one_word false true to h =
    let same : ty.Char ≡ to = cc in subst (λ t. is_integer t ≡ true) same refl
one_word false false to h = absurd cc

pub base_integer : {l : ℕ} {a : List Leveled} {to : Ty} → IsBase l a to → is_integer to ≡ true
base_integer (g.plain {kind = kind} {to = to} e) =
    one_word _ _ to e
base_integer g.unsigned = refl
base_integer g.unsigned_int = refl
base_integer g.unsigned_char = refl

init_words : {l : ℕ} {a : List Leveled} {i : Init} → IsInit l a i → AreProper a
    → InitFits (Some i)
init_words (d.value h) w = assign_words h w
init_words (d.values p q h) w = tt
init_words (d.values_and_comma p q r h) w = tt

decl_parsed : {l : ℕ} {base : Ty} {a : List Leveled} {v : Var} → is_integer base ≡ true
    → IsDecl l base a v → AreProper a → IsParsedVar v
decl_parsed integer (d.plain p h i) w = (integer, tt)
decl_parsed integer (d.initialised {a = a} {b = b} {c = c} p q h i j) w =
    (integer, init_words j (after b _ c (after a _ _ w)))

decls_parsed : {l : ℕ} {base : Ty} {a : List Leveled} {vs : List Var} → is_integer base ≡ true
    → IsDecls l base a vs → AreProper a → AreParsedVars vs
decls_parsed integer (d.one h) w = (decl_parsed integer h w, tt)
decls_parsed integer (d.more {a = a} {b = b} p h i) w =
    (decl_parsed integer h (front a _ w), decls_parsed integer i (after a _ b w))

pub vars_parsed : {l : ℕ} {a : List Leveled} {vs : List Var} → IsVars l a vs → AreProper a
    → AreParsedVars vs
vars_parsed (d.vars {a = a} {b = b} h i) w = decls_parsed (base_integer h) i (back a b w)

param_parsed : {l : ℕ} {a : List Leveled} {p : Param} → IsParam l a p → IsParsedParam p
param_parsed (d.unnamed h i) = base_integer h
param_parsed (d.unnamed_array p q h i) = base_integer h
param_parsed (d.named p h i) = base_integer h
param_parsed (d.named_array p q r h i) = base_integer h

param_list_parsed : {l : ℕ} {a : List Leveled} {ps : List Param} → IsParamList l a ps
    → AllByRecursion IsParsedParam ps
param_list_parsed (d.one h) = (param_parsed h, tt)
param_list_parsed (d.more p h i) = (param_parsed h, param_list_parsed i)

pub params_parsed : {l : ℕ} {a : List Leveled} {ps : List Param} → IsParams l a ps
    → AllByRecursion IsParsedParam ps
params_parsed d.nothing = tt
params_parsed (d.void p) = tt
params_parsed (d.some h) = param_list_parsed h

-- Statements.

count_parsed : {l : ℕ} {a : List Leveled} {c : Count} → IsCount l a c → AreProper a
    → IsParsedCount c
count_parsed (s.number {v = v} {ty = t} p) w = (number_words t v w.0).1
count_parsed (s.name p) w = tt

-- a marker that has a number alone
numbered : (one mark : ℕ → Marker) → Some one ≡ Some mark → ((v : ℕ) → IsParsedMarker (one v))
    → (v : ℕ) → IsParsedMarker (mark v)
numbered one mark h parsed v =
    let same : one ≡ mark = cc in subst (λ f. IsParsedMarker (f v)) same (parsed v)

by_word : (begin end wait : Bool) (mark : ℕ → Marker)
    → (if begin then Some (λ n. m.Begin n)
    else (if end then Some (λ n. m.End n) else (if wait then Some (λ n. m.Wait n) else None)))
    ≡ Some mark
    → (v : ℕ) → IsParsedMarker (mark v)
by_word true end wait mark h = numbered (λ n. m.Begin n) mark h (λ n. tt)
by_word false true wait mark h = numbered (λ n. m.End n) mark h (λ n. tt)
by_word false false true mark h = numbered (λ n. m.Wait n) mark h (λ n. tt)
by_word false false false mark h = absurd cc

marker_parsed : {l : ℕ} {a : List Leveled} {mark : Marker} → IsMarker l a mark → AreProper a
    → IsParsedMarker mark
marker_parsed (s.numbered {v = v} {kind = kind} {mark = mark} p q r t u e) w =
    by_word _ _ _ mark e v
marker_parsed (s.post {a = a} p q r t u x y z h) w = count_parsed h (front a _ w.1.1.1.1.1.1)

optional_words : {l : ℕ} {a : List Leveled} {x : Option Expr} → IsOptional l a x → AreProper a
    → IfSome x HasWords
optional_words s.none w = tt
optional_words (s.some h) w = assign_words h w

beginning_parsed : {l : ℕ} {a : List Leveled} {f : First} → IsBeginning l a f → AreProper a
    → IsParsedFirst f
beginning_parsed s.nothing w = tt
beginning_parsed (s.vars h) w = vars_parsed h w
beginning_parsed (s.assign h) w = assign_words h w

mutual
  stmt_parsed : {open_if : Bool} {l : ℕ} {a : List Leveled} {t : Stmt} → IsStatement open_if l a t
      → AreProper a → IsParsedStmt t
  stmt_parsed (s.block h) w = block_parsed h w
  stmt_parsed s.empty w = tt
  stmt_parsed (s.expression {first = first} {a = a} p h) w = assign_words h (front (first ∷ a) _ w)
  stmt_parsed (s.marker h) w = marker_parsed h w
  stmt_parsed (s.if {a = a} {b = b} q r h i) w =
      (assign_words h (front a _ w.1.1), stmt_parsed i (after a _ b w.1.1), tt)
  stmt_parsed (s.if_else {a = a} {b = b} {c = c} q r e h i j) w =
      let two = after a _ _ w.1.1 in (
        assign_words h (front a _ w.1.1),
        stmt_parsed i (front b _ two),
        stmt_parsed j (after b _ c two),
      )
  stmt_parsed (s.while {a = a} {b = b} q r h i) w =
      (assign_words h (front a _ w.1.1), stmt_parsed i (after a _ b w.1.1))
  stmt_parsed (s.do_while {a = a} {b = b} x q r e h i) w =
      (stmt_parsed h (front a _ w.1), assign_words i (front b _ (after a _ _ w.1).1))
  stmt_parsed (s.for {a = a} {b = b} {c = c} {d = d} q r t u f x y h) w =
      let two = after a _ _ w.1.1 in
      let three = after b _ _ two in (
        beginning_parsed f (front a _ w.1.1),
        optional_words x (front b _ two),
        optional_words y (front c _ three),
        stmt_parsed h (after c _ d three),
      )
  stmt_parsed (s.return {a = a} q h) w = optional_words h (front a _ w.1)
  stmt_parsed (s.break q) w = tt
  stmt_parsed (s.continue q) w = tt

  pub block_parsed : {l : ℕ} {a : List Leveled} {ss : List Stmt} → IsBlock l a ss → AreProper a
      → AreParsedStmts (stmts_list ss)
  block_parsed (s.braces {a = a} p q h) w = body_parsed h (front a _ w.1)

  body_parsed : {l : ℕ} {a : List Leveled} {ss : List Stmt} → IsBody l a ss → AreProper a
      → AreParsedStmts (stmts_list ss)
  body_parsed s.none w = tt
  body_parsed (s.stmt {a = a} {b = b} h i) w =
      (stmt_parsed h (front a b w), body_parsed i (back a b w))
  body_parsed (s.vars {first = first} {a = a} {b = b} p h i) w =
      (vars_parsed h (front (first ∷ a) _ w), body_parsed i (after (first ∷ a) _ b w))
