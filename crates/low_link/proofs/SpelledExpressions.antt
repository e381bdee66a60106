-- The numbers of an expression that tokens of a text spell are words.
use Rattle.std.proofs.Common.{◌≡◌, ℕ, suc, ◌^◌, ◌<◌, List, [], ◌∷◌, ◌++◌, inl, inr, refl, sym, subst, arith, All}
use Rattle.std.specs.Prelude.{true}
use Rattle.c_tree.specs.declared.ctype.CType.{CType}
use Rattle.c_tree.specs.Expr.{Expr}
use Rattle.c_tree.specs.Shapes.{is_integer}
use Rattle.c_tree.specs.View.{ty_of, exprs_list}
use Rattle.c_token.specs.Tokens.{IsProperNumber, IsProper}
use Rattle.c_expr.specs.Leveled.{Leveled, tokens_of}
use Rattle.c_expr.specs.Grammar as g
use Rattle.c_expr.specs.Grammar.{IsAssign, IsCond, IsBinary, IsChain, IsUnary, IsPostfix, IsPrimary, IsArguments, IsListed}
use Rattle.low_expr.specs.FittingNames.{HasWords, HaveWords}

-- tokens as a text has them
abbrev pub AreProper : List Leveled → Type 0
AreProper [] = Unit {0}
AreProper (x ∷ xs) = IsProper x.token × AreProper xs

pub all_proper : (xs : List Leveled) → All IsProper (tokens_of xs) → AreProper xs
all_proper [] h = tt
all_proper (x ∷ xs) h = (
  h 0 x.token (omega arith),
  all_proper xs (λ i d lt. h (suc i) d (omega (arith, lt))),
)

pub front : (xs ys : List Leveled) → AreProper (xs ++ ys) → AreProper xs
front [] ys h = tt
front (x ∷ xs) ys h = (h.0, front xs ys h.1)

pub back : (xs ys : List Leveled) → AreProper (xs ++ ys) → AreProper ys
back [] ys h = h
back (x ∷ xs) ys h = back xs ys h.1

-- what is after a token that follows others
pub after : (xs : List Leveled) (y : Leveled) (ys : List Leveled) → AreProper (xs ++ y ∷ ys)
    → AreProper ys
after xs y ys h = (back xs (y ∷ ys) h).1

pub number_words : (t : CType) (v : ℕ) → IsProperNumber t v
    → (is_integer (ty_of t) ≡ true) × (v < 2 ^ 32)
number_words t v (inl h) =
    (subst (λ u. is_integer (ty_of u) ≡ true) (sym h.0) refl, omega (arith, h.1))
number_words t v (inr h) = (subst (λ u. is_integer (ty_of u) ≡ true) (sym h.0) refl, h.1)

mutual
  pub assign_words : {l : ℕ} {a : List Leveled} {x : Expr} → IsAssign l a x → AreProper a
      → HasWords x
  assign_words (g.cond h) w = cond_words h w
  assign_words (g.assign {a = a} {b = b} kind h e i) w =
      (cond_words h (front a _ w), assign_words i (after a _ b w))

  cond_words : {l : ℕ} {a : List Leveled} {x : Expr} → IsCond l a x → AreProper a → HasWords x
  cond_words (g.binary h) w = binary_words h w
  cond_words (g.conditional {a = a} {b = b} {c = c} q h i j) w =
      let two = after a _ _ w in
      (binary_words h (front a _ w), assign_words i (front b _ two), cond_words j (after b _ c two))

  binary_words : {r l : ℕ} {a : List Leveled} {x : Expr} → IsBinary r l a x → AreProper a
      → HasWords x
  binary_words (g.unary h) w = unary_words h w
  binary_words (g.chain h) w = chain_words h w

  chain_words : {r l n : ℕ} {a : List Leveled} {x : Expr} → IsChain r l n a x → AreProper a
      → HasWords x
  chain_words (g.first h) w = binary_words h w
  chain_words (g.next {a = a} {b = b} kind h e t i) w =
      (chain_words h (front a _ w), binary_words i (after a _ b w))

  unary_words : {l : ℕ} {a : List Leveled} {x : Expr} → IsUnary l a x → AreProper a → HasWords x
  unary_words (g.prefix e h) w = unary_words h w.1
  unary_words (g.step e h) w = unary_words h w.1
  unary_words (g.cast {a = a} {b = b} q j h) w = unary_words h (after a _ b w.1)
  unary_words (g.postfix h) w = postfix_words h w

  postfix_words : {l n : ℕ} {a : List Leveled} {x : Expr} → IsPostfix l n a x → AreProper a
      → HasWords x
  postfix_words (g.primary h) w = primary_words h w
  postfix_words (g.index {a = a} {b = b} q h i) w =
      (postfix_words h (front a _ w), assign_words i (front b _ (after a _ _ w)))
  postfix_words (g.step_last {a = a} kind h e) w = postfix_words h (front a _ w)

  primary_words : {l : ℕ} {a : List Leveled} {x : Expr} → IsPrimary l a x → AreProper a
      → HasWords x
  primary_words (g.call {a = a} q r c h) w = arguments_words h (front a _ w.1.1)
  primary_words g.name w = tt
  primary_words g.eof w = tt
  primary_words (g.number {v = v} {ty = t}) w = number_words t v w.0
  primary_words g.character w = omega (arith, w.0)
  primary_words (g.parens {a = a} p q h) w = assign_words h (front a _ w.1)

  arguments_words : {l : ℕ} {a : List Leveled} {xs : List Expr} → IsArguments l a xs → AreProper a
      → HaveWords (exprs_list xs)
  arguments_words g.none w = tt
  arguments_words (g.some h) w = listed_words h w

  listed_words : {l : ℕ} {a : List Leveled} {xs : List Expr} → IsListed l a xs → AreProper a
      → HaveWords (exprs_list xs)
  listed_words (g.one h) w = (assign_words h w, tt)
  listed_words (g.more {a = a} {b = b} p h i) w =
      (assign_words h (front a _ w), listed_words i (after a _ b w))
