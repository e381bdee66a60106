-- The grammar hangs on kinds and levels alone: with other places the same tokens spell a tree too.
use Rattle.std.proofs.Common.{◌≡◌, ℕ, suc, ◌+◌, List, [], ◌∷◌, ◌++◌, refl, sym, ap, ◌∙◌, subst}
use Rattle.c_tree.specs.Ty.{Ty}
use Rattle.c_tree.specs.Expr.{Expr}
use Rattle.c_tree.specs.declared.place.Place.{Place}
use Rattle.c_token.specs.declared.token.Kind.{Kind}
use Rattle.c_expr.specs.Leveled.{Leveled, at}
use Rattle.c_expr.specs.declared.rule.Rule.{Rule}
use Rattle.c_expr.specs.declared.rule.Rule.TheVariants.{Assign, Cond, Unary as UnaryRule}
use Rattle.c_expr.specs.private.ParserRules.{IsRule}
use Rattle.c_expr.specs.Grammar as g
use Rattle.c_expr.specs.Grammar.{IsBase, IsAssign, IsCond, IsBinary, IsChain, IsUnary, IsPostfix, IsPrimary, IsArguments, IsListed}
use Rattle.c_expr.specs.declared.punctuator.TheConstants.{PARENTHESIS_OPEN, PARENTHESIS_CLOSE, BRACKET_OPEN, BRACKET_CLOSE, COMMA, QUESTION, COLON}
use Rattle.c_token.specs.declared.token.Kind.TheVariants as k

-- the same kinds and levels
pub data Similar : List Leveled → List Leveled → Type 0 where
  none : Similar [] []
  more : {l : ℕ} {kind : Kind} {p : Place} {a b : List Leveled} (q : Place) → Similar a b
      → Similar (at l kind p ∷ a) (at l kind q ∷ b)

-- behind the same front, all at one place
abbrev pub placed : Place → List Leveled → List Leveled
placed q [] = []
placed q (x ∷ a) = at x.level x.token.kind q ∷ placed q a

pub similar_placed : (q : Place) (a b : List Leveled) → Similar (a ++ b) (a ++ placed q b)
similar_placed q [] [] = none
similar_placed q [] (x ∷ b) = more q (similar_placed q [] b)
similar_placed q (x ∷ a) b = more x.token.place (similar_placed q a b)

pub record Parts (a b c : List Leveled) : Type 0 where
  pub left : List Leveled
  pub right : List Leveled
  pub is : c ≡ left ++ right
  pub similar_left : Similar a left
  pub similar_right : Similar b right

pub parts : (a b c : List Leveled) → Similar (a ++ b) c → Parts a b c
parts [] b c h = record { left = []; right = c; is = refl; similar_left = none; similar_right = h }
parts (x ∷ a) b c (more {b = c'} q h) =
    let w = parts a b c' h in
    record { left = at x.level x.token.kind q ∷ w.left; right = w.right; is = ap (λ d. at x.level x.token.kind q ∷ d) w.is; similar_left = more q w.similar_left; similar_right = w.similar_right }

pub record Cut (a : List Leveled) (l : ℕ) (kind : Kind) (b c : List Leveled) : Type 0 where
  pub left : List Leveled
  pub place : Place
  pub right : List Leveled
  pub is : left ++ at l kind place ∷ right ≡ c
  pub similar_left : Similar a left
  pub similar_right : Similar b right

cut_here : (a : List Leveled) (l : ℕ) (kind : Kind) (p : Place) (b c left right : List Leveled)
    → c ≡ left ++ right → Similar a left → Similar (at l kind p ∷ b) right → Cut a l kind b c
cut_here a l kind p b c left _ e h (more {b = d} q i) = record { left = left; place = q; right = d; is = sym e; similar_left = h; similar_right = i }

pub cut : (a : List Leveled) (l : ℕ) (kind : Kind) (p : Place) (b c : List Leveled)
    → Similar (a ++ at l kind p ∷ b) c → Cut a l kind b c
cut a l kind p b c h = let w = parts a (at l kind p ∷ b) c h in cut_here a l kind p b c w.left w.right w.is w.similar_left w.similar_right

pub nothing_left : (c : List Leveled) → Similar [] c → [] ≡ c
nothing_left _ none = refl

pub placed_base : {l : ℕ} {a : List Leveled} {to : Ty} → IsBase l a to → (b : List Leveled)
    → Similar a b → IsBase l b to
placed_base (g.plain e) _ (more q none) = g.plain e
placed_base g.unsigned _ (more q none) = g.unsigned
placed_base g.unsigned_int _ (more q (more r none)) = g.unsigned_int
placed_base g.unsigned_char _ (more q (more r none)) = g.unsigned_char

-- a tree that is so spelled
pub record Tree {X : Type 0} (P : List Leveled → X → Type 0) (b : List Leveled) : Type 0 where
  pub tree : X
  pub holds : P b tree

pub move : {X : Type 0} {c d : List Leveled} {y : X} (P : List Leveled → X → Type 0) → c ≡ d
    → P c y → Tree P d
move {y = y} P e h = record { tree = y; holds = subst (λ d. P d y) e h }

mutual
  pub placed_assign : {l : ℕ} {a : List Leveled} {x : Expr} → IsAssign l a x → (b : List Leveled)
      → Similar a b → Tree (IsAssign l) b
  placed_assign (g.cond h) b s = let w = placed_cond h b s in record { tree = w.tree; holds = g.cond w.holds }
  placed_assign (g.assign {l = l} {p = p} {a = a} {b = b} kind h e i) c s =
      let w = cut a (suc l) kind p b c s in
      let x = placed_cond h w.left w.similar_left in
      let y = placed_assign i w.right w.similar_right in
      (move (λ d. IsAssign l d) w.is (g.assign kind x.holds e y.holds))

  pub placed_cond : {l : ℕ} {a : List Leveled} {x : Expr} → IsCond l a x → (b : List Leveled)
      → Similar a b → Tree (IsCond l) b
  placed_cond (g.binary h) b s = let w = placed_binary h b s in record { tree = w.tree; holds = g.binary w.holds }
  placed_cond (g.conditional {l = l} {p = p} {a = a} {b = b} {c = c} q h i j) d s =
      let w = cut a (suc l) (k.Sign QUESTION) p (b ++ at (suc l) (k.Sign COLON) q ∷ c) d s in
      let v = cut b (suc l) (k.Sign COLON) q c w.right w.similar_right in
      let x = placed_binary h w.left w.similar_left in
      let y = placed_assign i v.left v.similar_left in
      let z = placed_cond j v.right v.similar_right in
      (move (λ d. IsCond l d) (ap (λ d. w.left ++ at (suc l) (k.Sign QUESTION) w.place ∷ d) v.is ∙ w.is) (g.conditional v.place x.holds y.holds z.holds))

  placed_binary : {r l : ℕ} {a : List Leveled} {x : Expr} → IsBinary r l a x → (b : List Leveled)
      → Similar a b → Tree (IsBinary r l) b
  placed_binary (g.unary h) b s = let w = placed_unary h b s in record { tree = w.tree; holds = g.unary w.holds }
  placed_binary (g.chain h) b s = let w = placed_chain h b s in record { tree = w.tree; holds = g.chain w.holds }

  placed_chain : {r l n : ℕ} {a : List Leveled} {x : Expr} → IsChain r l n a x → (b : List Leveled)
      → Similar a b → Tree (IsChain r l n) b
  placed_chain (g.first h) b s = let w = placed_binary h b s in record { tree = w.tree; holds = g.first w.holds }
  placed_chain (g.next {r = r} {l = l} {n = n} {p = p} {a = a} {b = b} kind h e t i) c s =
      let w = cut a (l + n) kind p b c s in
      let x = placed_chain h w.left w.similar_left in
      let y = placed_binary i w.right w.similar_right in
      (move (λ d. IsChain r l (suc n) d) w.is (g.next kind x.holds e t y.holds))

  placed_unary : {l : ℕ} {a : List Leveled} {x : Expr} → IsUnary l a x → (b : List Leveled)
      → Similar a b → Tree (IsUnary l) b
  placed_unary (g.prefix e h) _ (more {b = b} q s) = let w = placed_unary h b s in record { tree = _; holds = g.prefix e w.holds }
  placed_unary (g.step e h) _ (more {b = b} q s) = let w = placed_unary h b s in record { tree = _; holds = g.step e w.holds }
  placed_unary (g.cast {l = l} {a = a} {b = b} q j h) _ (more {b = c} p s) =
      let w = cut a (suc l) (k.Sign PARENTHESIS_CLOSE) q b c s in
      let x = placed_unary h w.right w.similar_right in
      (move (λ d. IsUnary l d) (ap (λ d. at (suc l) (k.Sign PARENTHESIS_OPEN) p ∷ d) w.is) (g.cast w.place (placed_base j w.left w.similar_left) x.holds))
  placed_unary (g.postfix h) b s = let w = placed_postfix h b s in record { tree = w.tree; holds = g.postfix w.holds }

  placed_postfix : {l n : ℕ} {a : List Leveled} {x : Expr} → IsPostfix l n a x → (b : List Leveled)
      → Similar a b → Tree (IsPostfix l n) b
  placed_postfix (g.primary h) b s = let w = placed_primary h b s in record { tree = w.tree; holds = g.primary w.holds }
  placed_postfix (g.index {l = l} {n = n} {p = p} {a = a} {b = b} q h i) c s =
      let w = cut a (l + n) (k.Sign BRACKET_OPEN) p (b ++ at (l + n) (k.Sign BRACKET_CLOSE) q ∷ []) c s in
      let v = cut b (l + n) (k.Sign BRACKET_CLOSE) q [] w.right w.similar_right in
      let x = placed_postfix h w.left w.similar_left in
      let y = placed_assign i v.left v.similar_left in
      let e = ap (λ d. v.left ++ at (l + n) (k.Sign BRACKET_CLOSE) v.place ∷ d) (nothing_left v.right v.similar_right) ∙ v.is in
      (move (λ d. IsPostfix l (suc n) d) (ap (λ d. w.left ++ at (l + n) (k.Sign BRACKET_OPEN) w.place ∷ d) e ∙ w.is) (g.index v.place x.holds y.holds))
  placed_postfix (g.step_last {l = l} {n = n} {p = p} {a = a} kind h e) c s =
      let w = cut a (l + n) kind p [] c s in
      let x = placed_postfix h w.left w.similar_left in
      (move (λ d. IsPostfix l (suc n) d) (ap (λ d. w.left ++ at (l + n) kind w.place ∷ d) (nothing_left w.right w.similar_right) ∙ w.is) (g.step_last kind x.holds e))

  placed_primary : {l : ℕ} {a : List Leveled} {x : Expr} → IsPrimary l a x → (b : List Leveled)
      → Similar a b → Tree (IsPrimary l) b
  placed_primary (g.call {l = l} {kind = kind} {a = a} q z h i) _ (more p (more {b = c} r s)) =
      let w = cut a l (k.Sign PARENTHESIS_CLOSE) z [] c s in
      let x = placed_arguments i w.left w.similar_left in
      let e = ap (λ d. w.left ++ at l (k.Sign PARENTHESIS_CLOSE) w.place ∷ d) (nothing_left w.right w.similar_right) ∙ w.is in
      (move (λ d. IsPrimary l d) (ap (λ d. at l kind p ∷ (at l (k.Sign PARENTHESIS_OPEN) r ∷ d)) e) (g.call r w.place h x.holds))
  placed_primary g.name _ (more p none) = record { tree = _; holds = g.name }
  placed_primary g.eof _ (more p none) = record { tree = _; holds = g.eof }
  placed_primary g.number _ (more p none) = record { tree = _; holds = g.number }
  placed_primary g.character _ (more p none) = record { tree = _; holds = g.character }
  placed_primary (g.parens {l = l} {a = a} p q h) _ (more {b = c} r s) =
      let w = cut a l (k.Sign PARENTHESIS_CLOSE) q [] c s in
      let x = placed_assign h w.left w.similar_left in
      let e = ap (λ d. w.left ++ at l (k.Sign PARENTHESIS_CLOSE) w.place ∷ d) (nothing_left w.right w.similar_right) ∙ w.is in
      (move (λ d. IsPrimary l d) (ap (λ d. at l (k.Sign PARENTHESIS_OPEN) r ∷ d) e) (g.parens r w.place x.holds))

  placed_arguments : {l : ℕ} {a : List Leveled} {xs : List Expr} → IsArguments l a xs
      → (b : List Leveled) → Similar a b → Tree (IsArguments l) b
  placed_arguments g.none _ none = record { tree = []; holds = g.none }
  placed_arguments (g.some h) b s = let w = placed_listed h b s in record { tree = w.tree; holds = g.some w.holds }

  pub placed_listed : {l : ℕ} {a : List Leveled} {xs : List Expr} → IsListed l a xs
      → (b : List Leveled) → Similar a b → Tree (IsListed l) b
  placed_listed (g.one h) b s = let w = placed_assign h b s in record { tree = _; holds = g.one w.holds }
  placed_listed (g.more {l = l} {a = a} {b = b} p h i) c s =
      let w = cut a l (k.Sign COMMA) p b c s in
      let x = placed_assign h w.left w.similar_left in
      let y = placed_listed i w.right w.similar_right in
      (move (λ d. IsListed l d) w.is (g.more w.place x.holds y.holds))

pub placed_rule : (which : Rule) (l : ℕ) (a : List Leveled) (x : Expr) → IsRule which l a x
    → (b : List Leveled) → Similar a b → Tree (IsRule which l) b
placed_rule Assign l a x h b s = placed_assign h b s
placed_rule Cond l a x h b s = placed_cond h b s
placed_rule UnaryRule l a x h b s = placed_unary h b s
