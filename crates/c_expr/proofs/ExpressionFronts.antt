-- The law of what stands at the front: what begins an expression, a sign that is expected, a base.
use Rattle.std.proofs.Common.{◌≡◌, ◌<◌, ◌≤◌, ◌-◌, ℕ, zero, suc, List, [], ◌∷◌, Option, Some, None, Ok, refl, sym, ap, ap₂, ◌∙◌, subst, arith, Bool, true, false}
use Rattle.std.specs.Prelude.{if◌then◌else◌}
use Rattle.c_tree.specs.Ty.{Ty}
use Rattle.c_tree.specs.Ty as the_ty
use Rattle.c_tree.specs.Expr.{Expr}
use Rattle.c_tree.specs.Expr as expr
use Rattle.c_tree.specs.declared.operator.Step.{Step}
use Rattle.c_tree.specs.declared.operator.Unary.{Unary}
use Rattle.c_tree.specs.declared.place.Place.{Place}
use Rattle.c_tree.specs.declared.tree.Callee.{Callee}
use Rattle.c_token.specs.declared.token.Token.{Token}
use Rattle.c_token.specs.declared.token.Kind.{Kind}
use Rattle.c_token.specs.declared.token.Kind.TheVariants as k
use Rattle.c_expr.specs.Leveled.{Leveled, at}
use Rattle.c_expr.specs.Spelled.{same, lor, unary_op, first_step, builtin, plain_base}
use Rattle.c_expr.specs.Grammar as g
use Rattle.c_expr.specs.Grammar.{IsBase, IsAssign, IsCond, IsBinary, IsChain, IsUnary, IsPostfix, IsPrimary, IsCallee, IsArguments, IsListed}
use Rattle.c_expr.specs.Next.{Outcome, ◌>>=◌, kind_of, nowhere, refuse, take, expect, begins, begins_by, operand_by, base, base_by, after_unsigned, unsigned_of, is_unsigned, is_eof, opens}
use Rattle.c_expr.proofs.Law.{Lawful, Some_of, some_of, pure_law, stop_law, refuse_law, take_law, plain}
use Rattle.c_expr.proofs.KindWords.{same_is, not_end, some_not_end}
use Rattle.c_expr.specs.declared.punctuator.TheConstants.{PARENTHESIS_OPEN}
use Rattle.c_expr.specs.declared.keyword.TheConstants.{INT, CHAR, UNSIGNED, END_OF_FILE}

-- the tightest rule stands for each of the others
pub letter_unary : (l : ℕ)
    → IsUnary l (at (suc l) (k.Character 0) nowhere ∷ []) (expr.Character 0 nowhere)
letter_unary l = g.postfix (g.primary letter)
  where
    letter : IsPrimary (suc l) (at (suc l) (k.Character 0) nowhere ∷ []) (expr.Character 0 nowhere)
    letter = g.character

raise : (rk l : ℕ) (a : List Leveled) (x : Expr) → IsUnary l a x → IsBinary rk l a x
raise zero l a x h = g.unary h
raise (suc rk) l a x h = g.chain (g.first (raise rk l a x h))

pub unary_cond : (l : ℕ) (a : List Leveled) (x : Expr) → IsUnary (suc l) a x → IsCond l a x
unary_cond l a x h = g.binary (raise lor (suc l) a x h)

pub unary_assign : (l : ℕ) (a : List Leveled) (x : Expr) → IsUnary (suc (suc l)) a x
    → IsAssign l a x
unary_assign l a x h = g.cond (unary_cond (suc l) a x h)

pub some_assign : (l : ℕ) → Some_of (plain (IsAssign l))
some_assign l = record { spelling = _; value = _; holds = unary_assign l _ _ (letter_unary (suc (suc l))) }

-- what begins a unary expression
begin_operand : (l : ℕ) (p : Place) (kind : Kind) (eof : Bool) (callee : Option Callee)
    → is_eof kind ≡ eof → builtin kind ≡ callee → operand_by kind eof callee ≡ true
    → Some_of (λ b y us. IsPrimary l (at l kind p ∷ b) y)
begin_operand l p (k.Name n) eof callee e h i = record { spelling = []; value = _; holds = g.name }
begin_operand l p (k.Number ty v) eof callee e h i = record { spelling = []; value = _; holds = g.number }
begin_operand l p (k.Character v) eof callee e h i = record { spelling = []; value = _; holds = g.character }
begin_operand l p kind true callee e h i =
    subst (λ c. Some_of (λ b y us. IsPrimary l (at l c p ∷ b) y)) (sym (same_is kind (k.Reserved END_OF_FILE.now) e)) (record { spelling = []; value = _; holds = g.eof })
begin_operand l p kind false (Some callee) e h i = record { spelling = _; value = _; holds = g.call nowhere nowhere (g.built_in h) g.none }
begin_operand l p kind false None e h i = cc

pub begin_unary : (l : ℕ) (p : Place) (kind : Kind) → begins kind ≡ true
    → Some_of (λ b y us. IsUnary l (at (suc l) kind p ∷ b) y)
begin_unary l p kind e = go (unary_op kind) (first_step kind) (opens kind) refl refl refl e
  where
    go : (op : Option Unary) (how : Option Step) (here : Bool) → unary_op kind ≡ op
        → first_step kind ≡ how → opens kind ≡ here
        → begins_by op how here (operand_by kind (is_eof kind) (builtin kind)) ≡ true → Some_of (λ b y us. IsUnary l (at (suc l) kind p ∷ b) y)
    go (Some op) how here a b c e = record { spelling = _; value = _; holds = g.prefix a (letter_unary (suc l)) }
    go None (Some how) here a b c e = record { spelling = _; value = _; holds = g.step b (letter_unary (suc l)) }
    go None None true a b c e =
        subst (λ kind. Some_of (λ b y us. IsUnary l (at (suc l) kind p ∷ b) y)) (sym (same_is kind (k.Sign PARENTHESIS_OPEN) c))
        (record { spelling = _; value = _; holds = g.postfix (g.primary (g.parens p nowhere (some_assign (suc l)).holds)) })
    go None None false a b c e =
        let w = begin_operand (suc l) p kind (is_eof kind) (builtin kind) refl refl e in
        record { spelling = w.spelling; value = w.value; holds = g.postfix (g.primary w.holds) }

-- the kinds that are expected somewhere
abbrev pub Expected : Kind → Type 0
Expected kind = (same kind kind ≡ true) × (same k.End kind ≡ false)

pub expect_law : {Y I : Type 0} {S : List Leveled → Y → List Token → Type 0}
    (g : I → Token × List Token → Outcome Y) (f : Token × List Token → Outcome Y) (m l r : ℕ)
    (r' : I → ℕ) (kind : Kind) (ts : List Token)
    → r ≡ m - l → ((i : I) → r ≤ r' i) → Expected kind
    → ((p : Place) (rest : List Token) → Lawful m (λ b y us. S (at l kind p ∷ b) y us) (λ i b. g i (record { kind = kind; place = p }, b)) rest (f (record { kind = kind; place = p }, rest)))
    → Lawful m S (λ i b. expect kind (r' i) b >>= g i) ts (expect kind r ts >>= f)
expect_law {Y = Y} {I = I} {S = S} g f m l r r' kind ts room wide known onward = go (same (kind_of ts) kind) refl
  where
    body : I → Kind → List Token → Outcome Y
    body i c b = (if same c kind then take (r' i) b else refuse b) >>= g i

    go : (b : Bool) → same (kind_of ts) kind ≡ b
        → Lawful m S (λ i b. expect kind (r' i) b >>= g i) ts
        ((if b then take r ts else refuse ts) >>= f)
    go true e =
        let is = same_is (kind_of ts) kind e in
        take_law (λ i b. expect kind (r' i) b >>= g i) g f m l r r' kind ts room wide is (not_end kind known.0) (λ i p b. ap (λ c. (if c then take (r' i) (record { kind = kind; place = p } ∷ b) else refuse (record { kind = kind; place = p } ∷ b)) >>= g i) known.0) onward
    go false e =
        let w = some_of (onward nowhere []) in
        refuse_law body (kind_of ts) ts refl (record { spelling = at l kind nowhere ∷ w.spelling; value = w.value; holds = w.holds })
        (λ i b. ap (λ c. (if c then take (r' i) b else refuse b) >>= g i) e) (λ i. ap (λ c. (if c then take (r' i) [] else refuse []) >>= g i) known.1)

pub narrower : {r r' f' : ℕ} → (suc r ≤ r') × (r' ≤ f') → (r ≤ r' - 1) × (r' - 1 ≤ f')
narrower w = let a = w.0 in let b = w.1 in (omega arith, omega arith)

pub narrow_both : {r r' f' : ℕ} → (suc r ≤ r') × (r' ≤ f') → (r ≤ r' - 1) × (r' - 1 ≤ f' - 1)
narrow_both w = let a = w.0 in let b = w.1 in (omega arith, omega arith)

pub some_room : {r r' f' : ℕ} → (suc r ≤ r') × (r' ≤ f') → 0 < r'
some_room w = let a = w.0 in omega arith

-- bases
unsigned_base : (l : ℕ) (p q : Place) (kind : Kind) (to : Ty) → plain_base kind ≡ Some to
    → IsBase l (at l (k.Reserved UNSIGNED.now) p ∷ (at l kind q ∷ [])) (unsigned_of to)
unsigned_base l p q kind to e = go (same kind (k.Reserved INT.now)) (same kind (k.Reserved CHAR.now)) refl refl e
  where
    go : (a b : Bool) → same kind (k.Reserved INT.now) ≡ a
        → same kind (k.Reserved CHAR.now) ≡ b
        → (if a then Some the_ty.Int else (if b then Some the_ty.Char else None)) ≡ Some to
        → IsBase l (at l (k.Reserved UNSIGNED.now) p ∷ (at l kind q ∷ [])) (unsigned_of to)
    go true b x y h =
        let is : the_ty.Int ≡ to = cc in
        subst (λ c. IsBase l (at l (k.Reserved UNSIGNED.now) p ∷ (at l c q ∷ [])) (unsigned_of to)) (sym (same_is kind (k.Reserved INT.now) x))
        (subst (λ s. IsBase l (at l (k.Reserved UNSIGNED.now) p ∷ (at l (k.Reserved INT.now) q ∷ [])) (unsigned_of s)) is g.unsigned_int)
    go false true x y h =
        let is : the_ty.Char ≡ to = cc in
        subst (λ c. IsBase l (at l (k.Reserved UNSIGNED.now) p ∷ (at l c q ∷ [])) (unsigned_of to)) (sym (same_is kind (k.Reserved CHAR.now) y))
        (subst (λ s. IsBase l (at l (k.Reserved UNSIGNED.now) p ∷ (at l (k.Reserved CHAR.now) q ∷ [])) (unsigned_of s)) is g.unsigned_char)
    go false false x y h = cc

module _ (I : Type 0) (m : ℕ) where
  unsigned_law : (l r : ℕ) (r' : I → ℕ) (p : Place) (kind : Kind) (to : Option Ty)
      (ts : List Token) → kind_of ts ≡ kind → plain_base kind ≡ to → r ≡ m - l
      → ((i : I) → r ≤ r' i)
      → Lawful m (λ b y us. IsBase l (at l (k.Reserved UNSIGNED.now) p ∷ b) y) (λ i b. after_unsigned (plain_base (kind_of b)) (r' i) b) ts (after_unsigned to r ts)
  unsigned_law l r r' p kind (Some to) ts is e room wide =
      take_law (λ i b. after_unsigned (plain_base (kind_of b)) (r' i) b) (λ i u. Ok (unsigned_of to, u.1)) (λ u. Ok (unsigned_of to, u.1)) m l r r' kind ts room wide is (some_not_end plain_base to kind refl e)
      (λ i p b. ap (λ o. after_unsigned o (r' i) (record { kind = kind; place = p } ∷ b)) e) (λ q rest. pure_law (unsigned_of to) rest (unsigned_base l p q kind to e))
  unsigned_law l r r' p kind None ts is e room wide =
      stop_law (λ i c b. after_unsigned (plain_base c) (r' i) b) kind ts the_ty.Unsigned is g.unsigned (λ i b. ap (λ o. after_unsigned o (r' i) b) e) (λ i. refl)

  base_by_law : (l r : ℕ) (r' : I → ℕ) (kind : Kind) (to : Option Ty) (u : Bool) (ts : List Token)
      → kind_of ts ≡ kind → plain_base kind ≡ to → is_unsigned kind ≡ u → r ≡ m - l
      → ((i : I) → r ≤ r' i)
      → Lawful m (plain (IsBase l)) (λ i b. base (r' i) b) ts (base_by to u r ts)
  base_by_law l r r' kind (Some to) u ts is e h room wide =
      take_law (λ i b. base (r' i) b) (λ i u. Ok (to, u.1)) (λ u. Ok (to, u.1)) m l r r' kind ts room wide is (some_not_end plain_base to kind refl e)
      (λ i p b. ap (λ o. base_by o (is_unsigned kind) (r' i) (record { kind = kind; place = p } ∷ b)) e) (λ q rest. pure_law to rest (g.plain e))
  base_by_law l r r' kind None true ts is e h room wide =
      let word = same_is kind (k.Reserved UNSIGNED.now) h in
      take_law (λ i b. base (r' i) b) (λ i u. after_unsigned (plain_base (kind_of u.1)) (r' i) u.1) (λ u. after_unsigned (plain_base (kind_of u.1)) r u.1) m l r r' (k.Reserved UNSIGNED.now) ts room wide (is ∙ word) (λ e. cc)
      (λ i p b. refl) (λ p rest. unsigned_law l r r' p (kind_of rest) (plain_base (kind_of rest)) rest refl refl room wide)
  base_by_law l r r' kind None false ts is e h room wide =
      refuse_law (λ i c b. base_by (plain_base c) (is_unsigned c) (r' i) b) kind ts is (record { spelling = _; value = _; holds = g.unsigned {p = nowhere} })
      (λ i b. ap₂ (λ o u. base_by o u (r' i) b) e h) (λ i. refl)

  pub base_law : (l r : ℕ) (r' : I → ℕ) (ts : List Token) → r ≡ m - l → ((i : I) → r ≤ r' i)
      → Lawful m (plain (IsBase l)) (λ i b. base (r' i) b) ts (base r ts)
  base_law l r r' ts room wide = base_by_law l r r' (kind_of ts) (plain_base (kind_of ts)) (is_unsigned (kind_of ts)) ts refl refl refl room wide
