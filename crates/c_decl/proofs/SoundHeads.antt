-- The law of what a statement has beside its statements: expressions, tests, and what a `for` begins with.
use Rattle.std.proofs.Common.{◌≡◌, ◌<◌, ◌≤◌, ◌-◌, ℕ, suc, List, [], ◌∷◌, ◌++◌, length, Option, Some, None, Ok, refl, sym, ap, ◌∙◌, arith, length-append, Bool, true, false}
use Rattle.c_token.specs.declared.token.Token.{Token}
use Rattle.c_token.specs.declared.token.Kind.{Kind}
use Rattle.c_token.specs.declared.token.Kind.TheVariants as k
use Rattle.c_tree.specs.declared.place.Place.{Place}
use Rattle.c_tree.specs.Expr.{Expr}
use Rattle.c_tree.specs.Var.{Var}
use Rattle.c_tree.specs.First.{First}
use Rattle.c_tree.specs.First as for_first
use Rattle.c_expr.specs.private.ParserRules.{Assign}
use Rattle.c_expr.specs.Leveled.{Leveled, at}
use Rattle.c_expr.specs.Grammar as e
use Rattle.c_expr.specs.Grammar.{IsBase, IsAssign}
use Rattle.c_expr.specs.Next.{◌>>=◌, kind_of, place_of, nowhere, refuse, expect, is_base}
use Rattle.c_expr.specs.private.ExpressionReading.{ruled}
use Rattle.c_expr.proofs.Law.{Lawful, Some_of, bind_law, pure_law, ended, plain}
use Rattle.c_expr.proofs.Raised.{raised_assign}
use Rattle.c_expr.proofs.ParserRulesLemmas.{refuses}
use Rattle.c_expr.proofs.Sound.{longer}
use Rattle.c_expr.proofs.ExpressionFronts.{Expected, expect_law, unary_assign, begin_unary}
use Rattle.c_decl.specs.Declarations as d
use Rattle.c_decl.specs.Declarations.{IsVars}
use Rattle.c_decl.specs.StatementGrammar as g
use Rattle.c_decl.specs.StatementGrammar.{IsOptional, IsBeginning}
use Rattle.c_decl.specs.private.DeclarationReading.{vars as vars_reader}
use Rattle.c_decl.specs.private.StatementReading.{optional_by, optional as optional_reader, beginning_by, beginning as beginning_reader, test as test_reader}
use Rattle.c_decl.proofs.SoundParts.{Sound, ruled_sound, chosen, choose_by, FirstAt, front_law, base_some}
use Rattle.c_decl.proofs.SoundDeclarations.{VarsThrough, vars as through, vars_law}
use Rattle.c_expr.specs.declared.punctuator.TheConstants.{PARENTHESIS_OPEN, PARENTHESIS_CLOSE, SEMICOLON}

-- what is spelled has a token
pub assign_some : {l : ℕ} {a : List Leveled} {x : Expr} → IsAssign l a x → 0 < length a
assign_some h = let r = raised_assign h in omega (arith, ap length r.splits)

pub vars_some : {l : ℕ} {a : List Leveled} {ds : List Var} → IsVars l a ds → 0 < length a
vars_some (d.vars {a = a} {b = b} h i) = let some = base_some h in omega (arith, length-append a b)

through_some : {l : ℕ} {a : List Leveled} {ds : List Var} → VarsThrough l a ds → 0 < length a
through_some (through {a = a} q h) = longer a (at _ (k.Sign SEMICOLON) q)

-- something that is so spelled, from any place
pub assign_from : (l : ℕ) (p : Place) → Some_of (λ a x us. IsAssign l a x × FirstAt p a)
assign_from l p = let w = begin_unary (suc (suc l)) p (k.Character 0) refl in record { spelling = _ ∷ w.spelling; value = w.value; holds = (unary_assign l _ _ w.holds, refl) }

pub vars_from : (l : ℕ) (p : Place) → Some_of (λ a ds us. VarsThrough l a ds × FirstAt p a)
vars_from l p = record { spelling = _; value = _; holds = (through nowhere (d.vars (e.unsigned {l = l} {p = p}) (d.one (d.plain {name = []} nowhere d.none d.none))), refl) }

pub assign_at : (I : Type 0) (m : ℕ) (p : Place) (l r : ℕ) (r' : I → ℕ) (ts : List Token)
    → place_of ts ≡ p → r ≡ m - l → ((i : I) → r ≤ r' i)
    → Lawful m (λ a x us. IsAssign l a x × FirstAt p a) (λ i. ruled Assign (r' i)) ts
    (ruled Assign r ts)
assign_at I m p l r r' ts is room wide = front_law (IsAssign l) p ts is (assign_from l p) (λ x h. (let some = assign_some h in omega arith)) (ruled_sound I m Assign l r r' ts room wide)

pub vars_at : (I : Type 0) (m : ℕ) (p : Place) (l r : ℕ) (r' : I → ℕ) (ts : List Token)
    → place_of ts ≡ p → r ≡ m - l → ((i : I) → r ≤ r' i)
    → Lawful m (λ a ds us. VarsThrough l a ds × FirstAt p a) (λ i. vars_reader (r' i)) ts
    (vars_reader r ts)
vars_at I m p l r r' ts is room wide = front_law (VarsThrough l) p ts is (vars_from l p) (λ ds h. (let some = through_some h in omega arith)) (vars_law I m l r r' ts room wide)

-- an expression or none, and the sign that closes it
pub data OptionalThrough (closer : Kind) (l : ℕ) : List Leveled → Option Expr → Type 0 where
  optional : {a : List Leveled} {x : Option Expr} (q : Place) → IsOptional l a x
      → OptionalThrough closer l (a ++ at l closer q ∷ []) x

pub optional_law : (I : Type 0) (m : ℕ) (closer : Kind) → Expected closer
    → Sound I m (λ l. plain (OptionalThrough closer l)) (optional_reader closer)
optional_law I m closer known l r r' ts room wide = chosen (λ s c b. optional_by c closer s b) _ m l r r' closer ts room wide known (λ s b. refl) (λ q rest. pure_law None rest (optional q g.none))
    (λ other. bind_law _ _ (ruled_sound I m Assign l r r' ts room wide) (λ x us a h cut.
    expect_law (λ i c. Ok (Some x, c.1)) (λ c. Ok (Some x, c.1)) m l r r' closer us room wide known (λ q vs. pure_law (Some x) vs (optional q (g.some h)))))

-- what a `for` begins with, and its semicolon
pub data BeginningThrough (l : ℕ) : List Leveled → First → Type 0 where
  beginning : {a : List Leveled} {x : First} (q : Place) → IsBeginning l a x
      → BeginningThrough l (a ++ at l (k.Sign SEMICOLON) q ∷ []) x

declared_first : (l : ℕ) (a : List Leveled) (ds : List Var) → VarsThrough l a ds
    → BeginningThrough l a (for_first.Vars ds)
declared_first l _ ds (through q h) = beginning q (g.vars h)

pub assign_refused : (r : ℕ) → ruled Assign r [] ≡ refuse []
assign_refused r = refuses r Assign r [] refl

beginning_ends : (r : ℕ) (c : Bool) → beginning_by false c r [] ≡ refuse []
beginning_ends r true = refl
beginning_ends r false = ap (λ o. o >>= λ x. expect (k.Sign SEMICOLON) r x.1 >>= λ c. Ok (for_first.Expr x.0, c.1)) (assign_refused r)

pub beginning_law : (I : Type 0) (m : ℕ)
    → Sound I m (λ l. plain (BeginningThrough l)) beginning_reader
beginning_law I m l r r' ts room wide = chosen (λ s c b. beginning_by c (is_base (kind_of b)) s b) _ m l r r' (k.Sign SEMICOLON) ts room wide (refl, refl) (λ s b. refl) (λ q rest. pure_law for_first.Nothing rest (beginning q g.nothing))
    (λ other. choose_by is_base (λ i c b. beginning_by false c (r' i) b) (λ c. beginning_by false c r ts) ts (λ i c. beginning_ends (r' i) false ∙ sym (beginning_ends (r' i) c)) go)
  where
    go : (c : Bool) → is_base (kind_of ts) ≡ c
        → Lawful m (plain (BeginningThrough l)) (λ i b. beginning_by false c (r' i) b) ts
        (beginning_by false c r ts)
    go true is = bind_law _ _ (vars_law I m l r r' ts room wide) (λ ds us a h cut. pure_law (for_first.Vars ds) us (ended (BeginningThrough l) (declared_first l a ds h)))
    go false is = bind_law _ _ (ruled_sound I m Assign l r r' ts room wide) (λ x us a h cut.
        expect_law (λ i c. Ok (for_first.Expr x, c.1)) (λ c. Ok (for_first.Expr x, c.1)) m l r r' (k.Sign SEMICOLON) us room wide (refl, refl) (λ q vs. pure_law (for_first.Expr x) vs (beginning q (g.assign h))))

-- an expression in parentheses
pub data IsTest (l : ℕ) : List Leveled → Expr → Type 0 where
  test : {a : List Leveled} {x : Expr} (q r : Place) → IsAssign l a x
      → IsTest l (at l (k.Sign PARENTHESIS_OPEN) q ∷ (a ++ at l (k.Sign PARENTHESIS_CLOSE) r ∷ [])) x

pub test_law : (I : Type 0) (m : ℕ) → Sound I m (λ l. plain (IsTest l)) test_reader
test_law I m l r r' ts room wide =
    expect_law _ _ m l r r' (k.Sign PARENTHESIS_OPEN) ts room wide (refl, refl) (λ q us.
    bind_law _ _ (ruled_sound I m Assign l r r' us room wide) (λ x vs a h cut.
    expect_law (λ i c. Ok (x, c.1)) (λ c. Ok (x, c.1)) m l r r' (k.Sign PARENTHESIS_CLOSE) vs room wide (refl, refl) (λ t ws. pure_law x ws (test q t h))))
