-- The law of parameters (C11 6.7.6.3), through their closing parenthesis.
use Rattle.std.proofs.Common.{◌≡◌, ◌≤◌, ◌+◌, ◌-◌, ℕ, zero, suc, List, [], ◌∷◌, ◌++◌, Option, Some, None, Ok, refl, sym, subst, arith, append-nil, inl, inr, Bool, true, false}
use Rattle.c_token.specs.declared.token.Token.{Token}
use Rattle.c_token.specs.declared.token.Kind.{Kind}
use Rattle.c_token.specs.declared.token.Kind.TheVariants as k
use Rattle.c_tree.specs.declared.place.Place.{Place}
use Rattle.c_tree.specs.Ty.{Ty}
use Rattle.c_tree.specs.Fun.{Param}
use Rattle.c_expr.specs.Leveled.{Leveled, at}
use Rattle.c_expr.specs.Grammar as e
use Rattle.c_expr.specs.Grammar.{IsBase}
use Rattle.c_expr.specs.Next.{◌>>=◌, kind_of, place_of, nowhere, base}
use Rattle.c_expr.proofs.Law.{Lawful, Some_of, bind_law, weaken, pure_law, ended, stop_law, take_law, place_law, plain}
use Rattle.c_expr.proofs.ParserTurns.{Turn}
use Rattle.c_expr.proofs.Sound.{longer}
use Rattle.c_expr.proofs.ExpressionFronts.{expect_law, base_law}
use Rattle.c_decl.specs.GrammarWords.{word}
use Rattle.c_decl.specs.Declarations as g
use Rattle.c_decl.specs.Declarations.{IsStars, IsParam, IsParamList, IsParams}
use Rattle.c_expr.specs.private.ExpressionReading.{after_element}
use Rattle.c_decl.specs.private.DeclarationReading.{is_next, stars_from, brackets_by, brackets, own_name_by, own_name, behind_stars, parameter, parameter_turn, parameter_list, parameters_by, parameters}
use Rattle.c_decl.proofs.SoundParts.{Sound, chosen, turned, FirstAt, front_law, base_some}
use Rattle.c_decl.proofs.SoundDeclarators.{moved, grouped_item, stars_law}
use Rattle.c_expr.specs.declared.punctuator.TheConstants.{PARENTHESIS_CLOSE, BRACKET_OPEN, BRACKET_CLOSE, COMMA}
use Rattle.c_decl.specs.declared.reserved.TheConstants.{VOID}

-- `[` and `]`, if they stand there
data IsBrackets (l : ℕ) : List Leveled → Bool → Type 0 where
  none : IsBrackets l [] false
  some : (p q : Place) → IsBrackets l
      (at l (k.Sign BRACKET_OPEN) p ∷ (at (suc l) (k.Sign BRACKET_CLOSE) q ∷ [])) true

narrower : {r r' : ℕ} → r ≤ r' → r - 1 ≤ r' - 1
narrower h = omega arith

brackets_law : (I : Type 0) (m : ℕ) → Sound I m (λ l. plain (IsBrackets l)) brackets
brackets_law I m l r r' ts room wide = chosen (λ s c b. brackets_by c s b) _ m l r r' (k.Sign BRACKET_OPEN) ts room wide (refl, refl) (λ s b. refl)
    (λ p rest. expect_law _ _ m (suc l) (r - 1) (λ i. r' i - 1) (k.Sign BRACKET_CLOSE) rest (omega arith) (λ i. narrower (wide i)) (refl, refl) (λ q us. pure_law true us (some p q)))
    (λ other. pure_law false ts none)

-- a parameter's name, if it has one, with the place of the parameter
data IsOwnName (l : ℕ) (place : Place) : List Leveled → Option (List ℕ) × Place → Type 0 where
  unnamed : IsOwnName l place [] (None, place)
  named : {n : List ℕ} (p : Place) → IsOwnName l place (at l (k.Name n) p ∷ []) (Some n, p)

own_name_by_law : (I : Type 0) (m : ℕ) (place : Place) (l r : ℕ) (r' : I → ℕ) (kind : Kind)
    (ts : List Token) → r ≡ m - l → ((i : I) → r ≤ r' i) → kind_of ts ≡ kind
    → Lawful m (plain (IsOwnName l place)) (λ i. own_name place (r' i)) ts (own_name_by kind place r ts)
own_name_by_law I m place l r r' (k.Name n) ts room wide is = take_law (λ i. own_name place (r' i)) _ _ m l r r' (k.Name n) ts room wide is (λ e. cc) (λ i p b. refl) (λ p rest. pure_law (Some n, p) rest (named p))
own_name_by_law I m place l r r' kind ts room wide is = stop_law (λ i c b. own_name_by c place (r' i) b) kind ts (None, place) is unnamed (λ i b. refl) (λ i. refl)

own_name_law : (I : Type 0) (m : ℕ) (place : Place)
    → Sound I m (λ l. plain (IsOwnName l place)) (own_name place)
own_name_law I m place l r r' ts room wide = own_name_by_law I m place l r r' (kind_of ts) ts room wide refl

param_of : (l n : ℕ) (base : Ty) (place : Place) (a b c d : List Leveled)
    (own : Option (List ℕ) × Place) (array : Bool) → IsBase l a base → FirstAt place a
    → IsStars l n b → IsOwnName (l + n) place c own → IsBrackets (l + n) d array
    → IsParam l (a ++ (b ++ (c ++ d))) (record { base = base; stars = n; name = own.0; place = own.1; array = array })
param_of l n base place [] b c d own array h at_first i j w = absurd at_first
param_of l n base place (first ∷ a) b _ _ _ _ h at_first i unnamed none =
    subst (λ p. IsParam l (first ∷ (a ++ (b ++ []))) (record { base = base; stars = n; name = None; place = p; array = false })) at_first
    (subst (λ c. IsParam l (first ∷ (a ++ c)) (record { base = base; stars = n; name = None; place = first.token.place; array = false })) (sym (append-nil b)) (g.unnamed h i))
param_of l n base place (first ∷ a) b _ _ _ _ h at_first i unnamed (some p q) =
    subst (λ p'. IsParam l (first ∷ (a ++ (b ++ at (l + n) (k.Sign BRACKET_OPEN) p ∷ (at (suc (l + n)) (k.Sign BRACKET_CLOSE) q ∷ [])))) (record { base = base; stars = n; name = None; place = p'; array = true })) at_first (g.unnamed_array p q h i)
param_of l n base place (first ∷ a) b _ _ _ _ h at_first i (named p) none = g.named p h i
param_of l n base place (first ∷ a) b _ _ _ _ h at_first i (named w) (some p q) = g.named_array w p q h i

parameter_law : (I : Type 0) (m : ℕ) → Sound I m (λ l. plain (IsParam l)) parameter
parameter_law I m l r r' ts room wide =
    place_law (plain (IsParam l)) (λ i place b. base (r' i) b >>= λ to. stars_from (r' i) 0 to.1 >>= λ stars. behind_stars to.0 stars.0.0 place stars.0.1 stars.1) (place_of ts) ts _ refl
    (bind_law (λ i to. stars_from (r' i) 0 to.1 >>= λ stars. behind_stars to.0 stars.0.0 (place_of ts) stars.0.1 stars.1) (λ to. stars_from r 0 to.1 >>= λ stars. behind_stars to.0 stars.0.0 (place_of ts) stars.0.1 stars.1)
    (front_law (IsBase l) (place_of ts) ts refl (record { spelling = _; value = _; holds = (e.unsigned {l = l} {p = place_of ts}, refl) }) (λ to h. (let some = base_some h in omega arith)) (base_law I m l r r' ts room wide)) (λ to rest a h cut.
    stars_law m (λ b x us. IsParam l (a ++ b) x) (λ i stars. behind_stars to stars.0.0 (place_of ts) stars.0.1 stars.1) (λ stars. behind_stars to stars.0.0 (place_of ts) stars.0.1 stars.1) l
    (λ n s s' b us i room wide. bind_law _ _ (own_name_law I m (place_of ts) (l + n) s s' us room wide) (λ own vs c j cut.
    bind_law _ _ (brackets_law I m (l + n) s s' vs room wide) (λ array ws d w cut.
    pure_law (record { base = to; stars = n; name = own.0; place = own.1; array = array }) ws
    (ended (λ d x. IsParam l (a ++ (b ++ (c ++ d))) x) (param_of l n to (place_of ts) a b c d own array h.0 h.1 i j w)))))
    r zero r' [] rest g.none (omega arith) wide))
    (λ i. refl)

-- what is left of parameters, with the closing parenthesis
data ParametersLeft (l : ℕ) (found : List Param) : List Leveled → List Param → Type 0 where
  left : {c : List Leveled} {zs : List Param} (q : Place) → IsParamList l c zs
      → ParametersLeft l found (c ++ at l (k.Sign PARENTHESIS_CLOSE) q ∷ []) (found ++ zs)

parameter_goes : (l : ℕ) (p : Place) (found : List Param) (x : Param) (a c : List Leveled)
    (y : List Param) → IsParam l a x → ParametersLeft l (found ++ x ∷ []) c y
    → ParametersLeft l found ((a ++ at l (k.Sign COMMA) p ∷ []) ++ c) y
parameter_goes l p found x a _ _ h (left {c = c} {zs = zs} q i) =
    moved (ParametersLeft l found) found x zs (grouped_item a (at l (k.Sign COMMA) p) c (at l (k.Sign PARENTHESIS_CLOSE) q ∷ [])) (left q (g.more p h i))

parameter_turn_law : (I : Type 0) (m l r : ℕ) (r' : I → ℕ) (found : List Param) (ts : List Token)
    → r ≡ m - l → ((i : I) → r ≤ r' i)
    → Lawful m (Turn (λ found. plain (ParametersLeft l found)) found) (λ i. parameter_turn (r' i) found) ts (parameter_turn r found ts)
parameter_turn_law I m l r r' found ts room wide =
    bind_law (λ i x. after_element (is_next (k.Sign COMMA) x.1) (r' i) (found ++ x.0 ∷ []) x.1) (λ x. after_element (is_next (k.Sign COMMA) x.1) r (found ++ x.0 ∷ []) x.1) (parameter_law I m l r r' ts room wide) (λ x rest a h cut.
    chosen (λ s c b. after_element c s (found ++ x ∷ []) b) _ m l r r' (k.Sign COMMA) rest room wide (refl, refl) (λ s b. refl)
    (λ p us. pure_law (inl (found ++ x ∷ [])) us (longer a (at l (k.Sign COMMA) p), λ c y vs i. parameter_goes l p found x a c y h i))
    (λ other. expect_law (λ i c. Ok (inr (found ++ x ∷ []), c.1)) (λ c. Ok (inr (found ++ x ∷ []), c.1)) m l r r' (k.Sign PARENTHESIS_CLOSE) rest room wide (refl, refl) (λ q us.
    pure_law (inr (found ++ x ∷ [])) us (left q (g.one h)))))

some_parameter : (l : ℕ) → Some_of (plain (IsParam l))
some_parameter l = record { spelling = _; value = _; holds = g.named {name = []} nowhere (e.unsigned {l = l} {p = nowhere}) g.none }

parameter_list_law : (I : Type 0) (m : ℕ)
    → Sound I m (λ l. plain (ParametersLeft l [])) parameter_list
parameter_list_law I m l r r' ts room wide =
    turned (λ found. plain (ParametersLeft l found)) (λ found. record { spelling = _; value = _; holds = left nowhere (g.one (some_parameter l).holds) }) (λ i. parameter_turn (r' i)) (parameter_turn r) (λ i. r' i + l) [] ts (λ i found. refl)
    (λ i found us. parameter_turn_law (Unit {0}) (r' i + l) l (r' i) (λ u. r' i) found us (omega arith) (λ u. omega arith))
    (λ found us. parameter_turn_law I m l r r' found us room wide)

-- parameters, and their closing parenthesis
pub data ParamsThrough (l : ℕ) : List Leveled → List Param → Type 0 where
  params : {a : List Leveled} {xs : List Param} (q : Place) → IsParams l a xs
      → ParamsThrough l (a ++ at l (k.Sign PARENTHESIS_CLOSE) q ∷ []) xs

parameters_end : (l : ℕ) (a : List Leveled) (xs : List Param) → ParametersLeft l [] a xs
    → ParamsThrough l a xs
parameters_end l _ _ (left q h) = params q (g.some h)

pub parameters_law : (I : Type 0) (m : ℕ) → Sound I m (λ l. plain (ParamsThrough l)) parameters
parameters_law I m l r r' ts room wide =
    chosen (λ s c b. parameters_by c (is_next (word VOID.now) b) s b) _ m l r r' (k.Sign PARENTHESIS_CLOSE) ts room wide (refl, refl) (λ s b. refl) (λ q rest. pure_law [] rest (params q g.nothing))
    (λ other. chosen (λ s c b. parameters_by false c s b) _ m l r r' (word VOID.now) ts room wide (refl, refl) (λ s b. refl)
    (λ p rest. expect_law _ _ m l r r' (k.Sign PARENTHESIS_CLOSE) rest room wide (refl, refl) (λ q us. pure_law [] us (params q (g.void p))))
    (λ not_void. weaken _ (λ i. parameter_list (r' i)) (λ b xs us h. parameters_end l b xs h) (λ i b. refl) (parameter_list_law I m l r r' ts room wide)))
