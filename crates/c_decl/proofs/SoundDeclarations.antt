-- The law of declarations (C11 6.7), through their semicolon.
use Rattle.std.proofs.Common.{◌≡◌, ◌≤◌, ◌+◌, ◌-◌, ℕ, List, [], ◌∷◌, ◌++◌, Ok, refl, sym, ap, ◌∙◌, subst, arith, append_assoc, append-nil, inl, inr}
use Rattle.c_token.specs.declared.token.Token.{Token}
use Rattle.c_tree.specs.declared.place.Place.{Place}
use Rattle.c_tree.specs.Ty.{Ty}
use Rattle.c_tree.specs.Var.{Var}
use Rattle.c_expr.specs.Leveled.{Leveled, at}
use Rattle.c_expr.specs.Grammar.{IsBase}
use Rattle.c_expr.specs.Next.{◌>>=◌, nowhere, base}
use Rattle.c_expr.proofs.Law.{Lawful, bind_law, weaken, pure_law, plain}
use Rattle.c_expr.proofs.ParserTurns.{Turn}
use Rattle.c_expr.proofs.ExpressionFronts.{expect_law, base_law}
use Rattle.c_decl.specs.Declarations as g
use Rattle.c_decl.specs.Declarations.{IsDecl, IsDecls, IsVars}
use Rattle.c_decl.specs.private.DeclarationReading.{declarator, declarator_turn_by, declarator_turn, more_declarators, vars as vars_reader}
use Rattle.c_decl.proofs.SoundParts.{Sound, chosen, turned}
use Rattle.c_decl.proofs.SoundDeclarators.{moved, declarator_law}
use Rattle.c_expr.specs.declared.punctuator.TheConstants.{COMMA, SEMICOLON}
use Rattle.c_token.specs.declared.token.Kind.TheVariants as k

-- what is left of declarators, with the semicolon
pub data DeclaratorsLeft (l : ℕ) (base : Ty) (found : List Var) : List Leveled → List Var → Type 0 where
  none : (q : Place) → DeclaratorsLeft l base found (at l (k.Sign SEMICOLON) q ∷ []) found
  more : {c : List Leveled} {ds : List Var} (p q : Place) → IsDecls l base c ds
      → DeclaratorsLeft l base found
      (at l (k.Sign COMMA) p ∷ (c ++ at l (k.Sign SEMICOLON) q ∷ [])) (found ++ ds)

declarator_goes : (l : ℕ) (base : Ty) (p : Place) (found : List Var) (d : Var) (a c : List Leveled)
    (ds : List Var) → IsDecl l base a d → DeclaratorsLeft l base (found ++ d ∷ []) c ds
    → DeclaratorsLeft l base found ((at l (k.Sign COMMA) p ∷ (a ++ [])) ++ c) ds
declarator_goes l base p found d a _ _ h (none q) =
    subst (λ b. DeclaratorsLeft l base found (at l (k.Sign COMMA) p ∷ (b ++ at l (k.Sign SEMICOLON) q ∷ [])) (found ++ d ∷ [])) (sym (append-nil a)) (more p q (g.one h))
declarator_goes l base p found d a _ _ h (more {c = c} {ds = ds} w q i) =
    let comma = at l (k.Sign COMMA) w in
    let ended = at l (k.Sign SEMICOLON) q in
    moved (DeclaratorsLeft l base found) found d ds
    (ap (λ b. at l (k.Sign COMMA) p ∷ b) (append_assoc a (comma ∷ c) (ended ∷ []) ∙ ap (λ b. b ++ (comma ∷ (c ++ ended ∷ []))) (sym (append-nil a)))) (more p q (g.more w h i))

declarator_turn_law : (I : Type 0) (m : ℕ) (base : Ty) (l r : ℕ) (r' : I → ℕ) (found : List Var)
    (ts : List Token) → r ≡ m - l → ((i : I) → r ≤ r' i)
    → Lawful m (Turn (λ found. plain (DeclaratorsLeft l base found)) found) (λ i. declarator_turn base (r' i) found) ts (declarator_turn base r found ts)
declarator_turn_law I m base l r r' found ts room wide = chosen (λ s c b. declarator_turn_by c base s found b) _ m l r r' (k.Sign COMMA) ts room wide (refl, refl) (λ s b. refl)
    (λ p rest. bind_law (λ i d. Ok (inl (found ++ d.0 ∷ []), d.1)) (λ d. Ok (inl (found ++ d.0 ∷ []), d.1)) (declarator_law I m base l r r' rest room wide) (λ d us a h cut.
    pure_law (inl (found ++ d ∷ [])) us (omega arith, λ c ds vs i. declarator_goes l base p found d a c ds h i)))
    (λ other. expect_law (λ i c. Ok (inr found, c.1)) (λ c. Ok (inr found, c.1)) m l r r' (k.Sign SEMICOLON) ts room wide (refl, refl) (λ q us. pure_law (inr found) us (none q)))

more_law : (I : Type 0) (m : ℕ) (base : Ty) (d : Var)
    → Sound I m (λ l. plain (DeclaratorsLeft l base (d ∷ []))) (more_declarators base d)
more_law I m base d l r r' ts room wide =
    turned (λ found. plain (DeclaratorsLeft l base found)) (λ found. record { spelling = _; value = _; holds = none nowhere }) (λ i. declarator_turn base (r' i)) (declarator_turn base r) (λ i. r' i + l) (d ∷ []) ts (λ i found. refl)
    (λ i found us. declarator_turn_law (Unit {0}) (r' i + l) base l (r' i) (λ u. r' i) found us (omega arith) (λ u. omega arith))
    (λ found us. declarator_turn_law I m base l r r' found us room wide)

-- declarators, and their semicolon
pub data DeclsThrough (l : ℕ) (base : Ty) : List Leveled → List Var → Type 0 where
  decls : {a : List Leveled} {ds : List Var} (q : Place) → IsDecls l base a ds
      → DeclsThrough l base (a ++ at l (k.Sign SEMICOLON) q ∷ []) ds

declarators_end : (l : ℕ) (base : Ty) (a b : List Leveled) (d : Var) (ds : List Var)
    → IsDecl l base a d → DeclaratorsLeft l base (d ∷ []) b ds → DeclsThrough l base (a ++ b) ds
declarators_end l base a _ _ _ h (none q) = decls q (g.one h)
declarators_end l base a _ d _ h (more {c = c} {ds = ds} p q i) =
    subst (λ b. DeclsThrough l base b (d ∷ ds)) (append_assoc a (at l (k.Sign COMMA) p ∷ c) (at l (k.Sign SEMICOLON) q ∷ [])) (decls q (g.more p h i))

-- behind the first declarator
pub through_law : (I : Type 0) (m : ℕ) (base : Ty) (a : List Leveled) (d : Var) (l r : ℕ)
    (r' : I → ℕ) (ts : List Token) → IsDecl l base a d → r ≡ m - l → ((i : I) → r ≤ r' i)
    → Lawful m (λ b ds us. DeclsThrough l base (a ++ b) ds) (λ i. more_declarators base d (r' i)) ts (more_declarators base d r ts)
through_law I m base a d l r r' ts h room wide =
    weaken _ (λ i. more_declarators base d (r' i)) (λ b ds us i. declarators_end l base a b d ds h i) (λ i b. refl) (more_law I m base d l r r' ts room wide)

-- declarations, and their semicolon
pub data VarsThrough (l : ℕ) : List Leveled → List Var → Type 0 where
  vars : {a : List Leveled} {ds : List Var} (q : Place) → IsVars l a ds
      → VarsThrough l (a ++ at l (k.Sign SEMICOLON) q ∷ []) ds

pub vars_end : (l : ℕ) (base : Ty) (a b : List Leveled) (ds : List Var) → IsBase l a base
    → DeclsThrough l base b ds → VarsThrough l (a ++ b) ds
vars_end l base a _ ds h (decls {a = b} q i) = subst (λ d. VarsThrough l d ds) (append_assoc a b (at l (k.Sign SEMICOLON) q ∷ [])) (vars q (g.vars h i))

pub vars_law : (I : Type 0) (m : ℕ) → Sound I m (λ l. plain (VarsThrough l)) vars_reader
vars_law I m l r r' ts room wide =
    bind_law _ _ (base_law I m l r r' ts room wide) (λ to rest a h cut.
    weaken _ (λ i b. declarator to (r' i) b >>= λ d. more_declarators to d.0 (r' i) d.1) (λ b ds us i. vars_end l to a b ds h i) (λ i b. refl)
    (bind_law {S = plain (DeclsThrough l to)} (λ i d. more_declarators to d.0 (r' i) d.1) (λ d. more_declarators to d.0 r d.1) (declarator_law I m to l r r' rest room wide) (λ d us b i cut.
    through_law I m to b d l r r' us i room wide)))
