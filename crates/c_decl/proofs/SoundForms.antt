-- The law of each form of statement, by the law of the statements in it (C11 6.8).
use Rattle.std.proofs.Common.{◌≡◌, ◌<◌, ◌≤◌, ◌+◌, ◌-◌, ℕ, List, [], ◌∷◌, ◌++◌, length, Ok, refl, sym, ap, ◌∙◌, subst, arith, append_assoc, append-nil, inl, inr, Bool, true, false}
use Rattle.c_token.specs.declared.token.Token.{Token}
use Rattle.c_tree.specs.declared.place.Place.{Place}
use Rattle.c_tree.specs.Var.{Var}
use Rattle.c_tree.specs.Stmt.{Stmt}
use Rattle.c_tree.specs.Stmt as the_stmt
use Rattle.c_expr.specs.Leveled.{Leveled, at}
use Rattle.c_expr.specs.Next.{◌>>=◌, kind_of, place_of, nowhere, refuse, is_base}
use Rattle.c_expr.proofs.Law.{Lawful, bind_law, weaken, pure_law, ended, place_law, plain}
use Rattle.c_expr.proofs.ParserTurns.{Turn}
use Rattle.c_decl.specs.GrammarWords.{word}
use Rattle.c_decl.specs.Declarations.{IsVars}
use Rattle.c_decl.specs.StatementGrammar as g
use Rattle.c_decl.specs.StatementGrammar.{IsMarker, IsStatement, IsBlock, IsBody}
use Rattle.c_decl.specs.private.StatementReading.{declaration_at, part_by, part, body_turn_by, body_turn, body, statement}
use Rattle.c_decl.proofs.SoundParts.{choose_by, choose_taken, turned, FirstAt}
use Rattle.c_decl.proofs.SoundDeclarations.{VarsThrough, vars as through}
use Rattle.c_decl.proofs.SoundDeclarators.{moved}
use Rattle.c_decl.proofs.SoundHeads.{vars_some, vars_at}
use Rattle.c_decl.proofs.SoundRefused.{statement_refuses}
use Rattle.c_expr.specs.declared.punctuator.TheConstants.{BRACE_CLOSE, SEMICOLON}
use Rattle.c_token.specs.declared.token.Kind.TheVariants as k
use Rattle.c_decl.specs.declared.reserved.TheConstants.{ELSE}

-- a statement that was read before the rest
pub record ReadStatement (l : ℕ) (a : List Leveled) (s : Stmt) (rest : List Token) : Type 0 where
  pub open_if : Bool
  pub spelled : IsStatement open_if l a s
  pub no_else : kind_of rest ≡ word ELSE.now → open_if ≡ false

pub closed : {l : ℕ} {a : List Leveled} {s : Stmt} (rest : List Token) → IsStatement false l a s
    → ReadStatement l a s rest
closed rest h = record { open_if = false; spelled = h; no_else = λ e. refl }

pub statement_some : {o : Bool} {l : ℕ} {a : List Leveled} {s : Stmt} → IsStatement o l a s
    → 0 < length a
statement_some (g.block h) = omega arith
statement_some g.empty = omega arith
statement_some (g.expression p h) = omega arith
statement_some (g.marker h) = omega arith
statement_some (g.if q r h i) = omega arith
statement_some (g.if_else q r e h i j) = omega arith
statement_some (g.while q r h i) = omega arith
statement_some (g.do_while w q r e h i) = omega arith
statement_some (g.for q r t u h i j w) = omega arith
statement_some (g.return q h) = omega arith
statement_some (g.break q) = omega arith
statement_some (g.continue q) = omega arith

-- a statement or a declaration in a block
data IsPart (l : ℕ) : List Leveled → Stmt → List Token → Type 0 where
  stmt : {a : List Leveled} {s : Stmt} {rest : List Token} → ReadStatement l a s rest
      → IsPart l a s rest
  declared : {first : Leveled} {a : List Leveled} {ds : List Var} {rest : List Token} (q : Place)
      → IsVars l (first ∷ a) ds
      → IsPart l (first ∷ (a ++ at l (k.Sign SEMICOLON) q ∷ []))
      (the_stmt.Vars ds first.token.place) rest

declared_part : (l : ℕ) (place : Place) (a : List Leveled) (ds : List Var) (rest : List Token)
    → VarsThrough l a ds → FirstAt place a → IsPart l a (the_stmt.Vars ds place) rest
declared_part l place _ ds rest (through {a = a} q h) first = go a h first
  where
    go : (a : List Leveled) → IsVars l a ds → FirstAt place (a ++ at l (k.Sign SEMICOLON) q ∷ [])
        → IsPart l (a ++ at l (k.Sign SEMICOLON) q ∷ []) (the_stmt.Vars ds place) rest
    go [] h first = absurd (let some = vars_some h in omega arith)
    go (x ∷ a) h first = subst (λ p. IsPart l (x ∷ (a ++ at l (k.Sign SEMICOLON) q ∷ [])) (the_stmt.Vars ds p) rest) first (declared q h)

part_some : {l : ℕ} {a : List Leveled} {s : Stmt} {rest : List Token} → IsPart l a s rest
    → 0 < length a
part_some (stmt h) = statement_some h.spelled
part_some (declared q h) = omega arith

-- what is left of a block, with the closing brace
pub data BodyLeft (l : ℕ) (found : List Stmt) : List Leveled → List Stmt → Type 0 where
  left : {c : List Leveled} {ss : List Stmt} (q : Place) → IsBody l c ss
      → BodyLeft l found (c ++ at l (k.Sign BRACE_CLOSE) q ∷ []) (found ++ ss)

one_more : (l : ℕ) (a c : List Leveled) (s : Stmt) (ss : List Stmt) (rest : List Token)
    → IsPart l a s rest → IsBody l c ss → IsBody l (a ++ c) (s ∷ ss)
one_more l _ c s ss rest (stmt h) i = g.stmt h.spelled i
one_more l _ c _ ss rest (declared {first = first} {a = a} {ds = ds} q h) i =
    subst (λ b. IsBody l (first ∷ b) (the_stmt.Vars ds first.token.place ∷ ss)) (sym (append_assoc a (at l (k.Sign SEMICOLON) q ∷ []) c)) (g.vars q h i)

part_goes : (l : ℕ) (found : List Stmt) (a c : List Leveled) (s : Stmt) (ss : List Stmt)
    (rest : List Token) → IsPart l a s rest → BodyLeft l (found ++ s ∷ []) c ss
    → BodyLeft l found ((a ++ []) ++ c) ss
part_goes l found a _ s _ rest h (left {c = c} {ss = ss} q i) =
    moved (BodyLeft l found) found s ss (append_assoc a c (at l (k.Sign BRACE_CLOSE) q ∷ []) ∙ ap (λ b. b ++ (c ++ at l (k.Sign BRACE_CLOSE) q ∷ [])) (sym (append-nil a))) (left q (one_more l a c s ss rest h i))

-- what holds of statements, with this depth in both, or with more in one
abbrev pub StatementLaw : (I : Type 0) → ℕ → ℕ → (I → ℕ) → Type 0
StatementLaw I m f f' = (l r : ℕ) (r' : I → ℕ) (ts : List Token) → r ≡ m - l → r ≤ f → ((i : I) → (r ≤ r' i) × (r' i ≤ f' i)) → Lawful m (ReadStatement l) (λ i. statement (f' i) (r' i)) ts (statement f r ts)

abbrev pub Wide : {I : Type 0} → (I → ℕ) → ℕ → (I → ℕ) → Type 0
Wide {I = I} f' r r' = (i : I) → (r ≤ r' i) × (r' i ≤ f' i)

-- blocks
part_law : (I : Type 0) (m f : ℕ) (f' : I → ℕ) → StatementLaw I m f f'
    → (l r : ℕ) (r' : I → ℕ) (ts : List Token) → r ≡ m - l → r ≤ f → Wide f' r r'
    → Lawful m (IsPart l) (λ i. part (statement (f' i)) (r' i)) ts (part (statement f) r ts)
part_law I m f f' statements l r r' ts room deep wide =
    choose_by is_base (λ i c b. part_by (statement (f' i)) c (r' i) b) (λ c. part_by (statement f) c r ts) ts (λ i c. ends i false ∙ sym (ends i c)) go
  where
    ends : (i : I) (c : Bool) → part_by (statement (f' i)) c (r' i) [] ≡ refuse []
    ends i true = refl
    ends i false = statement_refuses (f' i) (r' i) [] refl

    go : (c : Bool) → is_base (kind_of ts) ≡ c
        → Lawful m (IsPart l) (λ i b. part_by (statement (f' i)) c (r' i) b) ts
        (part_by (statement f) c r ts)
    go true is = place_law (IsPart l) (λ i place b. declaration_at place (r' i) b) (place_of ts) ts _ refl
        (bind_law (λ i d. Ok (the_stmt.Vars d.0 (place_of ts), d.1)) (λ d. Ok (the_stmt.Vars d.0 (place_of ts), d.1)) (vars_at I m (place_of ts) l r r' ts refl room (λ i. (wide i).0)) (λ ds us a h cut.
        pure_law (the_stmt.Vars ds (place_of ts)) us (ended (λ a s. IsPart l a s us) (declared_part l (place_of ts) a ds us h.0 h.1)))) (λ i. refl)
    go false is = weaken (IsPart l) (λ i. statement (f' i) (r' i)) (λ b s us h. stmt h) (λ i b. refl) (statements l r r' ts room deep wide)

body_turn_law : (I : Type 0) (m f : ℕ) (f' : I → ℕ) → StatementLaw I m f f'
    → (l r : ℕ) (r' : I → ℕ) (found : List Stmt) (ts : List Token) → r ≡ m - l → r ≤ f
    → Wide f' r r'
    → Lawful m (Turn (λ found. plain (BodyLeft l found)) found) (λ i. body_turn (statement (f' i)) (r' i) found) ts (body_turn (statement f) r found ts)
body_turn_law I m f f' statements l r r' found ts room deep wide =
    choose_taken (λ i c b. body_turn_by (statement (f' i)) c (r' i) found b) (λ c. body_turn_by (statement f) c r found ts) (λ i u. Ok (inr found, u.1)) (λ u. Ok (inr found, u.1)) m l r r' (k.Sign BRACE_CLOSE) ts room (λ i. (wide i).0) (refl, refl) (λ i b. refl) refl
    (λ p rest. pure_law (inr found) rest (subst (λ ss. BodyLeft l found (at l (k.Sign BRACE_CLOSE) p ∷ []) ss) (append-nil found) (left p g.none)))
    (λ other. bind_law (λ i s. Ok (inl (found ++ s.0 ∷ []), s.1)) (λ s. Ok (inl (found ++ s.0 ∷ []), s.1)) (part_law I m f f' statements l r r' ts room deep wide) (λ s rest a h cut.
    pure_law (inl (found ++ s ∷ [])) rest (subst (λ c. 0 < length c) (sym (append-nil a)) (part_some h), λ c ss vs i. part_goes l found a c s ss rest h i)))

body_empty : (f r : ℕ) (found : List Stmt) → body_turn (statement f) r found [] ≡ refuse []
body_empty f r found = ap (λ o. o >>= λ s. Ok (inl (found ++ s.0 ∷ []), s.1)) (statement_refuses f r [] refl)

pub body_law : (I : Type 0) (m f : ℕ) (f' : I → ℕ) → StatementLaw I m f f'
    → ((i : I) (n : ℕ) → StatementLaw (Unit {0}) n (f' i) (λ u. f' i))
    → (l r : ℕ) (r' : I → ℕ) (ts : List Token) → r ≡ m - l → r ≤ f → Wide f' r r'
    → Lawful m (plain (BodyLeft l [])) (λ i. body (statement (f' i)) (r' i)) ts (body (statement f) r ts)
body_law I m f f' statements single l r r' ts room deep wide =
    turned (λ found. plain (BodyLeft l found)) (λ found. record { spelling = _; value = _; holds = left nowhere g.none }) (λ i. body_turn (statement (f' i)) (r' i)) (body_turn (statement f) r) (λ i. r' i + l) [] ts (λ i found. body_empty (f' i) (r' i) found)
    (λ i found us. body_turn_law (Unit {0}) (r' i + l) (f' i) (λ u. f' i) (single i (r' i + l)) l (r' i) (λ u. r' i) found us (omega arith) (wide i).1 (λ u. (omega arith, (wide i).1)))
    (λ found us. body_turn_law I m f f' statements l r r' found us room deep wide)
