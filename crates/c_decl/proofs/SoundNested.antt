-- The law of statements, at every depth.
use Rattle.std.proofs.Common.{◌≡◌, ◌<◌, ◌≤◌, ◌-◌, ℕ, zero, suc, List, [], ◌∷◌, Option, Some, None, Err, refl, ap, ◌∙◌, subst, arith, Bool, true, false}
use Rattle.std.specs.Prelude.{if◌then◌else◌}
use Rattle.c_token.specs.declared.token.Token.{Token}
use Rattle.c_token.specs.declared.token.Kind.{Kind}
use Rattle.c_tree.specs.declared.place.Place.{Place}
use Rattle.c_tree.specs.Stmt.{Stmt}
use Rattle.c_tree.specs.Stmt as stmt
use Rattle.c_expr.specs.declared.fault.ParseFault.TheVariants.{Unexpected, TooDeep}
use Rattle.c_expr.specs.Leveled.{Leveled, at}
use Rattle.c_expr.specs.Next.{kind_of, place_of, nowhere, begins}
use Rattle.c_expr.proofs.Binds.{found}
use Rattle.c_expr.proofs.Law.{Lawful, Some_of, weaken, unopened_law}
use Rattle.c_expr.proofs.ExpressionFronts.{begin_unary, unary_assign, some_assign, narrow_both}
use Rattle.c_decl.specs.GrammarWords.{word}
use Rattle.c_decl.specs.StatementGrammar as g
use Rattle.c_decl.specs.StatementGrammar.{IsMarker, IsStatement}
use Rattle.c_decl.specs.private.StatementReading.{openings, opening_of, begins_statement_by, begins_statement, opened, statement}
use Rattle.c_decl.specs.declared.opening.Opening.{Opening}
use Rattle.c_decl.proofs.SoundMarkers.{begin_numbered, begin_post}
use Rattle.c_decl.proofs.SoundRefused.{statement_refuses}
use Rattle.c_decl.proofs.SoundForms.{ReadStatement, closed, StatementLaw}
use Rattle.c_decl.proofs.SoundStatements.{opened_law}
use Rattle.c_expr.specs.declared.punctuator.TheConstants.{SEMICOLON}
use Rattle.c_token.specs.declared.token.Kind.TheVariants as k
use Rattle.c_decl.specs.declared.reserved.TheConstants.{BEGIN_PPR, END_PPR, WAIT}

-- a statement begins with a token of this kind, above the level of what is open outside
abbrev Begun : ℕ → Place → Kind → Type 0
Begun l p kind = (high : ℕ) × (l < high) × Some_of (λ b s us. ReadStatement l (at high kind p ∷ b) s us)

begun : {o : Bool} (l : ℕ) (p : Place) (kind : Kind) (b : List Leveled) (s : Stmt)
    → IsStatement o l (at (suc l) kind p ∷ b) s → Begun l p kind
begun {o = o} l p kind b s h = (suc l, omega arith, record { spelling = b; value = s; holds = record { open_if = o; spelled = h; no_else = λ e. cc } })

marked : (l : ℕ) (p : Place) (kind : Kind)
    → Some_of (λ b y us. IsMarker (suc l) (at (suc l) kind p ∷ b) y) → Begun l p kind
marked l p kind w = begun l p kind w.spelling _ (g.marker w.holds)

begin_opening : (l : ℕ) (p : Place) (kind : Kind) (which : Opening) → opening_of kind ≡ Some which
    → Begun l p kind
begin_opening l p kind which e =
    let some = (some_assign (suc l)).holds in
    let body : IsStatement false (suc l) (at (suc (suc l)) (k.Sign SEMICOLON) nowhere ∷ []) (stmt.Empty nowhere) = g.empty in
    let empty = begun l p _ _ _ (g.empty {l = l} {p = p}) in
    let block = begun l p _ _ _ (g.block (g.braces {l = suc l} p nowhere g.none)) in
    let branch = begun l p _ _ _ (g.if nowhere nowhere some body) in
    let loop = begun l p _ _ _ (g.while nowhere nowhere some body) in
    let once = begun l p _ _ _ (g.do_while nowhere nowhere nowhere nowhere body some) in
    let from = begun l p _ _ _ (g.for nowhere nowhere nowhere nowhere g.nothing g.none g.none body) in
    let returned = begun l p _ _ _ (g.return {l = l} {p = p} nowhere g.none) in
    let broken = begun l p _ _ _ (g.break {l = l} {p = p} nowhere) in
    let going_on = begun l p _ _ _ (g.continue {l = l} {p = p} nowhere) in
    let begins = marked l p _ (begin_numbered (suc l) p (word BEGIN_PPR.now) _ refl) in
    let ends = marked l p _ (begin_numbered (suc l) p (word END_PPR.now) _ refl) in
    let waits = marked l p _ (begin_numbered (suc l) p (word WAIT.now) _ refl) in
    let posts = marked l p _ (begin_post (suc l) p) in
    found (λ kind which. Begun l p kind) openings kind which (empty, (block, (branch, (loop, (once, (from, (returned, (broken, (going_on, (begins, (ends, (waits, (posts, tt))))))))))))) e

begin_statement : (l : ℕ) (p : Place) (kind : Kind) → begins_statement kind ≡ true → Begun l p kind
begin_statement l p kind e = go (opening_of kind) refl e
  where
    go : (which : Option Opening) → opening_of kind ≡ which
        → begins_statement_by which (begins kind) ≡ true → Begun l p kind
    go (Some which) is e = begin_opening l p kind which is
    go None is e =
        let w = begin_unary (suc (suc (suc l))) p kind e in
        (suc (suc (suc (suc l))), omega arith, record { spelling = _; value = _; holds = closed [] (g.expression nowhere (unary_assign (suc l) _ _ w.holds)) })

-- where no statement may be opened
start_law : (I : Type 0) (m : ℕ) (f' : I → ℕ) (l : ℕ) (r' : I → ℕ) (ts : List Token) (b : Bool)
    → begins_statement (kind_of ts) ≡ b → 0 ≡ m - l
    → Lawful m (ReadStatement l) (λ i. statement (f' i) (r' i)) ts (Err (if b then TooDeep (place_of ts) else Unexpected (place_of ts)))
start_law I m f' l r' ts b e room =
    unopened_law (λ i. statement (f' i) (r' i)) begins_statement l ts b e refl room (begin_statement l) (record { spelling = _; value = _; holds = closed {l = l} [] (g.empty {p = nowhere}) }) (λ i b no. statement_refuses (f' i) (r' i) b no)

abbrev Nested : (I : Type 0) → ℕ → (I → ℕ) → Type 0
Nested I f f' = (m : ℕ) → StatementLaw I m f f'

statement_opens : (f r : ℕ) (b : List Token) (s : ℕ) → suc s ≤ r → r ≤ f
    → opened (statement (f - 1)) (r - 1) b ≡ statement f r b
unfolding statement
statement_opens zero r b s some deep = absurd (omega arith)
statement_opens (suc f) zero b s some deep = absurd (omega arith)
statement_opens (suc f) (suc r) b s some deep =
    let one : suc f - 1 ≡ f = omega arith in
    let two : suc r - 1 ≡ r = omega arith in
    ap (λ f. opened (statement f) (suc r - 1) b) one ∙ ap (λ r. opened (statement f) r b) two

nested_step : (I : Type 0) (f : ℕ) (f' : I → ℕ) → Nested I f (λ i. f' i - 1)
    → ((i : I) → Nested (Unit {0}) (f' i - 1) (λ u. f' i - 1)) → Nested I (suc f) f'
unfolding statement
nested_step I f f' law single m l zero r' ts room deep wide = start_law I m f' l r' ts (begins_statement (kind_of ts)) refl room
nested_step I f f' law single m l (suc r) r' ts room deep wide =
    weaken (ReadStatement l) (λ i. statement (f' i) (r' i)) (λ b s us h. h) (λ i b. statement_opens (f' i) (r' i) b r (wide i).0 (wide i).1)
    (opened_law I m f (λ i. f' i - 1) (law m) single l r (λ i. r' i - 1) ts (omega arith) (omega arith) (λ i. narrow_both (wide i)))

nested_zero : (I : Type 0) (f' : I → ℕ) → Nested I zero f'
unfolding statement
nested_zero I f' m l zero r' ts room deep wide = start_law I m f' l r' ts (begins_statement (kind_of ts)) refl room
nested_zero I f' m l (suc r) r' ts room deep wide = absurd (omega arith)

diagonal : (f : ℕ) → Nested (Unit {0}) f (λ u. f)
diagonal zero = nested_zero (Unit {0}) (λ u. zero)
diagonal (suc f) =
    let one : f ≡ suc f - 1 = omega arith in
    nested_step (Unit {0}) f (λ u. suc f) (subst (λ k. Nested (Unit {0}) f (λ u. k)) one (diagonal f)) (λ i. subst (λ k. Nested (Unit {0}) k (λ u. k)) one (diagonal f))

pub nested_law : (I : Type 0) (f : ℕ) (f' : I → ℕ) → Nested I f f'
nested_law I zero f' = nested_zero I f'
nested_law I (suc f) f' = nested_step I f f' (nested_law I f (λ i. f' i - 1)) (λ i. diagonal (f' i - 1))

-- a statement with as much depth as room
pub single_law : (f m : ℕ) → StatementLaw (Unit {0}) m f (λ u. f)
single_law f m = diagonal f m
