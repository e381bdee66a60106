-- The law of statements, inside their level (C11 6.8).
use Rattle.std.proofs.Common.{◌≡◌, ◌≤◌, ◌-◌, ℕ, suc, List, [], ◌∷◌, ◌++◌, Option, Some, None, Ok, refl, sym, ap, ◌∙◌, subst, arith, append_assoc, Bool, true, false}
use Rattle.c_token.specs.declared.token.Token.{Token}
use Rattle.c_token.specs.declared.token.Kind.{Kind}
use Rattle.c_token.specs.declared.token.Kind.TheVariants as k
use Rattle.c_tree.specs.declared.place.Place.{Place}
use Rattle.c_tree.specs.declared.tree.Marker.{Marker}
use Rattle.c_tree.specs.Expr.{Expr}
use Rattle.c_tree.specs.First.{First}
use Rattle.c_tree.specs.Stmt.{Stmt}
use Rattle.c_tree.specs.Stmt as stmt
use Rattle.c_tree.specs.View.{stmts_list}
use Rattle.c_expr.specs.Leveled.{Leveled, at}
use Rattle.c_expr.specs.Spelled.{same}
use Rattle.c_expr.specs.Grammar.{IsAssign}
use Rattle.c_expr.specs.Next.{◌>>=◌, kind_of, place_of, nowhere, refuse}
use Rattle.c_expr.proofs.Law.{Lawful, bind_law, pure_law, ended, take_law, look_law, place_law}
use Rattle.c_expr.proofs.Binds.{found}
use Rattle.c_expr.proofs.ExpressionFronts.{expect_law}
use Rattle.c_decl.specs.GrammarWords.{word}
use Rattle.c_decl.specs.StatementGrammar as g
use Rattle.c_decl.specs.StatementGrammar.{IsMarker, IsStatement, IsBlock, IsBody}
use Rattle.c_decl.specs.private.StatementReading.{openings, opening_of, expression_at, marker_at, empty, return_stmt, break_stmt, continue_stmt, else_part_by, else_part, if_stmt, while_stmt, do_stmt, for_stmt, block, opened_by, opened, statement}
use Rattle.c_decl.specs.declared.opening.Opening.{Opening}
use Rattle.c_decl.specs.declared.opening.Opening.TheVariants as o
use Rattle.c_decl.proofs.SoundParts.{choose, FirstAt, front_law}
use Rattle.c_decl.proofs.SoundMarkers.{marker_law, marker_some, begin_numbered}
use Rattle.c_decl.proofs.SoundHeads.{assign_at, OptionalThrough, optional, optional_law, BeginningThrough, beginning, beginning_law, IsTest, test, test_law}
use Rattle.c_decl.proofs.SoundRefused.{expression_refuses}
use Rattle.c_decl.proofs.SoundForms.{ReadStatement, closed, BodyLeft, left, StatementLaw, Wide, body_law}
use Rattle.c_expr.specs.declared.punctuator.TheConstants.{PARENTHESIS_OPEN, PARENTHESIS_CLOSE, BRACE_OPEN, SEMICOLON}
use Rattle.c_decl.specs.declared.reserved.TheConstants.{IF, ELSE, WHILE, DO, FOR, RETURN, BREAK, CONTINUE, WAIT}

-- Each form, from its parts.
block_of : (l : ℕ) (p : Place) (a : List Leveled) (ss : List Stmt) → BodyLeft (suc l) [] a ss
    → IsStatement false l (at (suc l) (k.Sign BRACE_OPEN) p ∷ a) (stmt.Block (stmts_list ss) p)
block_of l p _ _ (left q h) = g.block (g.braces p q h)

if_of : (o : Bool) (l : ℕ) (p : Place) (a b : List Leveled) (x : Expr) (s : Stmt)
    → IsTest (suc l) a x → IsStatement o (suc l) b s
    → IsStatement true l (at (suc l) (word IF.now) p ∷ (a ++ b)) (stmt.If x s stmt.NoElse p)
if_of o l p _ b x s (test {a = a} q r h) i =
    subst (λ c. IsStatement true l (at (suc l) (word IF.now) p ∷ (at (suc l) (k.Sign PARENTHESIS_OPEN) q ∷ c)) (stmt.If x s stmt.NoElse p)) (sym (append_assoc a (at (suc l) (k.Sign PARENTHESIS_CLOSE) r ∷ []) b)) (g.if q r h i)

if_else_of : (o : Bool) (l : ℕ) (p e : Place) (a b c : List Leveled) (x : Expr) (s t : Stmt)
    → IsTest (suc l) a x → IsStatement false (suc l) b s → IsStatement o (suc l) c t
    → IsStatement o l (at (suc l) (word IF.now) p ∷ (a ++ (b ++ at (suc l) (word ELSE.now) e ∷ c))) (stmt.If x s (stmt.Else t) p)
if_else_of o l p e _ b c x s t (test {a = a} q r h) i j =
    subst (λ d. IsStatement o l (at (suc l) (word IF.now) p ∷ (at (suc l) (k.Sign PARENTHESIS_OPEN) q ∷ d)) (stmt.If x s (stmt.Else t) p)) (sym (append_assoc a (at (suc l) (k.Sign PARENTHESIS_CLOSE) r ∷ []) (b ++ at (suc l) (word ELSE.now) e ∷ c))) (g.if_else q r e h i j)

while_of : (o : Bool) (l : ℕ) (p : Place) (a b : List Leveled) (x : Expr) (s : Stmt)
    → IsTest (suc l) a x → IsStatement o (suc l) b s
    → IsStatement o l (at (suc l) (word WHILE.now) p ∷ (a ++ b)) (stmt.While x s p)
while_of o l p _ b x s (test {a = a} q r h) i =
    subst (λ c. IsStatement o l (at (suc l) (word WHILE.now) p ∷ (at (suc l) (k.Sign PARENTHESIS_OPEN) q ∷ c)) (stmt.While x s p)) (sym (append_assoc a (at (suc l) (k.Sign PARENTHESIS_CLOSE) r ∷ []) b)) (g.while q r h i)

do_of : (o : Bool) (l : ℕ) (p w e : Place) (a b : List Leveled) (s : Stmt) (x : Expr)
    → IsStatement o (suc l) a s → IsTest (suc l) b x
    → IsStatement false l (at (suc l) (word DO.now) p ∷ (a ++ at (suc l) (word WHILE.now) w ∷ (b ++ at (suc l) (k.Sign SEMICOLON) e ∷ []))) (stmt.Do s x p)
do_of o l p w e a _ s x i (test {a = b} q r h) =
    subst (λ c. IsStatement false l (at (suc l) (word DO.now) p ∷ (a ++ at (suc l) (word WHILE.now) w ∷ (at (suc l) (k.Sign PARENTHESIS_OPEN) q ∷ c))) (stmt.Do s x p))
    (sym (append_assoc b (at (suc l) (k.Sign PARENTHESIS_CLOSE) r ∷ []) (at (suc l) (k.Sign SEMICOLON) e ∷ []))) (g.do_while w q r e i h)

three_parts : (a b c d : List Leveled) (x y z : Leveled)
    → a ++ x ∷ (b ++ y ∷ (c ++ z ∷ d)) ≡ (a ++ x ∷ []) ++ ((b ++ y ∷ []) ++ ((c ++ z ∷ []) ++ d))
three_parts a b c d x y z =
    sym (append_assoc a (x ∷ []) (b ++ y ∷ (c ++ z ∷ d)))
    ∙ ap (λ e. (a ++ x ∷ []) ++ e) (sym (append_assoc b (y ∷ []) (c ++ z ∷ d)) ∙ ap (λ e. (b ++ y ∷ []) ++ e) (sym (append_assoc c (z ∷ []) d)))

for_of : (o : Bool) (l : ℕ) (p q : Place) (a b c d : List Leveled) (f : First) (x y : Option Expr)
    (s : Stmt) → BeginningThrough (suc l) a f → OptionalThrough (k.Sign SEMICOLON) (suc l) b x
    → OptionalThrough (k.Sign PARENTHESIS_CLOSE) (suc l) c y
    → IsStatement o (suc l) d s → IsStatement o l (at (suc l) (word FOR.now) p ∷ (at (suc l) (k.Sign PARENTHESIS_OPEN) q ∷ (a ++ (b ++ (c ++ d))))) (stmt.For f x y s p)
for_of o l p q _ _ _ d f x y s (beginning {a = a} r h) (optional {a = b} t i) (optional {a = c} u j) w =
    subst (λ e. IsStatement o l (at (suc l) (word FOR.now) p ∷ (at (suc l) (k.Sign PARENTHESIS_OPEN) q ∷ e)) (stmt.For f x y s p))
    (three_parts a b c d (at (suc l) (k.Sign SEMICOLON) r) (at (suc l) (k.Sign SEMICOLON) t) (at (suc l) (k.Sign PARENTHESIS_CLOSE) u)) (g.for q r t u h i j w)

return_of : (l : ℕ) (p : Place) (a : List Leveled) (x : Option Expr)
    → OptionalThrough (k.Sign SEMICOLON) (suc l) a x
    → IsStatement false l (at (suc l) (word RETURN.now) p ∷ a) (stmt.Return x p)
return_of l p _ x (optional q h) = g.return q h

marker_stmt_of : (l : ℕ) (place : Place) (a : List Leveled) (mark : Marker)
    → IsMarker (suc l) a mark → FirstAt place a → IsStatement false l a (stmt.Marker mark place)
marker_stmt_of l place [] mark h first = absurd first
marker_stmt_of l place (x ∷ a) mark h first = subst (λ p. IsStatement false l (x ∷ a) (stmt.Marker mark p)) first (g.marker h)

expr_of : (l : ℕ) (place p : Place) (a : List Leveled) (x : Expr) → IsAssign (suc l) a x
    → FirstAt place a → IsStatement false l (a ++ at (suc l) (k.Sign SEMICOLON) p ∷ [])
    (stmt.Expr x place)
expr_of l place p [] x h first = absurd first
expr_of l place p (y ∷ a) x h first = subst (λ w. IsStatement false l (y ∷ (a ++ at (suc l) (k.Sign SEMICOLON) p ∷ [])) (stmt.Expr x w)) first (g.expression p h)

-- the word that a form begins with
abbrev Spells : Opening → Kind → Type 0
Spells o.Empty kind = kind ≡ k.Sign SEMICOLON
Spells o.Block kind = kind ≡ k.Sign BRACE_OPEN
Spells o.If kind = kind ≡ word IF.now
Spells o.While kind = kind ≡ word WHILE.now
Spells o.Do kind = kind ≡ word DO.now
Spells o.For kind = kind ≡ word FOR.now
Spells o.Return kind = kind ≡ word RETURN.now
Spells o.Break kind = kind ≡ word BREAK.now
Spells o.Continue kind = kind ≡ word CONTINUE.now
Spells o.Marker kind = Unit {0}

spells : (kind : Kind) (which : Opening) → opening_of kind ≡ Some which → Spells which kind
spells kind which e = found (λ kind which. Spells which kind) openings kind which (refl, (refl, (refl, (refl, (refl, (refl, (refl, (refl, (refl, (tt, (tt, (tt, (tt, tt))))))))))))) e

-- Each form of statement. The levels of its tokens are one above that of the statement.
module _ (I : Type 0) (m f : ℕ) (f' : I → ℕ) (statements : StatementLaw I m f f') (single : (i : I) (n : ℕ) → StatementLaw (Unit {0}) n (f' i) (λ u. f' i))
    (l r : ℕ) (r' : I → ℕ) (ts : List Token) (room : r ≡ m - suc l) (deep : r ≤ f) (wide : Wide f' r r') where
  abbrev enough : (i : I) → r ≤ r' i
  enough i = (wide i).0

  empty_law : kind_of ts ≡ k.Sign SEMICOLON
      → Lawful m (ReadStatement l) (λ i. empty (r' i)) ts (empty r ts)
  empty_law is = take_law (λ i. empty (r' i)) (λ i u. Ok (stmt.Empty u.0.place, u.1)) (λ u. Ok (stmt.Empty u.0.place, u.1)) m (suc l) r r' (k.Sign SEMICOLON) ts room enough is (λ e. cc) (λ i p b. refl) (λ p rest. pure_law (stmt.Empty p) rest (closed rest g.empty))

  block_law : kind_of ts ≡ k.Sign BRACE_OPEN
      → Lawful m (ReadStatement l) (λ i. block (statement (f' i)) (r' i)) ts
      (block (statement f) r ts)
  block_law is = take_law (λ i. block (statement (f' i)) (r' i)) _ _ m (suc l) r r' (k.Sign BRACE_OPEN) ts room enough is (λ e. cc) (λ i p b. refl) (λ p rest.
      bind_law (λ i ss. Ok (stmt.Block (stmts_list ss.0) p, ss.1)) (λ ss. Ok (stmt.Block (stmts_list ss.0) p, ss.1)) (body_law I m f f' statements single (suc l) r r' rest room deep wide) (λ ss us a h cut.
      pure_law (stmt.Block (stmts_list ss) p) us (ended (λ b s. ReadStatement l (at (suc l) (k.Sign BRACE_OPEN) p ∷ b) s us) (closed us (block_of l p a ss h)))))

  else_law : (p : Place) (a b : List Leveled) (x : Expr) (s : Stmt) (rest : List Token)
      → IsTest (suc l) a x → ReadStatement (suc l) b s rest
      → Lawful m (λ d z us. ReadStatement l (at (suc l) (word IF.now) p ∷ (a ++ (b ++ d))) z us) (λ i. else_part (statement (f' i)) x s p (r' i)) rest (else_part (statement f) x s p r rest)
  else_law p a b x s rest h j = choose (λ i c b. else_part_by (statement (f' i)) c x s p (r' i) b) (λ c. else_part_by (statement f) c x s p r rest) (word ELSE.now) rest refl
      (λ is. take_law (λ i. else_part (statement (f' i)) x s p (r' i)) _ _ m (suc l) r r' (word ELSE.now) rest room enough is (λ e. cc) (λ i p b. refl) (λ e us.
      bind_law (λ i t. Ok (stmt.If x s (stmt.Else t.0) p, t.1)) (λ t. Ok (stmt.If x s (stmt.Else t.0) p, t.1)) (statements (suc l) r r' us room deep wide) (λ t vs c w cut.
      pure_law (stmt.If x s (stmt.Else t) p) vs (ended (λ d z. ReadStatement l (at (suc l) (word IF.now) p ∷ (a ++ (b ++ at (suc l) (word ELSE.now) e ∷ d))) z vs)
      (record { open_if = w.open_if; spelled = if_else_of w.open_if l p e a b c x s t h (subst (λ o. IsStatement o (suc l) b s) (j.no_else is) j.spelled) w.spelled; no_else = w.no_else })))))
      (λ other. pure_law (stmt.If x s stmt.NoElse p) rest (ended (λ d z. ReadStatement l (at (suc l) (word IF.now) p ∷ (a ++ d)) z rest)
      (record { open_if = true; spelled = if_of j.open_if l p a b x s h j.spelled; no_else = λ e. ap (λ c. same c (word ELSE.now)) (sym e) ∙ other })))

  if_law : kind_of ts ≡ word IF.now
      → Lawful m (ReadStatement l) (λ i. if_stmt (statement (f' i)) (r' i)) ts
      (if_stmt (statement f) r ts)
  if_law is = take_law (λ i. if_stmt (statement (f' i)) (r' i)) _ _ m (suc l) r r' (word IF.now) ts room enough is (λ e. cc) (λ i p b. refl) (λ p rest.
      bind_law (λ i x. statement (f' i) (r' i) x.1 >>= λ s. else_part (statement (f' i)) x.0 s.0 p (r' i) s.1) (λ x. statement f r x.1 >>= λ s. else_part (statement f) x.0 s.0 p r s.1) (test_law I m (suc l) r r' rest room enough) (λ x us a h cut.
      bind_law (λ i s. else_part (statement (f' i)) x s.0 p (r' i) s.1) (λ s. else_part (statement f) x s.0 p r s.1) (statements (suc l) r r' us room deep wide) (λ s vs b j cut.
      else_law p a b x s vs h j)))

  while_law : kind_of ts ≡ word WHILE.now
      → Lawful m (ReadStatement l) (λ i. while_stmt (statement (f' i)) (r' i)) ts
      (while_stmt (statement f) r ts)
  while_law is = take_law (λ i. while_stmt (statement (f' i)) (r' i)) _ _ m (suc l) r r' (word WHILE.now) ts room enough is (λ e. cc) (λ i p b. refl) (λ p rest.
      bind_law (λ i x. statement (f' i) (r' i) x.1 >>= λ s. Ok (stmt.While x.0 s.0 p, s.1)) (λ x. statement f r x.1 >>= λ s. Ok (stmt.While x.0 s.0 p, s.1)) (test_law I m (suc l) r r' rest room enough) (λ x us a h cut.
      bind_law (λ i s. Ok (stmt.While x s.0 p, s.1)) (λ s. Ok (stmt.While x s.0 p, s.1)) (statements (suc l) r r' us room deep wide) (λ s vs b j cut.
      pure_law (stmt.While x s p) vs (ended (λ d z. ReadStatement l (at (suc l) (word WHILE.now) p ∷ (a ++ d)) z vs)
      (record { open_if = j.open_if; spelled = while_of j.open_if l p a b x s h j.spelled; no_else = j.no_else })))))

  do_law : kind_of ts ≡ word DO.now
      → Lawful m (ReadStatement l) (λ i. do_stmt (statement (f' i)) (r' i)) ts
      (do_stmt (statement f) r ts)
  do_law is = take_law (λ i. do_stmt (statement (f' i)) (r' i)) _ _ m (suc l) r r' (word DO.now) ts room enough is (λ e. cc) (λ i p b. refl) (λ p rest.
      bind_law _ _ (statements (suc l) r r' rest room deep wide) (λ s us a j cut.
      expect_law _ _ m (suc l) r r' (word WHILE.now) us room enough (refl, refl) (λ w vs.
      bind_law _ _ (test_law I m (suc l) r r' vs room enough) (λ x ws b h cut.
      expect_law (λ i c. Ok (stmt.Do s x p, c.1)) (λ c. Ok (stmt.Do s x p, c.1)) m (suc l) r r' (k.Sign SEMICOLON) ws room enough (refl, refl) (λ e xs.
      pure_law (stmt.Do s x p) xs (closed xs (do_of j.open_if l p w e a b s x j.spelled h)))))))

  for_law : kind_of ts ≡ word FOR.now
      → Lawful m (ReadStatement l) (λ i. for_stmt (statement (f' i)) (r' i)) ts
      (for_stmt (statement f) r ts)
  for_law is = take_law (λ i. for_stmt (statement (f' i)) (r' i)) _ _ m (suc l) r r' (word FOR.now) ts room enough is (λ e. cc) (λ i p b. refl) (λ p rest.
      expect_law _ _ m (suc l) r r' (k.Sign PARENTHESIS_OPEN) rest room enough (refl, refl) (λ q us.
      bind_law _ _ (beginning_law I m (suc l) r r' us room enough) (λ first vs a h cut.
      bind_law _ _ (optional_law I m (k.Sign SEMICOLON) (refl, refl) (suc l) r r' vs room enough) (λ x ws b i cut.
      bind_law _ _ (optional_law I m (k.Sign PARENTHESIS_CLOSE) (refl, refl) (suc l) r r' ws room enough) (λ y xs c j cut.
      bind_law (λ i s. Ok (stmt.For first x y s.0 p, s.1)) (λ s. Ok (stmt.For first x y s.0 p, s.1)) (statements (suc l) r r' xs room deep wide) (λ s ys d w cut.
      pure_law (stmt.For first x y s p) ys (ended (λ d z. ReadStatement l (at (suc l) (word FOR.now) p ∷ (at (suc l) (k.Sign PARENTHESIS_OPEN) q ∷ (a ++ (b ++ (c ++ d))))) z ys)
      (record { open_if = w.open_if; spelled = for_of w.open_if l p q a b c d first x y s h i j w.spelled; no_else = w.no_else }))))))))

  return_law : kind_of ts ≡ word RETURN.now
      → Lawful m (ReadStatement l) (λ i. return_stmt (r' i)) ts (return_stmt r ts)
  return_law is = take_law (λ i. return_stmt (r' i)) _ _ m (suc l) r r' (word RETURN.now) ts room enough is (λ e. cc) (λ i p b. refl) (λ p rest.
      bind_law (λ i x. Ok (stmt.Return x.0 p, x.1)) (λ x. Ok (stmt.Return x.0 p, x.1)) (optional_law I m (k.Sign SEMICOLON) (refl, refl) (suc l) r r' rest room enough) (λ x us a h cut.
      pure_law (stmt.Return x p) us (ended (λ b s. ReadStatement l (at (suc l) (word RETURN.now) p ∷ b) s us) (closed us (return_of l p a x h)))))

  break_law : kind_of ts ≡ word BREAK.now
      → Lawful m (ReadStatement l) (λ i. break_stmt (r' i)) ts (break_stmt r ts)
  break_law is = take_law (λ i. break_stmt (r' i)) _ _ m (suc l) r r' (word BREAK.now) ts room enough is (λ e. cc) (λ i p b. refl) (λ p rest.
      expect_law (λ i c. Ok (stmt.Break p, c.1)) (λ c. Ok (stmt.Break p, c.1)) m (suc l) r r' (k.Sign SEMICOLON) rest room enough (refl, refl) (λ q us. pure_law (stmt.Break p) us (closed us (g.break q))))

  continue_law : kind_of ts ≡ word CONTINUE.now
      → Lawful m (ReadStatement l) (λ i. continue_stmt (r' i)) ts (continue_stmt r ts)
  continue_law is = take_law (λ i. continue_stmt (r' i)) _ _ m (suc l) r r' (word CONTINUE.now) ts room enough is (λ e. cc) (λ i p b. refl) (λ p rest.
      expect_law (λ i c. Ok (stmt.Continue p, c.1)) (λ c. Ok (stmt.Continue p, c.1)) m (suc l) r r' (k.Sign SEMICOLON) rest room enough (refl, refl) (λ q us. pure_law (stmt.Continue p) us (closed us (g.continue q))))

  marker_stmt_law : Lawful m (ReadStatement l) (λ i b. marker_at (place_of b) (r' i) b) ts
      (marker_at (place_of ts) r ts)
  marker_stmt_law = place_law (ReadStatement l) (λ i place b. marker_at place (r' i) b) (place_of ts) ts _ refl
      (bind_law (λ i x. Ok (stmt.Marker x.0 (place_of ts), x.1)) (λ x. Ok (stmt.Marker x.0 (place_of ts), x.1))
      (front_law (IsMarker (suc l)) (place_of ts) ts refl (let w = begin_numbered (suc l) (place_of ts) (word WAIT.now) _ refl in record { spelling = _ ∷ w.spelling; value = w.value; holds = (w.holds, refl) })
      (λ x h. (let some = marker_some h in omega arith)) (marker_law I m (suc l) r r' ts room enough)) (λ x us a h cut.
      pure_law (stmt.Marker x (place_of ts)) us (ended (λ b s. ReadStatement l b s us) (closed us (marker_stmt_of l (place_of ts) a x h.0 h.1))))) (λ i. refl)

  expr_law : Lawful m (ReadStatement l) (λ i b. expression_at (place_of b) (r' i) b) ts
      (expression_at (place_of ts) r ts)
  expr_law = place_law (ReadStatement l) (λ i place b. expression_at place (r' i) b) (place_of ts) ts _ refl
      (bind_law _ _ (assign_at I m (place_of ts) (suc l) r r' ts refl room enough) (λ x us a h cut.
      expect_law (λ i c. Ok (stmt.Expr x (place_of ts), c.1)) (λ c. Ok (stmt.Expr x (place_of ts), c.1)) m (suc l) r r' (k.Sign SEMICOLON) us room enough (refl, refl) (λ p vs.
      pure_law (stmt.Expr x (place_of ts)) vs (closed vs (expr_of l (place_of ts) p a x h.0 h.1)))))
      (λ i. expression_refuses nowhere (r' i) [] refl ∙ sym (expression_refuses (place_of ts) (r' i) [] refl))

  form_law : (which : Option Opening) → opening_of (kind_of ts) ≡ which
      → Lawful m (ReadStatement l) (λ i. opened_by (statement (f' i)) which (r' i)) ts
      (opened_by (statement f) which r ts)
  form_law (Some o.Empty) e = empty_law (spells (kind_of ts) o.Empty e)
  form_law (Some o.Block) e = block_law (spells (kind_of ts) o.Block e)
  form_law (Some o.If) e = if_law (spells (kind_of ts) o.If e)
  form_law (Some o.While) e = while_law (spells (kind_of ts) o.While e)
  form_law (Some o.Do) e = do_law (spells (kind_of ts) o.Do e)
  form_law (Some o.For) e = for_law (spells (kind_of ts) o.For e)
  form_law (Some o.Return) e = return_law (spells (kind_of ts) o.Return e)
  form_law (Some o.Break) e = break_law (spells (kind_of ts) o.Break e)
  form_law (Some o.Continue) e = continue_law (spells (kind_of ts) o.Continue e)
  form_law (Some o.Marker) e = marker_stmt_law
  form_law None e = expr_law

  form_empty : (i : I) (which : Option Opening)
      → opened_by (statement (f' i)) which (r' i) [] ≡ refuse []
  form_empty i (Some o.Empty) = refl
  form_empty i (Some o.Block) = refl
  form_empty i (Some o.If) = refl
  form_empty i (Some o.While) = refl
  form_empty i (Some o.Do) = refl
  form_empty i (Some o.For) = refl
  form_empty i (Some o.Return) = refl
  form_empty i (Some o.Break) = refl
  form_empty i (Some o.Continue) = refl
  form_empty i (Some o.Marker) = refl
  form_empty i None = expression_refuses nowhere (r' i) [] refl

  pub opened_law : Lawful m (ReadStatement l) (λ i. opened (statement (f' i)) (r' i)) ts
      (opened (statement f) r ts)
  unfolding opened
  opened_law = look_law (ReadStatement l) (λ i c b. opened_by (statement (f' i)) (opening_of c) (r' i) b) (kind_of ts) ts _ refl (form_law (opening_of (kind_of ts)) refl)
      (λ i. form_empty i (opening_of k.End) ∙ sym (form_empty i (opening_of (kind_of ts))))
