-- More depth than room changes nothing.
use Rattle.std.proofs.Common.{◌≡◌, ◌<◌, ◌≤◌, ◌-◌, ℕ, zero, suc, List, [], ◌∷◌, ◌++◌, length, Option, Some, None, Bool, true, false, Ok, Err, refl, ap, ◌∙◌, arith, inl}
use Rattle.c_tree.specs.Expr.{Expr}
use Rattle.c_tree.specs.Stmt.{Stmt}
use Rattle.c_tree.specs.Stmt as stmt
use Rattle.c_tree.specs.View.{stmts_list}
use Rattle.c_tree.specs.declared.place.Place.{Place}
use Rattle.c_token.specs.declared.token.Token.{Token}
use Rattle.c_expr.specs.Next.{Outcome, ◌>>=◌, kind_of, is_base, take, expect}
use Rattle.c_expr.proofs.Depth.{bind_same, both_same, turns_same}
use Rattle.c_decl.specs.GrammarWords.{word}
use Rattle.c_decl.specs.private.DeclarationReading.{is_next}
use Rattle.c_decl.specs.private.StatementReading.{opening_of, fault_at_statement, test, optional, beginning, else_part_by, else_part, if_stmt, while_stmt, do_stmt, for_stmt, part_by, body_turn_by, body_turn, body, block, opened_by, opened, statement, stated}
use Rattle.c_decl.specs.declared.opening.Opening.{Opening}
use Rattle.c_decl.specs.declared.opening.Opening.TheVariants as o
use Rattle.c_expr.specs.declared.punctuator.TheConstants.{PARENTHESIS_OPEN, PARENTHESIS_CLOSE, BRACE_CLOSE, SEMICOLON}
use Rattle.c_token.specs.declared.token.Kind.TheVariants as k
use Rattle.c_decl.specs.declared.reserved.TheConstants.{ELSE, WHILE}

module _ (p q : ℕ → List Token → Outcome Stmt) (top : ℕ) (like : (r : ℕ) (ts : List Token) → r ≤ top → p r ts ≡ q r ts) where
  else_same : (here : Bool) (x : Expr) (s : Stmt) (place : Place) (r : ℕ) (ts : List Token)
      → r ≤ top → else_part_by p here x s place r ts ≡ else_part_by q here x s place r ts
  else_same true x s place r ts low = bind_same (take r ts) _ _ (λ u. ap (λ o. o >>= λ t. Ok (stmt.If x s (stmt.Else t.0) place, t.1)) (like r u.1 low))
  else_same false x s place r ts low = refl

  if_same : (r : ℕ) (ts : List Token) → r ≤ top → if_stmt p r ts ≡ if_stmt q r ts
  if_same r ts low = bind_same (take r ts) _ _ (λ u. bind_same (test r u.1) _ _ (λ x.
      both_same (λ s. else_part p x.0 s.0 u.0.place r s.1) (λ s. else_part q x.0 s.0 u.0.place r s.1) (like r x.1 low) (λ s. else_same (is_next (word ELSE.now) s.1) x.0 s.0 u.0.place r s.1 low)))

  while_same : (r : ℕ) (ts : List Token) → r ≤ top → while_stmt p r ts ≡ while_stmt q r ts
  while_same r ts low = bind_same (take r ts) _ _ (λ u. bind_same (test r u.1) _ _ (λ x. ap (λ o. o >>= λ s. Ok (stmt.While x.0 s.0 u.0.place, s.1)) (like r x.1 low)))

  do_same : (r : ℕ) (ts : List Token) → r ≤ top → do_stmt p r ts ≡ do_stmt q r ts
  do_same r ts low = bind_same (take r ts) _ _ (λ u. ap
      (λ o. o >>= λ s. expect (word WHILE.now) r s.1 >>= λ w. test r w.1 >>= λ x. expect (k.Sign SEMICOLON) r x.1 >>= λ e. Ok (stmt.Do s.0 x.0 u.0.place, e.1))
      (like r u.1 low))

  for_same : (r : ℕ) (ts : List Token) → r ≤ top → for_stmt p r ts ≡ for_stmt q r ts
  for_same r ts low = bind_same (take r ts) _ _ (λ u. bind_same (expect (k.Sign PARENTHESIS_OPEN) r u.1) _ _ (λ b. bind_same (beginning r b.1) _ _ (λ f.
      bind_same (optional (k.Sign SEMICOLON) r f.1) _ _ (λ x. bind_same (optional (k.Sign PARENTHESIS_CLOSE) r x.1) _ _ (λ y.
      ap (λ o. o >>= λ s. Ok (stmt.For f.0 x.0 y.0 s.0 u.0.place, s.1)) (like r y.1 low))))))

  part_same : (declares : Bool) (r : ℕ) (ts : List Token) → r ≤ top
      → part_by p declares r ts ≡ part_by q declares r ts
  part_same true r ts low = refl
  part_same false r ts low = like r ts low

  turn_of_body_same : (closed : Bool) (r : ℕ) (found : List Stmt) (ts : List Token) → r ≤ top
      → body_turn_by p closed r found ts ≡ body_turn_by q closed r found ts
  turn_of_body_same true r found ts low = refl
  turn_of_body_same false r found ts low = ap (λ o. o >>= λ s. Ok (inl (found ++ s.0 ∷ []), s.1)) (part_same (is_base (kind_of ts)) r ts low)

  pub body_same : (r : ℕ) (ts : List Token) → r ≤ top → body p r ts ≡ body q r ts
  body_same r ts low = turns_same (body_turn p r) (body_turn q r) (λ found us. turn_of_body_same (is_next (k.Sign BRACE_CLOSE) us) r found us low) (length ts) [] ts

  block_same : (r : ℕ) (ts : List Token) → r ≤ top → block p r ts ≡ block q r ts
  block_same r ts low = bind_same (take r ts) _ _ (λ u. ap (λ o. o >>= λ ss. Ok (stmt.Block (stmts_list ss.0) u.0.place, ss.1)) (body_same r u.1 low))

  form_same : (which : Option Opening) (r : ℕ) (ts : List Token) → r ≤ top
      → opened_by p which r ts ≡ opened_by q which r ts
  form_same (Some o.Empty) r ts low = refl
  form_same (Some o.Block) r ts low = block_same r ts low
  form_same (Some o.If) r ts low = if_same r ts low
  form_same (Some o.While) r ts low = while_same r ts low
  form_same (Some o.Do) r ts low = do_same r ts low
  form_same (Some o.For) r ts low = for_same r ts low
  form_same (Some o.Return) r ts low = refl
  form_same (Some o.Break) r ts low = refl
  form_same (Some o.Continue) r ts low = refl
  form_same (Some o.Marker) r ts low = refl
  form_same None r ts low = refl

  pub opened_same : (r : ℕ) (ts : List Token) → r ≤ top → opened p r ts ≡ opened q r ts
  unfolding opened
  opened_same r ts low = form_same (opening_of (kind_of ts)) r ts low

pub nested_same : (f g r : ℕ) (ts : List Token) → r ≤ f → r ≤ g
    → statement f r ts ≡ statement g r ts
unfolding statement
nested_same zero zero r ts a b = refl
nested_same zero (suc g) zero ts a b = refl
nested_same zero (suc g) (suc r) ts a b = absurd (omega arith)
nested_same (suc f) zero zero ts a b = refl
nested_same (suc f) zero (suc r) ts a b = absurd (omega arith)
nested_same (suc f) (suc g) zero ts a b = refl
nested_same (suc f) (suc g) (suc r) ts a b = opened_same (statement f) (statement g) r (λ s us low. nested_same f g s us (omega arith) (omega arith)) r ts (omega arith)

stated_suc : (r : ℕ) (ts : List Token) → stated (suc r) ts ≡ opened stated r ts
unfolding statement
stated_suc r ts = opened_same (statement r) stated r (λ s us low. nested_same r s s us low (omega arith)) r ts (omega arith)

pub stated_open : (r : ℕ) (ts : List Token) → 0 < r → stated r ts ≡ opened stated (r - 1) ts
stated_open zero ts some = absurd (omega arith)
stated_open (suc r) ts some = let one : r ≡ suc r - 1 = omega arith in stated_suc r ts ∙ ap (λ s. opened stated s ts) one

pub stated_stop : (r : ℕ) (ts : List Token) → r ≡ 0 → stated r ts ≡ Err (fault_at_statement ts)
unfolding statement
stated_stop zero ts e = refl
stated_stop (suc r) ts e = absurd (omega arith)
