-- Each rule begins with a token that begins an expression, above the level of what is open outside.
use Rattle.std.proofs.Common.{◌≡◌, ℕ, suc, List, refl, arith, true}
use Rattle.c_tree.specs.Expr.{Expr}
use Rattle.c_tree.specs.declared.tree.Callee.{Callee}
use Rattle.c_token.specs.declared.token.Kind.{Kind}
use Rattle.c_expr.specs.Leveled.{Leveled}
use Rattle.c_expr.specs.Grammar as g
use Rattle.c_expr.specs.Grammar.{IsAssign, IsCond, IsBinary, IsChain, IsUnary, IsPostfix, IsPrimary, IsCallee, IsListed}
use Rattle.c_expr.specs.Next.{begins}
use Rattle.c_expr.proofs.Through.{Raised, raised_append, raised_less}
use Rattle.c_expr.proofs.Binds.{prefix_begins, step_begins, builtin_begins}

callee_begins : {kind : Kind} {callee : Callee} → IsCallee kind callee → begins kind ≡ true
callee_begins g.named = refl
callee_begins (g.built_in {kind = kind} {callee = callee} e) = (builtin_begins kind callee e).starts

mutual
  pub raised_assign : {l : ℕ} {a : List Leveled} {x : Expr} → IsAssign l a x → Raised (suc l) a
  raised_assign (g.cond h) = raised_less (raised_cond h)
  raised_assign (g.assign kind h e i) = raised_append _ (raised_less (raised_cond h))

  pub raised_cond : {l : ℕ} {a : List Leveled} {x : Expr} → IsCond l a x → Raised (suc l) a
  raised_cond (g.binary h) = raised_binary h
  raised_cond (g.conditional q h i j) = raised_append _ (raised_binary h)

  pub raised_binary : {rk l : ℕ} {a : List Leveled} {x : Expr} → IsBinary rk l a x → Raised l a
  raised_binary (g.unary h) = raised_less (raised_unary h)
  raised_binary (g.chain h) = raised_chain h

  raised_chain : {rk l n : ℕ} {a : List Leveled} {x : Expr} → IsChain rk l n a x → Raised l a
  raised_chain (g.first h) = raised_binary h
  raised_chain (g.next kind h e r i) = raised_append _ (raised_chain h)

  pub raised_unary : {l : ℕ} {a : List Leveled} {x : Expr} → IsUnary l a x → Raised (suc l) a
  raised_unary (g.prefix {kind = kind} {o = o} e h) = record { head = _; tail = _; splits = refl; above = omega arith; starts = prefix_begins kind o e }
  raised_unary (g.step {kind = kind} {how = how} e h) = record { head = _; tail = _; splits = refl; above = omega arith; starts = (step_begins kind how e).0 }
  raised_unary (g.cast q j h) = record { head = _; tail = _; splits = refl; above = omega arith; starts = refl }
  raised_unary (g.postfix h) = raised_postfix h

  pub raised_postfix : {l n : ℕ} {a : List Leveled} {x : Expr} → IsPostfix l n a x → Raised l a
  raised_postfix (g.primary h) = raised_primary h
  raised_postfix (g.index q h i) = raised_append _ (raised_postfix h)
  raised_postfix (g.step_last kind h e) = raised_append _ (raised_postfix h)

  raised_primary : {l : ℕ} {a : List Leveled} {x : Expr} → IsPrimary l a x → Raised l a
  raised_primary (g.call q r h i) = record { head = _; tail = _; splits = refl; above = omega arith; starts = callee_begins h }
  raised_primary g.name = record { head = _; tail = _; splits = refl; above = omega arith; starts = refl }
  raised_primary g.eof = record { head = _; tail = _; splits = refl; above = omega arith; starts = refl }
  raised_primary g.number = record { head = _; tail = _; splits = refl; above = omega arith; starts = refl }
  raised_primary g.character = record { head = _; tail = _; splits = refl; above = omega arith; starts = refl }
  raised_primary (g.parens p q h) = record { head = _; tail = _; splits = refl; above = omega arith; starts = refl }

pub raised_listed : {l : ℕ} {a : List Leveled} {xs : List Expr} → IsListed l a xs → Raised (suc l) a
raised_listed (g.one h) = raised_assign h
raised_listed (g.more p h i) = raised_append _ (raised_assign h)
