use Rattle.std.proofs.Common.{inl, inr, refl, sym, ◌∙◌}
use Rattle.std.specs.Prelude.{codes}
use Rattle.c_token.proofs.Includes.{include_at, include_none}
use Rattle.c_token.proofs.directive.is_include.Goals as goal

pub returns-in-Some : goal.returns-in-Some
returns-in-Some c = include_at c.args.rest.now (codes "<stdio.h>") c.in-Some.tail.now (sym c.after_blanks-rest.ensures ∙ c.in-Some.ensures) (inl refl) c.is_tail.result c.is_tail.ensures

pub returns-in-Some-behind : goal.returns-in-Some-behind
returns-in-Some-behind c = include_at c.args.rest.now (codes "\"bop.h\"") c.in-Some-behind.tail.now (sym c.after_blanks-rest.ensures ∙ c.in-Some-behind.ensures) (inr refl) c.is_tail-in-Some-behind.result c.is_tail-in-Some-behind.ensures

pub returns-in-None-behind : goal.returns-in-None-behind
returns-in-None-behind c = include_none c.args.rest.now (λ r e. c.in-None.ensures r (c.after_blanks-rest.ensures ∙ e)) (λ r e. c.in-None-behind.ensures r (c.after_blanks-rest.ensures ∙ e))
