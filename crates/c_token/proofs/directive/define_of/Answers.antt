use Rattle.std.proofs.Common.{sym, ◌∙◌}
use Rattle.c_token.proofs.Defines.{none_pair, define_name, integer_there, no_name, no_tail, no_number, define_only, define_made}
use Rattle.c_token.proofs.directive.define_of.Goals as goal

pub returns-in_err-name : goal.returns-in_err-name
returns-in_err-name c = rw c.from_residual.ensures (λ said d. none_pair _ (c.in_err-name.ensures ∙ define_name c.args.rest.now said d))

pub returns-in_err-integer : goal.returns-in_err-integer
returns-in_err-integer c = rw c.from_residual-in_err-integer.ensures (λ said d. none_pair _ (c.in_err-integer.ensures ∙ integer_there c.args.rest.now c.in_ok-name.name.now c.in_ok-name.rest.now c.in_ok-name.ensures said d))

pub returns-then-not-is_name : goal.returns-then-not-is_name
returns-then-not-is_name c = no_name c.args.rest.now c.in_ok-name.name.now c.in_ok-name.rest.now c.in_ok-name.ensures _ _ c.in_ok-integer.ensures (sym c.is_name.ensures ∙ c.if-not-is_name.true)

pub returns-then-not-is_tail : goal.returns-then-not-is_tail
returns-then-not-is_tail c = no_tail c.args.rest.now c.in_ok-name.name.now c.in_ok-name.rest.now c.in_ok-name.ensures _ _ c.in_ok-integer.ensures c.if-not-is_tail.ensures

pub returns-in-Ok : goal.returns-in-Ok
returns-in-Ok c = (
  define_made c.args.rest.now c.in_ok-name.name.now c.in_ok-name.rest.now c.in_ok-name.ensures _ _ c.in_ok-integer.ensures c.in-Ok.number (sym c.is_name.ensures ∙ c.if-not-is_name.false) c.if-not-is_tail.ensures c.in-Ok.ensures,
  define_only c.args.rest.now c.in_ok-name.name.now c.in_ok-name.rest.now c.in_ok-name.ensures _ _ c.in_ok-integer.ensures c.in-Ok.number c.in-Ok.ensures,
)

pub returns-in-Err : goal.returns-in-Err
returns-in-Err c = no_number c.args.rest.now c.in_ok-name.name.now c.in_ok-name.rest.now c.in_ok-name.ensures _ _ c.in_ok-integer.ensures c.in-Err.field-0 c.in-Err.ensures
