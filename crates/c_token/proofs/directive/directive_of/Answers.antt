use Rattle.std.proofs.Common.{◌∙◌, ap}
use Rattle.c_token.proofs.DirectiveLines.{include_line, include_only, include_fails, define_line, define_line_only, define_fails, no_form}
use Rattle.c_token.proofs.Includes.{behind_blanks}
use Rattle.c_token.proofs.TokenLists.{back}
use Rattle.c_token.proofs.directive.directive_of.Goals as goal

pub returns-then-is_include : goal.returns-then-is_include
returns-then-is_include c =
    let e = c.after_blanks-rest.ensures ∙ ap behind_blanks (back c.args.line.now 1) in
    (include_line c.args.line.now _ e c.in-Some.rest.now c.requires c.in-Some.ensures c.if-is_include.ensures, include_only c.args.line.now _ e c.in-Some.rest.now c.in-Some.ensures)

pub returns-else-is_include : goal.returns-else-is_include
returns-else-is_include c =
    let e = c.after_blanks-rest.ensures ∙ ap behind_blanks (back c.args.line.now 1) in
    include_fails c.args.line.now _ e c.in-Some.rest.now c.in-Some.ensures c.if-is_include.ensures

pub returns-in_err-rest : goal.returns-in_err-rest
returns-in_err-rest c =
    let e = c.after_blanks-rest.ensures ∙ ap behind_blanks (back c.args.line.now 1) in
    rw c.from_residual.ensures (no_form c.args.line.now _ e c.in_default.ensures c.in_err-rest.ensures)

pub returns-in_err-name : goal.returns-in_err-name
returns-in_err-name c =
    let e = c.after_blanks-rest.ensures ∙ ap behind_blanks (back c.args.line.now 1) in
    rw c.from_residual-in_err-name.ensures (define_fails c.args.line.now _ e c.in_ok-rest.rest.now c.in_ok-rest.ensures c.in_err-name.ensures)

pub returns : goal.returns
returns c =
    let e = c.after_blanks-rest.ensures ∙ ap behind_blanks (back c.args.line.now 1) in
    (define_line c.args.line.now _ e c.in_ok-rest.rest.now _ c.requires c.in_ok-rest.ensures c.in_ok-name.ensures.0, define_line_only c.args.line.now _ e c.in_ok-rest.rest.now _ c.in_ok-rest.ensures c.in_ok-name.ensures.1)
