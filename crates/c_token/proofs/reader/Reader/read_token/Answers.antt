use Rattle.std.proofs.Common.{sym, refl, subst}
use Rattle.c_token.proofs.ReadingSteps.{step_from, token_piece}
use Rattle.c_token.proofs.Stuck.{token_stops}
use Rattle.c_token.specs.Pieces.Found.{found_token}
use Rattle.c_token.specs.private.Readers.{StopsFor, names_of}
use Rattle.c_token.proofs.reader.Reader.read_token.Goals as goal

pub returns-in-Err : goal.returns-in-Err
returns-in-Err c =
    subst (λ e. StopsFor c.args.self.now e) (sym c.at.ensures)
    (token_stops c.args.self.now c.in-Err.fault c.requires.some c.requires.no_separator c.requires.no_comment c.requires.no_line c.in-Err.ensures)

pub returns : goal.returns
returns c =
    step_from c.args.self.now _ c.skip.new.self c.in-Ok.found.1 (found_token c.in_ok-kind.kind) c.skip.ensures refl refl refl c.in_ok-push.ensures.items c.in-Ok.ensures.0 c.in-Ok.ensures.1
    (token_piece c.args.self.now.spot (names_of c.args.self.now.defines) c.args.self.now.rest.now c.in-Ok.found.1 _ c.in_ok-kind.kind c.requires.no_comment c.in-Ok.ensures.2 c.in_ok-kind.ensures)
