use Rattle.std.proofs.Common.{refl, Some, None}
use Rattle.c_token.proofs.Definitions.{names_defined, directive_piece, is_new}
use Rattle.c_token.proofs.ReadingSteps.{skipped, step_from}
use Rattle.c_token.proofs.Stuck.{again_stops, none_stops}
use Rattle.c_token.specs.Pieces.Found.{found_name}
use Rattle.c_token.proofs.reader.Reader.read_line.Goals as goal

pub returns-then-contains_key : goal.returns-then-contains_key
returns-then-contains_key c = let said = rw c.in-Some-Define.field-0-is at c.in-Some-Define.ensures in again_stops c.args.self.now _ c.in-Some-Define.name.now c.in-Some-Define.number c.requires.begins c.line_len-len.ensures said.1 c.if-contains_key.ensures

pub returns-in-Some-Include : goal.returns-in-Some-Include
returns-in-Some-Include c =
    let said = rw c.in-Some-Include.field-0-is at c.in-Some-Include.ensures in
    let p = directive_piece c.args.self.now c.line_len-len.result None c.requires.begins c.line_len-len.ensures said.0 tt in
    skipped c.args.self.now c.skip.new.self c.line_len-len.result c.skip.ensures p.0 p.1 p.2

pub returns-in_ok-insert-in-Some-Define : goal.returns-in_ok-insert-in-Some-Define
returns-in_ok-insert-in-Some-Define c =
    let said = rw c.in-Some-Define.field-0-is at c.in-Some-Define.ensures in
    let name = c.in-Some-Define.name in let number = c.in-Some-Define.number in
    let p = directive_piece c.args.self.now c.line_len-len.result (Some (name.now, number)) c.requires.begins c.line_len-len.ensures said.0 (is_new _ c.if-contains_key.ensures) in
    step_from c.args.self.now _ c.skip-in-Some-Define.new.self c.line_len-len.result (found_name name.now number) c.skip-in-Some-Define.ensures refl refl
    (names_defined c.args.self.now.defines c.insert.new.self name number c.in_ok-insert-in-Some-Define.ensures.updates) refl p.0 p.1 p.2

pub returns-in-None : goal.returns-in-None
returns-in-None c = none_stops c.args.self.now _ c.requires.begins c.line_len-len.ensures c.in-None.ensures
