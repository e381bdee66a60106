use Rattle.std.proofs.Common.{◌≡◌, true, ap, ◌∙◌, arith, ◌||◌}
use Rattle.std.proofs.lemmas.Grind.{common_steps}
use Rattle.std.specs.Prelude.{bytes_eq}
use Rattle.c_check.specs.private.Defined.{has}
use Rattle.c_check.proofs.DefinedNames.{updates_names, cond_or}
use Rattle.c_check.proofs.defined.Defined.add.Goals as goal

pub returns : goal.returns
returns c = λ other.
    let items : c.in_ok-bytes.bytes.items ≡ c.args.name.now = grind (arith, common_steps) in
    updates_names c.in_ok-bytes.bytes.items c.args.self.now.names c.insert.new.self true c.in_ok-insert.ensures.updates other
    ∙ cond_or (bytes_eq c.in_ok-bytes.bytes.items other) (has c.args.self.now other)
    ∙ ap (λ bs. has c.args.self.now other || bytes_eq bs other) items
