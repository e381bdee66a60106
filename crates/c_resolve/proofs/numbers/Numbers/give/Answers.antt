use Rattle.std.proofs.Common.{◌≡◌, None, Some, cond, ap, sym, ◌∙◌, arith}
use Rattle.std.proofs.lemmas.Grind.{common_steps}
use Rattle.std.specs.Cmp.Lexicographic.{bytes_decides}
use Rattle.std.specs.Prelude.{bytes_eq}
use Rattle.c_scope.proofs.Keys.{updates_bytes}
use Rattle.c_resolve.specs.DeclaredNames.{indexed_at}
use Rattle.c_resolve.proofs.Numbering.{taken_number}
use Rattle.c_resolve.proofs.numbers.Numbers.give.Goals as goal

pub returns-in-Ok-clause-numbers : goal.returns-in-Ok-clause-numbers
returns-in-Ok-clause-numbers c = λ other.
    let old = c.args.self.now in
    let name = c.args.name.now in
    let key : c.in_ok-key.key.items ≡ name = grind (arith, common_steps) in
    let none : indexed_at old.numbers name ≡ None = grind (arith, common_steps) in
    updates_bytes c.in_ok-key.key.items old.numbers c.insert.new.self (Some old.count) c.in-Ok.ensures.updates other
    ∙ (ap (λ bs. cond (bytes_eq bs other) (Some old.count) (indexed_at old.numbers other)) key
    ∙ taken_number (bytes_eq name other) (indexed_at old.numbers other) old.count (λ y. ap (indexed_at old.numbers) (sym ((bytes_decides name other).0 y)) ∙ none))
