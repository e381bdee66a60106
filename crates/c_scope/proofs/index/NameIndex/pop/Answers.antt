use Rattle.std.proofs.Common.{◌≡◌, [], None, Some, refl, arith, rules, ◌∙◌, sym, ap}
use Rattle.std.specs.Option.{option_copied_mut}
use Rattle.std.proofs.lemmas.Grind.{common_steps}
use Rattle.c_scope.specs.private.Index.{without_last_if}
use Rattle.c_scope.proofs.IndexNumbers.{numbers_changed, items_of, at}
use Rattle.c_scope.proofs.index.NameIndex.pop.Goals as goal

pub returns-then-is_empty : goal.returns-then-is_empty
returns-then-is_empty c =
    let name = c.args.name.now in
    let written = c.get_mut.follows.lender c.pop.new.self in
    let found : at c.args.self.now.numbers name ≡ c.in-Some.numbers.now.items = ap items_of (sym c.get_mut.ensures.value ∙ ap option_copied_mut c.in-Some.is) in
    let update = (c.get_mut.follows.holds c.pop.new.self).3 (search rules) in
    let empty : at written name ≡ [] = ap items_of update.1 ∙ grind (arith, common_steps) in
    λ other. numbers_changed name name refl written c.remove.new.self None c.remove.ensures.updates (λ b xs. xs) (λ xs. refl) (sym empty) other
    ∙ numbers_changed name name refl c.args.self.now.numbers written (Some c.pop.new.self) update without_last_if (λ xs. refl) (grind (arith, common_steps, found)) other

pub returns-else-is_empty : goal.returns-else-is_empty
returns-else-is_empty c =
    let name = c.args.name.now in
    let found : at c.args.self.now.numbers name ≡ c.in-Some.numbers.now.items = ap items_of (sym c.get_mut.ensures.value ∙ ap option_copied_mut c.in-Some.is) in
    let update = (c.get_mut.follows.holds c.pop.new.self).3 (search rules) in
    numbers_changed name name refl c.args.self.now.numbers (c.get_mut.follows.lender c.pop.new.self) (Some c.pop.new.self) update without_last_if (λ xs. refl) (grind (arith, common_steps, found))
