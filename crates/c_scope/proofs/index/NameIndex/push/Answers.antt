use Rattle.std.proofs.Common.{◌≡◌, ℕ, Bool, true, List, [], ◌∷◌, ◌++◌, Some, refl, arith, rules, ◌∙◌, sym, ap}
use Rattle.std.specs.Prelude.{bytes_eq}
use Rattle.std.specs.Option.{option_copied_mut}
use Rattle.std.proofs.lemmas.Grind.{common_steps}
use Rattle.std.proofs.lemmas.List.{append-nil}
use Rattle.std.proofs.lemmas.Result.{err_from_is_err_and}
use Rattle.c_scope.specs.private.Index.{number_if}
use Rattle.c_scope.proofs.IndexNumbers.{numbers_changed, items_of, at}
use Rattle.c_scope.proofs.index.NameIndex.push.Goals as goal

pub returns-in_err-push-clause-refused : goal.returns-in_err-push-clause-refused
returns-in_err-push-clause-refused c =
    let found : at c.args.self.now.numbers c.get.result.now ≡ c.in-Some.numbers.now.items = ap items_of (sym c.get_mut.ensures.value ∙ ap option_copied_mut c.in-Some.is) in
    let update = (c.get_mut.follows.holds c.push.new.self).3 (search rules) in
    let kept : c.push.new.self.items ≡ c.in-Some.numbers.now.items = c.in_err-push.ensures.items in
    let refused = err_from_is_err_and c.from_residual.result c.from_residual.ensures.1 in
    rw (refused.1, refused.2)
    (numbers_changed c.args.name.now c.get.result.now c.get.ensures c.args.self.now.numbers (c.get_mut.follows.lender c.push.new.self) (Some c.push.new.self) update
    (λ b xs. xs) (λ xs. refl) (kept ∙ sym found))

pub returns-in-Some-clause-pushed : goal.returns-in-Some-clause-pushed
returns-in-Some-clause-pushed c =
    let found : at c.args.self.now.numbers c.get.result.now ≡ c.in-Some.numbers.now.items = ap items_of (sym c.get_mut.ensures.value ∙ ap option_copied_mut c.in-Some.is) in
    let update = (c.get_mut.follows.holds c.push.new.self).3 (search rules) in
    let change : Bool → List ℕ → List ℕ = λ b xs. xs ++ number_if b c.args.number in
    let more : c.push.new.self.items ≡ change true c.in-Some.numbers.now.items = c.in_ok-push.ensures.items in
    numbers_changed c.args.name.now c.get.result.now c.get.ensures c.args.self.now.numbers (c.get_mut.follows.lender c.push.new.self) (Some c.push.new.self) update
    change append-nil (more ∙ ap (change true) (sym found))

pub returns-clause-pushed : goal.returns-clause-pushed
returns-clause-pushed c =
    let bytes = c.in_ok-bytes.bytes.items in
    let old = c.get_mut.follows.lender-at-none in
    let same : old ≡ c.args.self.now.numbers = c.get_mut.follows.holds-at-none in
    let change : Bool → List ℕ → List ℕ = λ b xs. xs ++ number_if b c.args.number in
    let named : bytes ≡ c.args.name.now = grind (arith, common_steps) in
    let one : c.in_ok-vec.field-0.items ≡ c.args.number ∷ [] = grind (arith, common_steps) in
    let none : at c.args.self.now.numbers c.get.result.now ≡ [] = ap items_of (sym c.get_mut.ensures.value ∙ ap option_copied_mut c.in_default.is) in
    let absent : at old bytes ≡ [] = ap (λ m. at m bytes) same ∙ (ap (at c.args.self.now.numbers) (named ∙ sym c.get.ensures) ∙ none) in
    λ other. numbers_changed c.args.name.now bytes named old c.insert.new.self (Some c.in_ok-vec.field-0) c.in_ok-insert.ensures.updates change append-nil (one ∙ ap (change true) (sym absent)) other
    ∙ ap (λ m. change (bytes_eq c.args.name.now other) (at m other)) same
