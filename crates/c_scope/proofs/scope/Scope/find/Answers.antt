use Rattle.std.proofs.Common.{◌≡◌, [], ◌∷◌, ◌++◌, ◌-◌, length, get_or, Option, None, Some, Bor, refl, arith, sym, ap, ◌∙◌}
use Rattle.std.specs.Prelude.{slice_get}
use Rattle.std.specs.Option.{option_copied, option_map, unwrap_or}
use Rattle.c_scope.specs.BlockNames.{frame_of, frames_of}
use Rattle.c_scope.specs.declared.block.Block.{Block}
use Rattle.c_tree.proofs.BlocksLemmas.{look_all}
use Rattle.c_scope.proofs.Declaring.{found_none, found_some, frame_at}
use Rattle.c_scope.proofs.scope.Scope.find.Goals as goal

unwrapped : {T : Type 0} → (o : Option (Bor (Block T))) (d : Bor (Block T))
    → (unwrap_or o d).now ≡ unwrap_or (option_map (λ x. x.now) o) d.now
unwrapped (Some x) d = refl
unwrapped None d = refl

pub returns-in_err-number : goal.returns-in_err-number
returns-in_err-number g c =
    let env = c.args.self.now in
    let name = c.args.name.now in
    let outer = frames_of env.outer.items in
    let all = outer ++ frame_of env.inner ∷ [] in
    let none = found_none all name (ap (λ ns. slice_get ns (length ns - 1)) (sym (env.indexed name)) ∙ (sym c.innermost.ensures ∙ c.in_err-number.was)) in
    ap option_copied c.from_residual.ensures ∙ (sym none ∙ look_all outer (frame_of env.inner) name)

pub returns : goal.returns
returns g c =
    let env = c.args.self.now in
    let name = c.args.name.now in
    let number = c.in_ok-number.number in
    let outer = frames_of env.outer.items in
    let all = outer ++ frame_of env.inner ∷ [] in
    let found = found_some all name number (ap (λ ns. slice_get ns (length ns - 1)) (sym (env.indexed name)) ∙ (sym c.innermost.ensures ∙ c.in_ok-number.was)) in
    let block : c.unwrap_or-block.result.now ≡ get_or env.outer.items number env.inner =
    ap (λ (r : Bor (Block _)). r.now) c.unwrap_or-block.ensures
    ∙ (unwrapped c.get.result _ ∙ (c.get.ensures.lookup.4 (omega arith) env.inner ∙ ap (λ bs. get_or bs number env.inner) c.deref.ensures.value)) in
    c.find.ensures
    ∙ (ap (λ b. frame_of b name) block
    ∙ (ap (λ f. f name) (sym (frame_at env.outer.items env.inner number found.0))
    ∙ (sym found.1 ∙ look_all outer (frame_of env.inner) name)))
