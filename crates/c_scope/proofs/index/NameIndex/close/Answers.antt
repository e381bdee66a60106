use Rattle.std.proofs.Common.{◌≡◌, ◌∷◌, bytes_eq, ◌∙◌, sym, ap, subst}
use Rattle.std.specs.BTreeMap.{keys}
use Rattle.std.specs.List.Sorted.{IsStrictlySortedBy}
use Rattle.std.proofs.lemmas.Map.Keys.{sorted_tail}
use Rattle.c_scope.specs.private.Index.{numbers_of, without_last_if}
use Rattle.c_scope.proofs.Closing.{is_key, declares_keys, one_closed}
use Rattle.c_scope.proofs.Keys.{vec_cmp}
use Rattle.c_scope.proofs.index.NameIndex.close.Goals as goal

pub loop-name-init : goal.loop-name-init
loop-name-init g c =
    let given : c.into_iter-name-iterator.result ≡ keys c.args.block.now.names = c.into_iter-name-iterator.ensures.into_iter_gives ∙ c.keys-name-items.ensures.rest in
    record {
      left = λ name. ap (λ b. without_last_if b (numbers_of c.args.self.now name)) (ap (is_key name) given ∙ sym (declares_keys c.args.block.now name));
      rising = subst (IsStrictlySortedBy vec_cmp) (sym given) c.keys-name-items.ensures.ordered;
    }

pub loop-name-preserved : goal.loop-name-preserved
loop-name-preserved g c =
    let key = c.in-Some.name.now in
    let ks = c.next.new.self in
    let rising : IsStrictlySortedBy vec_cmp (key ∷ ks) = subst (IsStrictlySortedBy vec_cmp) c.in-Some.ensures.steps c.loop-name.invariant.rising in
    record {
      left = λ name.
          let xs = numbers_of c.loop-name.self name in
          ap (without_last_if (is_key name ks)) (c.pop.ensures name ∙ ap (λ bytes. without_last_if (bytes_eq bytes name) xs) c.as_slice.ensures.value)
          ∙ (one_closed name key ks rising xs ∙ (ap (λ all. without_last_if (is_key name all) xs) (sym c.in-Some.ensures.steps) ∙ c.loop-name.invariant.left name));
      rising = sorted_tail vec_cmp key ks rising;
    }

pub returns : goal.returns
returns g c = λ name.
    ap (λ none. without_last_if (is_key name none) (numbers_of c.loop-name.self name)) (sym c.in-None.ensures.steps.0) ∙ c.loop-name.invariant.left name
