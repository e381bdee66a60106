-- Blocks: what their locals do to a store, and what comes behind them.
use Rattle.std.proofs.Common.{◌≡◌, ◌∙◌, ℕ, List, [], ◌∷◌, ◌++◌, Option, length, take, sym, append_assoc, append-nil}
use Rattle.std.specs.Prelude.{map}
use Rattle.c_semantics.specs.declared.flow.Flow.{Flow}
use Rattle.c_semantics.specs.declared.local.Local.{Local}
use Rattle.c_semantics.specs.Contents.{Contents}
use Rattle.c_semantics.specs.Exec.{all_blank, object_at, with_locals}
use Rattle.c_meaning.specs.private.Opened.{opened, opened_all}
use Rattle.c_semantics.specs.Run.{Store, Run, pure, ◌>>=◌, ◌>>◌, now, change}
use Rattle.c_semantics.proofs.RunLemmas.{then_assoc}

-- all locals of a block at once, or one behind the other
pub opened_all_is : (sp : ℕ) (ls : List Local) (c : Contents)
    → opened_all sp ls c ≡ record
    { bytes = all_blank sp ls c.bytes; live = c.live ++ map (object_at sp) ls }
opened_all_is sp [] c = λ i. record { bytes = c.bytes; live = sym (append-nil c.live) i }
opened_all_is sp (l ∷ ls) c =
    opened_all_is sp ls (opened sp l c)
    ∙ (λ i. record { bytes = all_blank sp (l ∷ ls) c.bytes; live = append_assoc c.live (object_at sp l ∷ []) (map (object_at sp) ls) i })

abbrev pub with_open : List Local → Store → Store
with_open ls store = record store { bytes = (opened_all store.sp ls (record { bytes = store.bytes; live = store.live })).bytes; live = (opened_all store.sp ls (record { bytes = store.bytes; live = store.live })).live }

-- what comes behind a block
pub with_locals_then : (ls : List Local) (run : Run Flow) (rest : Flow → Run (Option ℕ))
    (store : Store) (left : ℕ)
    → (with_locals ls run >>= rest) store left
    ≡ (run >>= λ f. now >>= λ after. change (record after { live = take (length store.live) after.live }) >> rest f) (with_open ls store) left
with_locals_then ls run rest store left =
    let same = opened_all_is store.sp ls (record { bytes = store.bytes; live = store.live }) in
    then_assoc (run (record store { bytes = all_blank store.sp ls store.bytes; live = store.live ++ map (object_at store.sp) ls }) left) (λ v. now >>= λ after. change (record after { live = take (length store.live) after.live }) >> pure v) rest
    ∙ (λ i. (run >>= λ f. now >>= λ after. change (record after { live = take (length store.live) after.live }) >> rest f) (record store { bytes = (sym same i).bytes; live = (sym same i).live }) left)
