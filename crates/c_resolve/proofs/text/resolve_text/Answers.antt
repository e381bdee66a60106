use Rattle.std.proofs.Common.{◌≡◌, ℕ, ◌+◌, ◌<◌, List, [], ◌∷◌, ◌++◌, length, get_or, map, drop, refl, ap, sym, subst, ◌∙◌, append_assoc}
use Rattle.std.proofs.lemmas.List.{drop-drop, drop_at, length-map, map-append}
use Rattle.c_tree.proofs.TreeLists.{cut_at}
use Rattle.c_tree.specs.declared.tree.Item.{Item}
use Rattle.c_tree.specs.View.{item_of, items_of}
use Rattle.c_layout.specs.Laid.{Plan}
use Rattle.c_layout.specs.LayoutAnswers.{plan_of}
use Rattle.c_resolve.specs.declared.routine.Routine.{Routine}
use Rattle.c_resolve.specs.Actions.{routine_run}
use Rattle.c_resolve.specs.DeclaredNames.{numbered, names_at}
use Rattle.c_semantics.specs.Meaning.{main_name}
use Rattle.c_resolve.specs.Routines.{context_of, definitions_of, definition_frame, definition_run, AreNumbersOf}
use Rattle.c_resolve.proofs.Numbering.{definitions_cons, definition_numbered, frames_are}
use Rattle.c_resolve.proofs.text.resolve_text.Goals as goal

-- the definitions of an item and of those behind it
cut : (items all : List Item) (i : ℕ) (item : Item) → items ≡ all → i < length items
    → item ≡ get_or items i item
    → definitions_of (map item_of (drop i all)) ≡ definitions_of (map item_of (item ∷ [])) ++ definitions_of (map item_of (drop (i + 1) all))
cut items all i item same h e =
    let Cut : List Item → Type 0 = λ is. definitions_of (map item_of (drop i is)) ≡ definitions_of (map item_of (item ∷ [])) ++ definitions_of (map item_of (drop (i + 1) is)) in
    subst Cut same (ap (λ (is : List Item). definitions_of (map item_of is)) (cut_at items i item h e) ∙ definitions_cons (item_of item) (map item_of (drop (i + 1) items)))

pub loop-item-init : goal.loop-item-init
loop-item-init c =
    let text = items_of c.args.tree.now in
    let fs = (plan_of c.args.layout.now).frames in
    let empty = c.new-all.ensures.items in
    record {
      same = refl;
      frames = ap (λ (rs : List Routine). drop (length rs) fs) empty ∙ (ap (λ (p : Plan). p.frames) c.requires ∙ frames_are text);
      means = λ input calls. ap (λ (rs : List Routine). map (routine_run (context_of text input calls)) rs ++ map (definition_run text input calls) (definitions_of text)) empty;
    }

pub push_item-requires : goal.push_item-requires
push_item-requires c =
    let items = c.args.tree.now.items.items in
    let i = c.loop-item.item-index in
    let item = c.item-item.result in
    let one = definitions_of (map item_of (item ∷ [])) in
    let later = definitions_of (map item_of (drop (i + 1) items)) in
    let here = cut c.deref-item-items.result.now items i item c.deref-item-items.ensures.value c.loop-item-test.true c.item-item.is in
    (map definition_frame later, c.loop-item.invariant.frames ∙ (ap (map definition_frame) here ∙ map-append definition_frame one later))

pub loop-item-preserved : goal.loop-item-preserved
loop-item-preserved c =
    let text = items_of c.args.tree.now in
    let fs = (plan_of c.args.layout.now).frames in
    let items = c.args.tree.now.items.items in
    let i = c.loop-item.item-index in
    let item = c.item-item.result in
    let out = c.loop-item.all.items in
    let one = definitions_of (map item_of (item ∷ [])) in
    let later = definitions_of (map item_of (drop (i + 1) items)) in
    let here = cut c.deref-item-items.result.now items i item c.deref-item-items.ensures.value c.loop-item-test.true c.item-item.is in
    let next = c.loop-item.invariant.frames ∙ (ap (map definition_frame) here ∙ map-append definition_frame one later) in
    record {
      same = c.in_ok-push_item.ensures.same ∙ c.loop-item.invariant.same;
      frames =
          ap (λ n. drop n fs) c.in_ok-push_item.ensures.count
          ∙ (sym (drop-drop (length one) (length out) fs)
          ∙ (ap (drop (length one)) next ∙ drop_at (map definition_frame one) (map definition_frame later) (length one) (length-map one definition_frame)));
      means = λ input calls.
          let run = routine_run (context_of text input calls) in
          let does = definition_run text input calls in
          let known = ap (names_at (definitions_of text)) c.loop-item.invariant.same ∙ c.in_ok-names.ensures input in
          let pushed = c.in_ok-push_item.ensures.means (context_of text input calls) text known in
          ap (λ rs. rs ++ map does later) pushed
          ∙ (append_assoc (map run out) (map does one) (map does later)
          ∙ (ap (λ rs. map run out ++ rs) (sym (map-append does one later) ∙ ap (map does) (sym here))
          ∙ c.loop-item.invariant.means input calls));
    }

pub returns-clause-main : goal.returns-clause-main
returns-clause-main c =
    let text = items_of c.args.tree.now in
    let known = subst (λ items. AreNumbersOf c.in_ok-numbers.numbers (definitions_of (map item_of items))) c.deref.ensures.value c.in_ok-numbers.ensures in
    ap (numbered (definitions_of text)) (c.find-main.ensures ∙ known.first main_name) ∙ definition_numbered text main_name

pub text_names-requires-clause-numbers : goal.text_names-requires-clause-numbers
text_names-requires-clause-numbers c =
    subst (λ items. AreNumbersOf c.in_ok-numbers.numbers (definitions_of (map item_of items))) c.deref.ensures.value c.in_ok-numbers.ensures
