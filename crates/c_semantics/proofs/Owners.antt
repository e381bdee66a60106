-- The owners of bytes, as objects are opened and closed, and the look-up by them.
use Rattle.std.proofs.Common.{◌≡◌, ◌⊎◌, ◌↔◌, ℕ, zero, suc, ◌+◌, ◌-◌, ◌<◌, ◌≤◌, Bool, true, false, leb, ◌||◌, List, [], ◌∷◌, ◌++◌, length, get_or, take, drop, Some, refl, sym, ap, ◌∙◌, subst, inl, inr, arith, rules, length-drop, get_or-drop}
use Rattle.std.specs.Prelude.{slice_get, slice_range, All}
use Rattle.std.specs.Cmp.{both_ways}
use Rattle.std.specs.List.{list_any}
use Rattle.std.specs.Option.{option_map_or}
use Rattle.std.proofs.lemmas.Bool.{cond-true, cond-false, cond_both, le-leb, lt-leb, cases_lt, false≢true, or_left, or_right, or_cases}
use Rattle.std.proofs.lemmas.Bool.Decides.{nat_tests}
use Rattle.std.proofs.lemmas.List.{get_or_default, get_or_past, length_push, length-take, places}
use Rattle.std.proofs.lemmas.List.Edits.{get_or-between, length-between}
use Rattle.std.proofs.lemmas.List.Folds.{Any-from_list_any, list_any_at}
use Rattle.std.proofs.lemmas.Option.{slice_get-get_or, same_Some}
use borrow.Rule.Slice.PartMut.{put_mid}
use Rattle.bop_bits.specs.declared.map.TheConstants.{DATA_FROM, MEMORY_BYTES}
use Rattle.c_semantics.specs.declared.object.Object.{Object}
use Rattle.c_semantics.specs.Live.{HasByte, LiesInMemory, owner_at, owner_holds, Stands, StandFirst}
use Rattle.c_semantics.specs.Memory.{holds}

-- the owner of a byte of the memory
pub owner_inside : (owners : List ℕ) (at : ℕ) → DATA_FROM ≤ at
    → owner_at owners at ≡ get_or owners (at - DATA_FROM) 0
owner_inside owners at h = cond-true _ _ _ (le-leb DATA_FROM at h)

has_cases : (at : ℕ) (o : Object) → HasByte at o ⊎ (HasByte at o → ⊥)
has_cases at o =
    elim (cases_lt at o.address) [
      | inl low ↦ inr (λ h. omega arith)
      | inr from ↦ elim (cases_lt at (o.address + o.size)) [ inl to ↦ inl (from, to) | inr past ↦ inr (λ h. omega arith) ]
    ]

-- an object's cells are free where no byte of it has an owner
pub free_range : (owners : List ℕ) (o : Object) (from to : ℕ) → DATA_FROM + from ≡ o.address
    → DATA_FROM + to ≡ o.address + o.size → LiesInMemory o → length owners ≡ MEMORY_BYTES
    → All (λ owner. owner ≡ 0) (slice_range owners from to) ↔
    ((at : ℕ) → HasByte at o → owner_at owners at ≡ 0)
free_range owners o from to f t inside cells =
    let within : to ≤ length owners = omega arith in
    let size = length-between owners from to within in (
      λ all at b.
          let in_range : from + (at - o.address) < to = omega arith in
          let same : from + (at - o.address) ≡ at - DATA_FROM = omega arith in
          owner_inside owners at (omega arith)
          ∙ ap (λ i. get_or owners i 0) (sym same)
          ∙ sym (get_or-between owners from to (at - o.address) 0 in_range)
          ∙ all (at - o.address) 0 (omega arith),
      λ free k d lt.
          let in_range : from + k < to = omega arith in
          let same : o.address + k - DATA_FROM ≡ from + k = omega arith in
          get_or-between owners from to k d in_range
          ∙ get_or_default owners (from + k) d 0 (omega arith)
          ∙ ap (λ i. get_or owners i 0) (sym same)
          ∙ sym (owner_inside owners (o.address + k) (omega arith))
          ∙ free (o.address + k) (omega arith, omega arith),
    )

-- a byte that isn't the object's keeps its owner
pub kept_outside : (owners part : List ℕ) (o : Object) (from to : ℕ) → DATA_FROM + from ≡ o.address
    → DATA_FROM + to ≡ o.address + o.size → LiesInMemory o → length owners ≡ MEMORY_BYTES
    → length part ≡ to - from → (at : ℕ) → (HasByte at o → ⊥)
    → owner_at (put_mid from (to - from) owners part) at ≡ owner_at owners at
kept_outside owners part o from to f t inside cells len at other =
    let all = put_mid from (to - from) owners part in
    let front : length (take from owners) ≡ from = omega (arith, length-take from owners) in
    elim (cases_lt at DATA_FROM) [
      | inl low ↦ cond-false _ _ _ (lt-leb DATA_FROM at low) ∙ sym (cond-false _ _ _ (lt-leb DATA_FROM at low))
      | inr in_memory ↦
          let i = at - DATA_FROM in
          let same : get_or all i 0 ≡ get_or owners i 0 =
          elim (cases_lt i from) [
            | inl before ↦ search (rules, places)
            | inr behind ↦
                let past : to ≤ i = elim (cases_lt i to) [ inl mine ↦ absurd (other (omega arith, omega arith)) | inr past ↦ past ] in
                grind (arith, places)
          ] in
          owner_inside all at in_memory ∙ same ∙ sym (owner_inside owners at in_memory)
    ]

-- elements at the front
get_front : (xs ys : List Object) (k : ℕ) (x : Object) → slice_get xs k ≡ Some x
    → slice_get (xs ++ ys) k ≡ Some x
get_front [] ys k x h = cc
get_front (y ∷ xs) ys zero x h = h
get_front (y ∷ xs) ys (suc k) x h = get_front xs ys k x h

get_back : (xs ys : List Object) (k : ℕ) → k < length xs → slice_get (xs ++ ys) k ≡ slice_get xs k
get_back [] ys k h = absurd (omega arith)
get_back (y ∷ xs) ys zero h = refl
get_back (y ∷ xs) ys (suc k) h = get_back xs ys k (omega arith)

get_last : (xs : List Object) (x : Object) → slice_get (xs ++ x ∷ []) (length xs) ≡ Some x
get_last [] x = refl
get_last (y ∷ xs) x = get_last xs x

any_at : (p : Object → Bool) (objects : List Object) (k : ℕ)
    → option_map_or p (slice_get objects k) false ≡ true → list_any p objects ≡ true
any_at p [] k h = absurd (false≢true h)
any_at p (x ∷ xs) zero h = or_left (p x) _ h
any_at p (x ∷ xs) (suc k) h = or_right (p x) _ (any_at p xs k h)

any_later : (p : Object → Bool) (objects : List Object) (n : ℕ)
    → list_any p (drop n objects) ≡ true → list_any p objects ≡ true
any_later p objects zero h = h
any_later p [] (suc n) h = h
any_later p (x ∷ xs) (suc n) h = or_right (p x) _ (any_later p xs n h)

-- what an owner holds, an object of the list holds
owner_is_one : (objects : List Object) (owner at size : ℕ)
    → owner_holds objects owner at size ≡ true → list_any (holds at size) objects ≡ true
owner_is_one objects zero at size h = absurd (false≢true h)
owner_is_one objects (suc k) at size h = any_at (holds at size) objects k h

owner_of : (objects : List Object) (owner k at size : ℕ) (o : Object) → owner ≡ k + 1
    → slice_get objects k ≡ Some o → holds at size o ≡ true
    → owner_holds objects owner at size ≡ true
owner_of objects zero k at size o e got h = absurd (omega arith)
owner_of objects (suc n) k at size o e got h =
    let same : n ≡ k = omega arith in
    ap (λ i. option_map_or (holds at size) (slice_get objects i) false) same ∙ ap (λ x. option_map_or (holds at size) x false) got ∙ h

holds_parts : (at size : ℕ) (o : Object) → holds at size o ≡ true
    → (o.address ≤ at) × (at + size ≤ o.address + o.size)
holds_parts at size o h = grind (arith, nat_tests)

module _ (objects : List Object) (owners : List ℕ) (standing : ℕ) (rule : StandFirst objects owners standing) (at size : ℕ) where
  abbrev first : Bool
  first = owner_holds objects (owner_at owners at) at size

  abbrev before : Bool
  before = owner_holds objects (owner_at owners (at - 1)) at size

  abbrev later : Bool
  later = list_any (holds at size) (drop standing objects)

  is_found : (k : ℕ) (o : Object) → k < length objects → get_or objects k o ≡ o
      → holds at size o ≡ true → (first || before || later) ≡ true
  is_found k o lt is h =
      let got = slice_get-get_or objects k o lt ∙ ap Some is in
      let parts = holds_parts at size o h in
      elim (cases_lt k standing) [
        | inl stands ↦
            let s = rule.stands k o stands got in
            elim (cases_lt at (o.address + o.size)) [
              | inl inside ↦ or_left (first || before) later (or_left first before (owner_of objects (owner_at owners at) k at size o (s.owns at (omega arith, inside)) got h))
              | inr end ↦ or_left (first || before) later (or_right first before (owner_of objects (owner_at owners (at - 1)) k at size o (s.owns (at - 1) (omega (arith, s.inside), omega (arith, s.inside))) got h))
            ]
        | inr others ↦
            let place : standing + (k - standing) ≡ k = omega arith in
            let there = get_or-drop standing objects (k - standing) o ∙ ap (λ i. get_or objects i o) place ∙ is in
            or_right (first || before) later (list_any_at (holds at size) (drop standing objects) (k - standing) o (omega (arith, length-drop standing objects)) (ap (holds at size) there ∙ h))
      ]

  -- some object holds the bytes where the owner of the first one does, or that of the one before, or an object that doesn't stand
  pub holds_is_found : list_any (holds at size) objects ≡ (first || before || later)
  holds_is_found =
      both_ways (list_any (holds at size) objects) (first || before || later)
      (λ h. let some = Any-from_list_any (holds at size) objects h in is_found some.0 some.1 some.2 some.3 some.4)
      (λ h. elim (or_cases (first || before) later h) [
        | inl owned ↦ elim (or_cases first before owned) [ inl e ↦ owner_is_one objects (owner_at owners at) at size e | inr e ↦ owner_is_one objects (owner_at owners (at - 1)) at size e ]
        | inr e ↦ any_later (holds at size) objects standing e
      ])

-- no object
pub none_stand : (owners : List ℕ) → length owners ≡ MEMORY_BYTES → All (λ owner. owner ≡ 0) owners
    → StandFirst [] owners 0
none_stand owners cells free =
    let each : (i : ℕ) → get_or owners i 0 ≡ 0 = λ i. elim (cases_lt i (length owners)) [ inl lt ↦ free i 0 lt | inr past ↦ get_or_past owners i 0 past ] in
    let none : (at : ℕ) → owner_at owners at ≡ 0 = λ at. cond_both (leb DATA_FROM at) (get_or owners (at - DATA_FROM) 0) 0 (λ n. n ≡ 0) (λ _. each (at - DATA_FROM)) (λ _. refl) in
    record {
      cells = cells;
      within = omega arith;
      stands = λ k o lt got. absurd (omega arith);
      among = λ at k e. absurd (omega (arith, none at));
      has = λ at k o e got. absurd (omega (arith, none at));
    }

-- a list with one more object
module _ (objects all : List Object) (o : Object) (is : all ≡ objects ++ o ∷ []) where
  count_more : length all ≡ length objects + 1
  count_more = ap length is ∙ length_push objects o

  back : (k : ℕ) (x : Object) → k < length objects → slice_get all k ≡ Some x
      → slice_get objects k ≡ Some x
  back k x lt got = sym (ap (λ os. slice_get os k) is ∙ get_back objects (o ∷ []) k lt) ∙ got

  front : (k : ℕ) (x : Object) → slice_get objects k ≡ Some x → slice_get all k ≡ Some x
  front k x got = ap (λ os. slice_get os k) is ∙ get_front objects (o ∷ []) k x got

  last : (k : ℕ) → k ≡ length objects → slice_get all k ≡ Some o
  last k e = ap (λ os. slice_get os k) is ∙ ap (slice_get (objects ++ o ∷ [])) e ∙ get_last objects o

  last_is : (k : ℕ) (x : Object) → k ≡ length objects → slice_get all k ≡ Some x → o ≡ x
  last_is k x e got = same_Some o x (sym (last k e) ∙ got)

  module _ (owners : List ℕ) (standing : ℕ) where
    -- it is opened and doesn't stand
    pub opened_aside : StandFirst objects owners standing → StandFirst all owners standing
    opened_aside rule = record {
      cells = rule.cells;
      within = omega (arith, rule.within, count_more);
      stands = λ k x lt got. rule.stands k x lt (back k x (omega (arith, rule.within)) got);
      among = rule.among;
      has = λ at k x e got. rule.has at k x e (back k x (omega (arith, rule.within, rule.among at k e)) got);
    }

    -- it ends, and didn't stand
    pub closed_aside : StandFirst all owners standing → standing ≤ length objects
        → StandFirst objects owners standing
    closed_aside rule aside = record {
      cells = rule.cells;
      within = aside;
      stands = λ k x lt got. rule.stands k x lt (front k x got);
      among = rule.among;
      has = λ at k x e got. rule.has at k x e (front k x got);
    }

    -- its bytes get an owner
    module _ (new : List ℕ) (cells : length new ≡ MEMORY_BYTES) (owner : ℕ) (given : (at : ℕ) → HasByte at o → owner_at new at ≡ owner) (kept : (at : ℕ) → (HasByte at o → ⊥) → owner_at new at ≡ owner_at owners at) where
      -- it is opened and stands
      pub opened_standing : StandFirst objects owners standing → standing ≡ length objects
          → LiesInMemory o → ((at : ℕ) → HasByte at o → owner_at owners at ≡ 0)
          → owner ≡ standing + 1 → StandFirst all new (standing + 1)
      opened_standing rule stood inside free own = record {
        cells = cells;
        within = omega (arith, count_more);
        stands = λ k x lt got.
            elim (cases_lt k standing) [
              | inl old ↦
                  let s = rule.stands k x old (back k x (omega arith) got) in
                  record {
                    inside = s.inside;
                    owns = λ at b. elim (has_cases at o) [ inl mine ↦ absurd (omega (arith, free at mine, s.owns at b)) | inr other ↦ kept at other ∙ s.owns at b ];
                  }
              | inr newest ↦
                  subst (Stands new (k + 1)) (last_is k x (omega arith) got) (record { inside = inside; owns = λ at b. omega (arith, given at b) })
            ];
        among = λ at k e. elim (has_cases at o) [ inl mine ↦ omega (arith, given at mine) | inr other ↦ omega (arith, rule.among at k (sym (kept at other) ∙ e)) ];
        has = λ at k x e got.
            elim (has_cases at o) [
              | inl mine ↦ subst (HasByte at) (last_is k x (omega (arith, given at mine)) got) mine
              | inr other ↦
                  let was = sym (kept at other) ∙ e in
                  rule.has at k x was (back k x (omega (arith, rule.among at k was)) got)
            ];
      }

      -- it ends, and stood
      pub closed_standing : StandFirst all owners standing → length objects < standing → owner ≡ 0
          → StandFirst objects new (length objects)
      closed_standing rule stood none =
          let own = rule.stands (length objects) o stood (last (length objects) refl) in
          record {
            cells = cells;
            within = omega arith;
            stands = λ k x lt got.
                let s = rule.stands k x (omega arith) (front k x got) in
                record {
                  inside = s.inside;
                  owns = λ at b. elim (has_cases at o) [ inl mine ↦ absurd (omega (arith, own.owns at mine, s.owns at b)) | inr other ↦ kept at other ∙ s.owns at b ];
                };
            among = λ at k e.
                elim (has_cases at o) [
                  | inl mine ↦ absurd (omega (arith, given at mine))
                  | inr other ↦
                      let was = sym (kept at other) ∙ e in
                      elim (cases_lt k (length objects)) [
                        | inl lt ↦ lt
                        | inr newest ↦ absurd (other (rule.has at k o was (last k (omega (arith, rule.among at k was, rule.within, count_more)))))
                      ]
                ];
            has = λ at k x e got.
                elim (has_cases at o) [
                  | inl mine ↦ absurd (omega (arith, given at mine))
                  | inr other ↦ rule.has at k x (sym (kept at other) ∙ e) (front k x got)
                ];
          }
