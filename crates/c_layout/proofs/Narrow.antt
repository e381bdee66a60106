-- Offsets within a frame up to a limit.
use Rattle.std.proofs.Common.{◌≡◌, ℕ, ◌+◌, ◌<◌, ◌≤◌, List, [], ◌∷◌, map, refl, ap, ap₂, ◌∙◌, arith, append_assoc, ◌++◌, ◌*◌, true, false, nat_lt, inl, inr}
use Rattle.std.proofs.lemmas.Bool.{cases_lt}
use Rattle.std.proofs.lemmas.Bool.Decides.{nat_tests}
use Rattle.c_tree.specs.Stmt.{Stmts}
use Rattle.c_tree.specs.Fun.{Param}
use Rattle.c_layout.specs.private.Capped.{near, few, narrow}
use Rattle.c_layout.specs.Sizes.{rounded}
use Rattle.c_layout.specs.Slots.{body_slots}
use Rattle.c_layout.specs.Frames.{offsets_from, end_from, rooms, frame_of, Planned}
use Rattle.c_layout.proofs.Nearness.{near_near, near_rounded, le_rounded}

-- a room is known from the bytes up to a limit
pub narrow_room : (n : ℕ) → narrow (rounded 4 (near n)) ≡ narrow (rounded 4 n)
narrow_room n =
    let alike : near (rounded 4 (near n) + 0) ≡ near (rounded 4 n + 0) = near_rounded 4 0 (near n) n (omega arith) (near_near n) in
    omega arith

same_offsets : (rooms : List ℕ) (a b : ℕ) → narrow a ≡ narrow b
    → map narrow (offsets_from a rooms) ≡ map narrow (offsets_from b rooms)
same_offsets [] a b h = refl
same_offsets (room ∷ rooms) a b h =
    let more : narrow (a + room) ≡ narrow (b + room) = omega arith in
    ap₂ (λ x xs. x ∷ xs) h (same_offsets rooms (a + room) (b + room) more)

same_end : (rooms : List ℕ) (a b : ℕ) → narrow a ≡ narrow b
    → narrow (end_from a rooms) ≡ narrow (end_from b rooms)
same_end [] a b h = h
same_end (room ∷ rooms) a b h =
    let more : narrow (a + room) ≡ narrow (b + room) = omega arith in
    same_end rooms (a + room) (b + room) more

pub narrow_offsets : (rooms : List ℕ) (a b : ℕ) → narrow a ≡ narrow b
    → map narrow (offsets_from a (map narrow rooms)) ≡ map narrow (offsets_from b rooms)
narrow_offsets [] a b h = refl
narrow_offsets (room ∷ rooms) a b h =
    let more : narrow (a + narrow room) ≡ narrow (b + room) = omega arith in
    ap₂ (λ x xs. x ∷ xs) h (narrow_offsets rooms (a + narrow room) (b + room) more)

pub narrow_end : (rooms : List ℕ) (a b : ℕ) → narrow a ≡ narrow b
    → narrow (end_from a (map narrow rooms)) ≡ narrow (end_from b rooms)
narrow_end [] a b h = h
narrow_end (room ∷ rooms) a b h =
    let more : narrow (a + narrow room) ≡ narrow (b + room) = omega arith in
    narrow_end rooms (a + narrow room) (b + room) more

-- one more offset
pub offset_next : (at room next : ℕ) (places rest : List ℕ) → at ≤ 65540
    → next ≡ narrow (at + room)
    → (places ++ at ∷ []) ++ map narrow (offsets_from next rest)
    ≡ places ++ map narrow (offsets_from at (room ∷ rest))
offset_next at room next places rest h e =
    let here : at ≡ narrow at = omega arith in
    let more : narrow next ≡ narrow (at + room) = omega arith in
    append_assoc places (at ∷ []) _ ∙ ap₂ (λ x xs. places ++ x ∷ xs) here (same_offsets rest next (at + room) more)

pub end_next : (at room next : ℕ) (rest : List ℕ) → next ≡ narrow (at + room)
    → narrow (end_from next rest) ≡ narrow (end_from at (room ∷ rest))
end_next at room next rest e =
    let more : narrow next ≡ narrow (at + room) = omega arith in
    same_end rest next (at + room) more

nat_lt_true : (a b : ℕ) → a < b → nat_lt a b ≡ true
nat_lt_true a b h = grind (arith, nat_tests)

pub nat_lt_false : (a b : ℕ) → b ≤ a → nat_lt a b ≡ false
nat_lt_false a b h = grind (arith, nat_tests)

le_end : (rooms : List ℕ) (at : ℕ) → at ≤ end_from at rooms
le_end [] at = omega arith
le_end (room ∷ rooms) at = let rest = le_end rooms (at + room) in omega arith

pub exact_offsets : (rooms : List ℕ) (at : ℕ) → end_from at rooms ≤ 65540
    → map narrow (offsets_from at rooms) ≡ offsets_from at rooms
exact_offsets [] at h = refl
exact_offsets (room ∷ rooms) at h =
    let rest = le_end rooms (at + room) in
    let exact : narrow at ≡ at = omega arith in
    ap₂ (λ x xs. x ∷ xs) exact (exact_offsets rooms (at + room) h)

-- where a frame ends is known up to a limit above the frames that fit
too_wide : (all end size : ℕ) → end ≡ narrow all → size ≡ rounded 16 (end + 8) → 65536 < size
    → 65536 < rounded 16 (all + 8)
too_wide all end size e whole h =
    elim (cases_lt all 65540) [
      | inl below ↦
          let same : end ≡ all = omega arith in
          let bytes : size ≡ rounded 16 (all + 8) = whole ∙ ap (λ n. rounded 16 (n + 8)) same in
          omega arith
      | inr above ↦ let least = le_rounded 16 (all + 8) (omega arith) in omega arith
    ]

exact_end : (all end size : ℕ) → end ≡ narrow all → size ≡ rounded 16 (end + 8) → size ≤ 65536
    → (end ≡ all) × (all ≤ 65528)
exact_end all end size e whole h =
    let least = le_rounded 16 (end + 8) (omega arith) in
    (omega arith, omega arith)

end_is : (ps : List Param) (body : Stmts) (slots end : ℕ) → slots ≡ few (body_slots body)
    → end ≡ narrow (end_from (4 * slots) (map narrow (rooms ps body)))
    → end ≡ narrow (end_from (4 * body_slots body) (rooms ps body))
end_is ps body slots end few_slots ends =
    let begins : narrow (4 * slots) ≡ narrow (4 * body_slots body) = omega arith in
    ends ∙ narrow_end (rooms ps body) (4 * slots) (4 * body_slots body) begins

pub frame_too_large : (ps : List Param) (body : Stmts) (slots end size : ℕ)
    → slots ≡ few (body_slots body)
    → end ≡ narrow (end_from (4 * slots) (map narrow (rooms ps body)))
    → size ≡ rounded 16 (end + 8) → 65536 < size → nat_lt 65536 (frame_of ps body).size ≡ true
frame_too_large ps body slots end size few_slots ends whole h =
    let large = too_wide (end_from (4 * body_slots body) (rooms ps body)) end size (end_is ps body slots end few_slots ends) whole h in
    nat_lt_true 65536 (frame_of ps body).size large

pub frame_is : (ps : List Param) (body : Stmts) (slots end size : ℕ) (places : List ℕ)
    → slots ≡ few (body_slots body)
    → end ≡ narrow (end_from (4 * slots) (map narrow (rooms ps body)))
    → size ≡ rounded 16 (end + 8) → size ≤ 65536 → places ≡ map narrow (offsets_from (4 * slots) (map narrow (rooms ps body)))
    → (◌≡◌ {A = Planned} (record { size = size; slots = slots; places = places }) (frame_of ps body)) × (nat_lt 65536 (frame_of ps body).size ≡ false)
frame_is ps body slots end size places few_slots ends whole h stand =
    let all = end_from (4 * body_slots body) (rooms ps body) in
    let known = exact_end all end size (end_is ps body slots end few_slots ends) whole h in
    let least = le_end (rooms ps body) (4 * body_slots body) in
    let bytes : size ≡ rounded 16 (all + 8) = whole ∙ ap (λ n. rounded 16 (n + 8)) known.0 in
    let exact : slots ≡ body_slots body = omega arith in
    let begins : narrow (4 * slots) ≡ narrow (4 * body_slots body) = omega arith in
    let offsets = stand ∙ narrow_offsets (rooms ps body) (4 * slots) (4 * body_slots body) begins ∙ exact_offsets (rooms ps body) (4 * body_slots body) (omega arith) in
    let fits : (frame_of ps body).size ≤ 65536 = omega arith in
    (λ i. record { size = bytes i; slots = exact i; places = offsets i }, nat_lt_false 65536 (frame_of ps body).size fits)

pub ruleset narrowed = (narrow_room)
