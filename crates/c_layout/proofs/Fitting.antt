-- Addresses of data that isn't too large are exact.
use Rattle.std.proofs.Common.{◌≡◌, ℕ, ◌≤◌, false, List, [], ◌∷◌, map, refl, ap₂, ◌∙◌, arith}
use Rattle.bop_bits.specs.declared.class.Classes.{Classes}
use Rattle.bop_bits.specs.declared.map.TheConstants.{PAGE_BYTES}
use Rattle.c_tree.specs.declared.operator.Keep.{Keep}
use Rattle.c_tree.specs.declared.operator.Keep.TheVariants.{Shared, Checked, Private}
use Rattle.c_tree.specs.Ty.{Ty}
use Rattle.c_tree.specs.Item.{Item}
use Rattle.c_layout.specs.private.Capped.{near}
use Rattle.c_layout.specs.Sizes.{alignment}
use Rattle.c_layout.specs.Globals.{Global, Cursors, cursor, moved, kept, placed, behind, end_of, addresses_from, addresses, starts, shared_end, checked_from, checked_end, private_from, private_end, private_to, page_of, classes_of, globals}
use Rattle.c_layout.specs.Laid.{is_data_too_large}
use Rattle.c_layout.proofs.Nearness.{le_rounded, small_alignment}
use Rattle.c_layout.proofs.Narrow.{nat_lt_false}

le_placed : (t : Ty) (at : ℕ) → at ≤ placed at t
le_placed t at = le_rounded (alignment t) at (small_alignment t).0

le_behind : (t : Ty) (at : ℕ) → at ≤ behind at t
le_behind t at = let h = le_placed t at in omega arith

le_end : (ts : List Ty) (at : ℕ) → at ≤ end_of at ts
le_end [] at = omega arith
le_end (t ∷ ts) at =
    let here = le_behind t at in
    let there = le_end ts (behind at t) in
    omega arith

-- the section of one kind after a global of a kind
after : (k by : Keep) (t : Ty) (gs : List Global) (c : Cursors)
    → end_of (cursor k c) (kept k (record { keep = by; shape = t } ∷ gs)) ≤ 8388608
    → end_of (cursor k (moved by (behind (cursor by c) t) c)) (kept k gs) ≤ 8388608
after Shared Shared t gs c h = h
after Shared Checked t gs c h = h
after Shared Private t gs c h = h
after Checked Shared t gs c h = h
after Checked Checked t gs c h = h
after Checked Private t gs c h = h
after Private Shared t gs c h = h
after Private Checked t gs c h = h
after Private Private t gs c h = h

-- the global itself
within : (by : Keep) (t : Ty) (gs : List Global) (c : Cursors)
    → end_of (cursor by c) (kept by (record { keep = by; shape = t } ∷ gs)) ≤ 8388608
    → end_of (behind (cursor by c) t) (kept by gs) ≤ 8388608
within Shared t gs c h = h
within Checked t gs c h = h
within Private t gs c h = h

exact_from : (gs : List Global) (c : Cursors)
    → ((k : Keep) → end_of (cursor k c) (kept k gs) ≤ 8388608)
    → map near (addresses_from c gs) ≡ addresses_from c gs
exact_from [] c h = refl
exact_from (g ∷ gs) c h =
    let at = cursor g.keep c in
    let end = within g.keep g.shape gs c (h g.keep) in
    let more = le_end (kept g.keep gs) (behind at g.shape) in
    let exact : near (placed at g.shape) ≡ placed at g.shape = omega arith in
    ap₂ (λ x xs. x ∷ xs) exact (exact_from gs (moved g.keep (behind at g.shape) c) (λ k. after k g.keep g.shape gs c (h k)))

-- the sections follow each other
record Ordered (gs : List Global) : Type 0 where
  shared : shared_end gs ≤ checked_from gs
  checked_begins : checked_from gs ≤ checked_end gs
  checked : checked_end gs ≤ private_from gs
  private_begins : private_from gs ≤ private_end gs
  private : private_end gs ≤ private_to gs

ordered : (gs : List Global) → Ordered gs
ordered gs = record {
  shared = le_rounded PAGE_BYTES (shared_end gs) (omega arith);
  checked_begins = le_end (kept Checked gs) (checked_from gs);
  checked = le_rounded PAGE_BYTES (checked_end gs) (omega arith);
  private_begins = le_end (kept Private gs) (private_from gs);
  private = le_rounded PAGE_BYTES (private_end gs) (omega arith);
}

below : (gs : List Global) → private_to gs ≤ 3932160 → (k : Keep)
    → end_of (cursor k (starts gs)) (kept k gs) ≤ 8388608
below gs h Shared = let o = ordered gs in omega arith
below gs h Checked = let o = ordered gs in omega arith
below gs h Private = let o = ordered gs in omega arith

-- what is known of a text's data up to a limit is exact where they aren't too large
pub laid : (ps : List Item) (checked private to : ℕ) (out : List ℕ)
    → checked ≡ near (checked_from (globals ps)) → private ≡ near (private_from (globals ps)) → to ≡ near (private_to (globals ps)) → to ≤ 3932160
    → out ≡ map near (addresses (globals ps))
    → (out ≡ addresses (globals ps))
    × (◌≡◌ {A = Classes} (record { checked_from = page_of checked; private_from = page_of private; private_to = page_of to }) (classes_of (globals ps)))
    × (is_data_too_large ps ≡ false)
laid ps checked private to out c p t h a =
    let gs = globals ps in
    let o = ordered gs in
    let last : to ≡ private_to gs = omega arith in
    let fits : private_to gs ≤ 3932160 = omega arith in
    let first : checked ≡ checked_from gs = omega arith in
    let second : private ≡ private_from gs = omega arith in (
      a ∙ exact_from gs (starts gs) (below gs fits),
      λ i. record { checked_from = page_of (first i); private_from = page_of (second i); private_to = page_of (last i) },
      nat_lt_false 3932160 (private_to gs) fits,
    )
