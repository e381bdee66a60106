-- Addresses of globals up to a limit.
use Rattle.std.proofs.Common.{◌≡◌, ℕ, List, [], ◌∷◌, ◌++◌, map, refl, ap, ap₂, ◌∙◌, append_assoc, append-nil}
use Rattle.bop_bits.specs.declared.map.TheConstants.{DATA_FROM}
use Rattle.c_tree.specs.declared.operator.Keep.{Keep}
use Rattle.c_tree.specs.declared.operator.Keep.TheVariants.{Shared, Checked, Private}
use Rattle.c_tree.specs.Ty.{Ty}
use Rattle.c_tree.specs.Var.{Var}
use Rattle.c_tree.specs.Item as item
use Rattle.c_layout.specs.private.Capped.{near}
use Rattle.c_layout.specs.Globals.{Global, Cursors, cursor, moved, placed, behind, global_of, globals, addresses_from, addresses, starts, checked_from, private_from}
use Rattle.c_layout.proofs.Nearness.{near_near, near_behind, near_placed}

-- alike as far as the limit
record Alike (c d : Cursors) : Type 0 where
  shared : near c.shared ≡ near d.shared
  checked : near c.checked ≡ near d.checked
  private : near c.private ≡ near d.private

alike_cursor : (keep : Keep) (c d : Cursors) → Alike c d
    → near (cursor keep c) ≡ near (cursor keep d)
alike_cursor Shared c d h = h.shared
alike_cursor Checked c d h = h.checked
alike_cursor Private c d h = h.private

alike_moved : (keep : Keep) (a b : ℕ) (c d : Cursors) → near a ≡ near b → Alike c d
    → Alike (moved keep a c) (moved keep b d)
alike_moved Shared a b c d e h = record { shared = e; checked = h.checked; private = h.private }
alike_moved Checked a b c d e h = record { shared = h.shared; checked = e; private = h.private }
alike_moved Private a b c d e h = record { shared = h.shared; checked = h.checked; private = e }

near_addresses : (gs : List Global) (c d : Cursors) → Alike c d
    → map near (addresses_from c gs) ≡ map near (addresses_from d gs)
near_addresses [] c d h = refl
near_addresses (g ∷ gs) c d h =
    let at = alike_cursor g.keep c d h in
    let ends = near_behind g.shape (cursor g.keep c) (cursor g.keep d) at in
    ap₂ (λ x xs. x ∷ xs) (near_placed g.shape (cursor g.keep c) (cursor g.keep d) at)
    (near_addresses gs (moved g.keep (behind (cursor g.keep c) g.shape) c) (moved g.keep (behind (cursor g.keep d) g.shape) d) (alike_moved g.keep _ _ c d ends h))

pub near_starts : (gs : List Global) (c : Cursors) → c.shared ≡ DATA_FROM
    → c.checked ≡ near (checked_from gs) → c.private ≡ near (private_from gs)
    → map near (addresses_from c gs) ≡ map near (addresses gs)
near_starts gs c s h k =
    near_addresses gs c (starts gs) (record { shared = ap near s; checked = ap near h ∙ near_near (checked_from gs); private = ap near k ∙ near_near (private_from gs) })

-- one more global has an address
pub place_one : (keep : Keep) (t : Ty) (gs : List Global) (out : List ℕ) (c d : Cursors)
    (at from to : ℕ)
    → at ≡ cursor keep c → from ≡ near (placed at t) → to ≡ near (behind at t) → d ≡ moved keep to c
    → (out ++ from ∷ []) ++ map near (addresses_from d gs) ≡ out ++ map near (addresses_from c (record { keep = keep; shape = t } ∷ gs))
place_one keep t gs out c d at from to h begins ends next =
    let first : from ≡ near (placed (cursor keep c) t) = begins ∙ ap (λ a. near (placed a t)) h in
    let end : near to ≡ near (behind (cursor keep c) t) = ap near ends ∙ near_near _ ∙ ap (λ a. near (behind a t)) h in
    let alike : Alike (moved keep to c) (moved keep (behind (cursor keep c) t) c) = alike_moved keep _ _ c c end (record { shared = refl; checked = refl; private = refl }) in
    append_assoc out (from ∷ []) _
    ∙ ap₂ (λ x xs. out ++ x ∷ xs) first (ap (λ e. map near (addresses_from e gs)) next ∙ near_addresses gs _ _ alike)

-- the globals of an item, with what follows
pub items_then : (keep : Keep) (ds : List Var) (rest : List Global)
    → globals (item.Vars keep ds ∷ []) ++ rest ≡ map (global_of keep) ds ++ rest
items_then keep ds rest = ap (λ gs. gs ++ rest) (append-nil (map (global_of keep) ds))

pub ruleset placing = (items_then)
