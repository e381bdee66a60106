-- A value is written into an object.
use Rattle.std.proofs.Common.{◌≡◌, ◌≢◌, ℕ, suc, ◌+◌, ◌-◌, ◌%◌, ◌^◌, ◌<◌, ◌≤◌, ◌⊎◌, List, [], ◌∷◌, ◌++◌, length, refl, sym, ap, ◌∙◌, subst, arith, ⊎_elim, inl, inr, length-append}
use Rattle.std.specs.Prelude.{Bool, true, false, bit_and, ◌==◌, if◌then◌else◌, pos}
use Rattle.std.specs.List.{list_any}
use Rattle.std.proofs.lemmas.Bool.{and_parts, eqb-true, cases_lt}
use Rattle.std.proofs.lemmas.Nat.{and_mask}
use Rattle.bop_bits.specs.declared.map.TheConstants.{CODE_WORDS, DATA_FROM, STACK_TO}
use Rattle.bop_bits.specs.MemoryNumbers.{byte_at}
use Rattle.rv_code.specs.declared.effect.Effect.TheVariants.{Stores}
use Rattle.rv_code.specs.declared.instr.Instr.{Instr}
use Rattle.rv_code.specs.declared.instr.Instr.TheVariants as instr
use Rattle.rv_code.specs.Word.{sum, word}
use Rattle.rv_code.specs.State.{State, register}
use Rattle.rv_code.specs.Step.{address_of}
use Rattle.c_tree.specs.declared.place.Place.{Place}
use Rattle.c_tree.specs.declared.undefined.Undefined.TheVariants.{Access}
use Rattle.c_semantics.specs.declared.kind.Held.{Held}
use Rattle.c_semantics.specs.declared.kind.Held.TheVariants.{Byte, Word, Array}
use Rattle.c_semantics.specs.Run.{Store, pure, ◌>>◌, change, undefined, then_run}
use Rattle.c_semantics.specs.Memory.{holds, is_fine, digits, with_bytes, write, store_at}
use Rattle.c_semantics.proofs.WrittenMemory.{length-with_bytes}
use Rattle.low_labels.specs.Operation.{Operation, width_of}
use Rattle.low_labels.specs.Operation as op
use Rattle.low_labels.specs.Placed.{HasAt}
use Rattle.low_expr.specs.CodePieces.{narrow_by, all_do, keep}
use Rattle.low_expr.specs.ExprCode.{keep_written}
use Rattle.low_expr.specs.Agreement.{Agrees, Framed, Lives, Keeps, InSlot}
use Rattle.low_expr.specs.Following.{Follows, for_expression}
use Rattle.low_expr.proofs.MemoryNumbersLemmas.{length-with_number, other_byte, AreBytes-with_number}
use Rattle.low_expr.proofs.StoredBytes.{stored_matches, lives_in, held_inside}
use Rattle.low_expr.proofs.PlainCode.{Env, with_env, effect_in, then_comes, is_place_of}
use Rattle.low_expr.proofs.CodePiecesLemmas.{Takes, takes_append, takes_none}
use Rattle.low_expr.proofs.Composing.{framed_then}
use Rattle.low_expr.proofs.KeptValues.{all_width, width-append, reached, stored_state, comes_stored, next_place, then_kept}

-- a dead byte isn't among those that an object holds
dead_apart : (store : Store) (at size b : ℕ) → list_any (holds at size) store.live ≡ true
    → (Lives store b → ⊥) → (b < at) ⊎ (at + size ≤ b)
dead_apart store at size b live dead =
    ⊎_elim (λ lt. inl lt)
    (λ ge. ⊎_elim (λ lt. absurd (dead (in_it lt ge))) (λ past. inr past) (cases_lt b (at + size)))
    (cases_lt b at)
  where
    in_it : b < at + size → at ≤ b → Lives store b
    in_it lt ge = let e : at + (b - at) ≡ b =
        omega arith in subst (Lives store) e
        (lives_in store.live at size (b - at) (omega arith) live)

abbrev pub with_object : Store → (size at v : ℕ) → Store
with_object store size at v = record store { bytes = with_bytes at (digits size v) store.bytes }

-- the store and the memory after a write
pub stored_agrees : (store : Store) (s : State) (size at v : ℕ) → Agrees store s → DATA_FROM ≤ at
    → at + size ≤ STACK_TO → Agrees (with_object store size at v) (stored_state s at size v)
unfolding stored_state
stored_agrees store s size at v a low high = record {
  bytes = λ b w lives h.
      stored_matches size at v (b - DATA_FROM) w store.bytes s.memory low (omega (arith, a.memory))
      (λ u g. a.bytes b u lives g) h;
  small = AreBytes-with_number s.memory at size v a.small;
  stack = a.stack;
  cursor = a.cursor;
  output = a.output;
  memory = length-with_number s.memory at size v ∙ a.memory;
  registers = a.registers;
  cells = length-with_bytes (digits size v) at store.bytes ∙ a.cells;
}

pub stored_keeps : (frame slots : ℕ) (store : Store) (s : State) (size at v from to : ℕ)
    → Framed frame slots store → list_any (holds at size) store.live ≡ true → DATA_FROM ≤ at
    → Keeps store from to s.memory (stored_state s at size v).memory
unfolding stored_state
stored_keeps frame slots store s size at v from to f live low = record {
  by = λ b ge dead off.
      other_byte s.memory at size v b low (omega (arith, f.above, f.is))
      (dead_apart store at size b live dead);
}

pub stored_fields : (s : State) (at size v : ℕ)
    → ((stored_state s at size v).pc ≡ sum s.pc 4)
    × ((stored_state s at size v).registers ≡ s.registers)
unfolding stored_state
stored_fields s at size v = (refl, refl)

-- a register that is written with what it has
same_env : (rd v : ℕ) (env : Env) → env rd ≡ v → with_env rd v env ≡ env
same_env rd v env e = λ i q. at q i
  where
    decided : (q : ℕ) (b : Bool) → (q == rd) ≡ b → (if b then v else env q) ≡ env q
    decided q true h = sym e ∙ ap env (sym (eqb-true q rd h))
    decided q false h = refl

    at : (q : ℕ) → with_env rd v env q ≡ env q
    at q = decided q (q == rd) refl

module _ (code input : List ℕ) (short : length code ≤ CODE_WORDS) (labels : ℕ → ℕ)
    (frame slots : ℕ) where
  -- an instruction that stores register 5 at the address in register 7
  abbrev IsStore : Instr → (size : ℕ) → Type 0
  IsStore x size =
      (s : State) → effect_in x (register s.registers) s.pc
      ≡ Stores (sum (register s.registers 7) (word (pos 0))) size (register s.registers 5)

  object_written : (x : Instr) (size rs slot i at v n n1 : ℕ) (g : ℕ → ℕ) (place : Place)
      (xs : List Instr) (env : Env) (s : State) (store : Store) → IsStore x size → 0 < size
      → n ≡ suc n1 → length xs ≤ 90 → Agrees store s → Framed frame slots store → slot < slots
      → s.pc ≡ address_of i → HasAt code labels i (all_do xs ++ op.Do x ∷ keep [] rs slot)
      → Takes s.memory i xs (register s.registers) env → env 2 ≡ frame → env 5 ≡ v → env 7 ≡ at
      → env rs ≡ g v → g v < 2 ^ 32 → rs ≢ 7
      → Follows code input for_expression store slot slots n
      (λ v. i + width_of (all_do xs ++ op.Do x ∷ keep [] rs slot)) s (InSlot frame slot)
      (then_run (write size at v place store n1) (λ new. pure (g new)))
  object_written x size rs slot i at v n n1 g place xs env s store is_store pos_size en few a f lt
      pc has t sp is to shown fits ne =
      decided (is_fine at size store.live) refl
    where
      last : List Operation
      last = op.Do x ∷ keep [] rs slot

      decided : (b : Bool) → is_fine at size store.live ≡ b
          → Follows code input for_expression store slot slots n
          (λ v. i + width_of (all_do xs ++ last)) s (InSlot frame slot)
          (then_run ((if b then change (with_object store size at v) >> pure v
          else undefined Access place) store n1) (λ new. pure (g new)))
      decided false e = record { by = tt }
      decided true e =
          let p = and_parts (list_any (holds at size) store.live) (at % size == 0) e in
          let al = eqb-true (at % size) 0 p.1 in
          let inside = held_inside store.live at size f.inside p.0 in
          let r = reached code input short labels i xs last env store s a pc has t (sp ∙ sym f.is) in
          let s1 = r.state in
          let w1 = r.went in
          let k = i + length xs in
          let back = r.next in
          let to1 : sum (register s1.registers 7) (word (pos 0)) ≡ at = ap (λ z. sum z (word (pos 0))) (ap (λ e. e 7) w1.is ∙ to) ∙ omega (arith, inside.1) in
          let v1 : register s1.registers 5 ≡ v = ap (λ e. e 5) w1.is ∙ is in
          let what : effect_in x (register s1.registers) s1.pc ≡ Stores at size v = is_store s1 ∙ ap (λ z. Stores z size (register s1.registers 5)) to1 ∙ ap (Stores at size) v1 in
          let s2 = stored_state s1 at size v in
          let c2 = comes_stored code input labels s1 k x at size v w1.pc back.0 what al inside.0 (omega (arith, inside.1)) in
          let store2 = with_object store size at v in
          let a2 = stored_agrees store s1 size at v r.agrees inside.0 inside.1 in
          let f2 : Framed frame slots store2 = framed_then frame slots store store2 refl refl f in
          let place_k = is_place_of code k _ back.0.1 in
          let pc2 : s2.pc ≡ address_of (k + 1) = (stored_fields s1 at size v).0 ∙ next_place k s1.pc (omega (arith, place_k, short)) w1.pc in
          let r2 : register s2.registers rs ≡ g v = ap (λ z. register z rs) (stored_fields s1 at size v).1 ∙ ap (λ e. e rs) w1.is ∙ shown in
          let keeps1 = stored_keeps frame slots store s1 size at v slot slots f p.0 inside.0 in
          let keeps2 = subst (λ l. Keeps store slot slots l s2.memory) w1.memory keeps1 in
          let ends_at : k + 1 + width_of (keep [] rs slot) ≡ i + width_of (all_do xs ++ last) = omega (arith, width-append (all_do xs) last, all_width xs) in
          then_kept code input short labels frame slots (g v) (InSlot frame slot) rs slot
          (length xs + 1) (k + 1) (i + width_of (all_do xs ++ last))
          (g v) n n1 s s2 store store2 en (omega (arith, few)) ends_at
          (then_comes code input (length xs) 1 s s1 s2 w1.comes c2) pc2 a2 refl refl keeps2 f2 lt
          back.1 r2 ne (λ s3 h. h fits)

  -- a register that shows what was stored, or else a value
  abbrev pub Shows : (rs : ℕ) → Env → (ℕ → ℕ) → Type 0
  Shows rs env g = (w : ℕ) → w < 2 ^ 32 → (with_env 5 w env rs ≡ g w) × (g w < 2 ^ 32)

  -- a value in register 5 is stored as the object's type, at the address in register 7
  pub store_follows : (h : Held) (rs slot i at v n n1 : ℕ) (g : ℕ → ℕ) (place : Place)
      (xs : List Instr) (env : Env) (s : State) (store : Store) → n ≡ suc n1 → length xs ≤ 80
      → Agrees store s → Framed frame slots store → slot < slots → s.pc ≡ address_of i
      → HasAt code labels i (keep_written xs h rs slot)
      → Takes s.memory i xs (register s.registers) env → env 2 ≡ frame → env 5 ≡ v → v < 2 ^ 32
      → env 7 ≡ at → Shows rs env g → rs ≢ 7
      → Follows code input for_expression store slot slots n
      (λ v. i + width_of (keep_written xs h rs slot)) s (InSlot frame slot)
      (then_run (store_at h at v place store n1) (λ new. pure (g new)))
  store_follows Byte rs slot i at v n n1 g place xs env s store en few a f lt pc has t sp is fits
      to shows ne =
      let low : List Instr = narrow_by Byte in
      let env1 = with_env 5 (bit_and (env 5) 255) env in
      let same : bit_and (env 5) 255 ≡ v % 2 ^ 8 = ap (λ z. bit_and z 255) is ∙ and_mask v 8 in
      let small : v % 2 ^ 8 < 2 ^ 32 = omega arith in
      let t1 : Takes s.memory (i + length xs) low env env1 = (((omega arith, omega arith), tt), refl) in
      let shown = shows (v % 2 ^ 8) small in
      let rs1 : env1 rs ≡ g (v % 2 ^ 8) = ap (λ z. with_env 5 z env rs) same ∙ shown.0 in
      object_written (instr.Sb 7 5 (pos 0)) 1 rs slot i at (v % 2 ^ 8) n n1 g place
      (xs ++ low) env1 s store (λ s. refl) (omega arith) en
      (omega (arith, length-append xs low)) a f lt pc has
      (takes_append s.memory xs low i (register s.registers) env env1 t t1) sp same to rs1
      shown.1 ne
  store_follows Word rs slot i at v n n1 g place xs env s store en few a f lt pc has t sp is fits
      to shows ne =
      let same : v ≡ v % 2 ^ 32 = omega (arith, fits) in
      let shown = shows v fits in
      let rs1 : env rs ≡ g v = ap (λ e. e rs) (sym (same_env 5 v env is)) ∙ shown.0 in
      object_written (instr.Sw 7 5 (pos 0)) 4 rs slot i at (v % 2 ^ 32) n n1 g place
      (xs ++ []) env s store (λ s. refl) (omega arith) en
      (omega (arith, length-append xs [])) a f lt pc has
      (takes_append s.memory xs [] i (register s.registers) env env t
      (takes_none s.memory (i + length xs) env)) sp (is ∙ same) to (rs1 ∙ ap g same)
      (subst (λ z. g z < 2 ^ 32) same shown.1) ne
  store_follows Array rs slot i at v n n1 g place xs env s store en few a f lt pc has t sp is fits
      to shows ne =
      let xs1 = xs ++ [] in
      let last = keep [] rs slot in
      let t1 = takes_append s.memory xs [] i (register s.registers) env env t (takes_none s.memory (i + length xs) env) in
      let shown = shows v fits in
      let rs1 : env rs ≡ g v = ap (λ e. e rs) (sym (same_env 5 v env is)) ∙ shown.0 in
      let r = reached code input short labels i xs1 last env store s a pc has t1 (sp ∙ sym f.is) in
      let w1 = r.went in
      let k = i + length xs1 in
      let l = length-append xs [] in
      let ends_at : k + width_of (keep [] rs slot) ≡ i + width_of (all_do xs1 ++ last) = omega (arith, width-append (all_do xs1) last, all_width xs1) in
      then_kept code input short labels frame slots (g v) (InSlot frame slot) rs slot
      (length xs1) k (i + width_of (all_do xs1 ++ last)) (g v) n n1 s r.state store store en
      (omega arith) ends_at
      w1.comes w1.pc r.agrees refl refl
      (record { by = λ b ge dead off. ap (λ l. byte_at l b) w1.memory }) f lt r.next
      (ap (λ e. e rs) w1.is ∙ rs1) ne (λ s2 h. h shown.1)
