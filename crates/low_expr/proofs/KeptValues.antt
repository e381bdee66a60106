-- A value goes into a slot.
use Rattle.std.proofs.Common.{◌≡◌, ◌≢◌, ℕ, suc, ◌+◌, ◌*◌, ◌%◌, ◌^◌, ◌<◌, ◌≤◌, ◌⊎◌, List, [], ◌∷◌, ◌++◌, length, refl, sym, ap, ◌∙◌, subst, arith, ⊎_elim, inl, inr, length-append}
use Rattle.std.specs.Prelude.{Bool, true, false, slice_index, ℤ, pos}
use Rattle.std.proofs.lemmas.Bool.{cases_lt}
use Rattle.bop_bits.specs.declared.map.TheConstants.{CODE_WORDS, DATA_FROM, STACK_TO}
use Rattle.bop_bits.specs.MemoryNumbers.{byte_at, with_number, is_in_memory}
use Rattle.rv_code.specs.declared.effect.Effect.TheVariants.{Stores}
use Rattle.rv_code.specs.declared.instr.Instr.{Instr}
use Rattle.rv_code.specs.declared.instr.Instr.TheVariants as instr
use Rattle.rv_code.specs.Word.{sum, word}
use Rattle.rv_code.specs.State.{State, register}
use Rattle.rv_code.specs.Step.{address_of, performs, stores}
use Rattle.c_semantics.specs.Run.{Store, Goes}
use Rattle.low_labels.specs.Operation.{Operation, width, width_of}
use Rattle.low_labels.specs.Operation as op
use Rattle.low_labels.specs.Placed.{HasWord, HasAt}
use Rattle.low_expr.specs.CodePieces.{upper, lower, is_near, find_by, put_by, all_do, keep}
use Rattle.low_expr.specs.Agreement.{Agrees, Framed, Lives, Keeps, InSlot}
use Rattle.low_expr.specs.Following.{Comes, Follows, for_expression}
use Rattle.low_expr.proofs.MemoryNumbersLemmas.{length-with_number, other_byte, AreBytes-with_number, word-with_word}
use Rattle.low_expr.proofs.StoredBytes.{held_inside}
use Rattle.low_expr.proofs.PlainCode.{Env, with_env, effect_in, Went, went, one, then_comes, eq_true, in_memory, is_place_of}
use Rattle.low_expr.proofs.CodePiecesLemmas.{Takes, takes_append, takes_none, with_other, parts_sum_from}
use Rattle.low_expr.proofs.Composing.{own, then_keeps, wider}

pub all_width : (xs : List Instr) → width_of (all_do xs) ≡ length xs
all_width [] = refl
all_width (x ∷ xs) = omega (arith, all_width xs)

pub width-append : (a b : List Operation) → width_of (a ++ b) ≡ width_of a + width_of b
width-append [] b = omega arith
width-append (o ∷ a) b = omega (arith, width-append a b)

pub has_front : (code : List ℕ) (labels : ℕ → ℕ) (i : ℕ) (a b : List Operation)
    → HasAt code labels i (a ++ b) → HasAt code labels i a
has_front code labels i [] b h = tt
has_front code labels i (o ∷ a) b h = (h.0, has_front code labels (i + width o) a b h.1)

pub has_back : (code : List ℕ) (labels : ℕ → ℕ) (i : ℕ) (a b : List Operation)
    → HasAt code labels i (a ++ b) → HasAt code labels (i + width_of a) b
has_back code labels i [] b h = let e : i ≡ i + 0 =
    omega arith in subst (λ n. HasAt code labels n b) e h
has_back code labels i (o ∷ a) b h =
    let e : i + width o + width_of a ≡ i + width_of (o ∷ a) = omega arith in
    subst (λ n. HasAt code labels n b) e (has_back code labels (i + width o) a b h.1)

-- the first of some instructions is at a place of the code
pub first_place : (code : List ℕ) (labels : ℕ → ℕ) (i : ℕ) (xs : List Instr) (x : Instr)
    → HasAt code labels i (all_do xs ++ op.Do x ∷ []) → i < length code
first_place code labels i [] x h = is_place_of code i _ h.0.1
first_place code labels i (y ∷ xs) x h = is_place_of code i _ h.0.1

-- what comes after plain instructions
pub has_after : (code : List ℕ) (labels : ℕ → ℕ) (i : ℕ) (xs : List Instr) (b : List Operation)
    → HasAt code labels i (all_do xs ++ b) → HasAt code labels (i + length xs) b
has_after code labels i xs b h =
    subst (λ z. HasAt code labels z b) (ap (λ z. i + z) (all_width xs))
    (has_back code labels i (all_do xs) b h)

unfoldable pub stored_state : State → (at size v : ℕ) → State
stored_state s at size v =
    record s { memory = with_number s.memory at size v; pc = sum s.pc 4; count = s.count + 1 }

-- a store
pub comes_stored : (code input : List ℕ) (labels : ℕ → ℕ) (s : State) (i : ℕ) (x : Instr)
    (at size v : ℕ) → s.pc ≡ address_of i → HasWord code labels i x
    → effect_in x (register s.registers) s.pc ≡ Stores at size v → at % size ≡ 0
    → DATA_FROM ≤ at → at < STACK_TO → Comes code input 1 s (stored_state s at size v)
unfolding stored_state
comes_stored code input labels s i x at size v pc has is al low high = record {
  is = one code input labels s i x pc has ∙ ap (performs input s) is
      ∙ ap (λ b. stores s at size v b (is_in_memory at)) (eq_true (at % size) 0 al)
      ∙ ap (stores s at size v true) (in_memory at low high);
}

-- the place after an instruction
pub next_place : (i pc : ℕ) → i < CODE_WORDS → pc ≡ address_of i → sum pc 4 ≡ address_of (i + 1)
next_place i pc lt e = omega arith

-- a value was put into a slot
pub record Saved (code input : List ℕ) (frame k end : ℕ) (store : Store) (slot v : ℕ)
    (s s' : State) : Type 0 where
  pub comes : Comes code input k s s'
  pub pc : s'.pc ≡ address_of end
  pub agrees : Agrees store s'
  pub keeps : Keeps store slot (slot + 1) s.memory s'.memory
  pub in_slot : v < 2 ^ 32 → InSlot frame slot v s'

-- registers changed, and nothing else
pub went_agrees : (code input : List ℕ) (store : Store) (j i : ℕ) (env : Env) (s s' : State)
    → Agrees store s → Went code input j i env s s' → env 2 ≡ store.sp → Agrees store s'
went_agrees code input store j i env s s' a w is = record {
  bytes = λ at v lives h. ap (λ m. byte_at m at) w.memory ∙ a.bytes at v lives h;
  small = λ at. subst (λ m. slice_index m at < 2 ^ 8) (sym w.memory) (a.small at);
  stack = ap (λ e. e 2) w.is ∙ is;
  cursor = w.cursor ∙ a.cursor;
  output = w.output ∙ a.output;
  memory = ap length w.memory ∙ a.memory;
  registers = w.registers;
  cells = a.cells;
}

-- The state that plain instructions lead to, and what comes after them.
pub record Reached (code input : List ℕ) (labels : ℕ → ℕ) (i : ℕ) (xs : List Instr)
    (last : List Operation) (env : Env) (store : Store) (s : State) : Type 0 where
  pub state : State
  pub went : Went code input (length xs) i env s state
  pub agrees : Agrees store state
  pub next : HasAt code labels (i + length xs) last

pub reached : (code input : List ℕ) (short : length code ≤ CODE_WORDS) (labels : ℕ → ℕ) (i : ℕ)
    (xs : List Instr) (last : List Operation) (env : Env) (store : Store) (s : State)
    → Agrees store s → s.pc ≡ address_of i → HasAt code labels i (all_do xs ++ last)
    → Takes s.memory i xs (register s.registers) env → env 2 ≡ store.sp
    → Reached code input labels i xs last env store s
reached code input short labels i xs last env store s a pc has t is =
    let w = went code input short labels xs i (register s.registers) s refl pc a.registers (has_front code labels i (all_do xs) last has) t.0 in
    let g = subst (λ e. Went code input (length xs) i e s w.0) t.1 w.1 in
    record {
      state = w.0;
      went = g;
      agrees = went_agrees code input store (length xs) i env s w.0 a g is;
      next = has_after code labels i xs last has;
    }

module _ (code input : List ℕ) (short : length code ≤ CODE_WORDS) (labels : ℕ → ℕ)
    (frame slots : ℕ) where
  -- a live byte is in no slot
  off_slot : (slot : ℕ) (store : Store) (at : ℕ) → Framed frame slots store → slot < slots
      → Lives store at → (at < frame + 4 * slot) ⊎ (frame + 4 * slot + 4 ≤ at)
  off_slot slot store at f lt lives =
      let above = f.above in
      ⊎_elim (λ h. inl h) (λ ge.
      ⊎_elim (λ h. absurd (f.apart at (omega arith) (omega arith) lives)) (λ h. inr h)
      (cases_lt at (frame + 4 * slot + 4))) (cases_lt at (frame + 4 * slot))

  stores_slot : (s : State) (i slot base rs v : ℕ) (imm : ℤ) (store : Store) → Agrees store s
      → Framed frame slots store → slot < slots → s.pc ≡ address_of i
      → HasWord code labels i (instr.Sw base rs imm)
      → sum (register s.registers base) (word imm) ≡ frame + 4 * slot
      → register s.registers rs ≡ v
      → Saved code input frame 1 (i + 1) store slot v s (stored_state s (frame + 4 * slot) 4 v)
  unfolding stored_state
  stores_slot s i slot base rs v imm store a f lt pc has to value =
      let at = frame + 4 * slot in
      let above = f.above in
      let within = f.within in
      let is : effect_in (instr.Sw base rs imm) (register s.registers) s.pc ≡ Stores at 4 v = ap (λ z. Stores z 4 (register s.registers rs)) to ∙ ap (Stores at 4) value in
      let place = is_place_of code i _ has.1 in
      record {
        comes = comes_stored code input labels s i (instr.Sw base rs imm) at 4 v pc has is
            (omega (arith, f.aligned)) (omega arith) (omega arith);
        pc = next_place i s.pc (omega (arith, place, short)) pc;
        agrees = record {
          bytes = λ b w lives h.
              other_byte s.memory at 4 v b (omega arith)
              (held_inside store.live b 1 f.inside lives).0 (off_slot slot store b f lt lives)
              ∙ a.bytes b w lives h;
          small = AreBytes-with_number s.memory at 4 v a.small;
          stack = a.stack;
          cursor = a.cursor;
          output = a.output;
          memory = length-with_number s.memory at 4 v ∙ a.memory;
          registers = a.registers;
          cells = a.cells;
        };
        keeps = record {
          by = λ b ge dead off.
              let e = f.is in
              other_byte s.memory at 4 v b (omega arith) (omega arith)
              (⊎_elim (λ h. inl (omega arith)) (λ h. inr (omega arith)) off);
        };
        in_slot = λ fits. word-with_word s.memory at v (omega arith) (omega (arith, a.memory)) fits;
      }

  -- registers are worked out, and one goes to the address of a slot
  kept_from : (xs : List Instr) (base rs slot i v : ℕ) (imm : ℤ) (env : Env) (s : State)
      (store : Store) → Agrees store s → Framed frame slots store → slot < slots
      → s.pc ≡ address_of i → HasAt code labels i (all_do xs ++ op.Do (instr.Sw base rs imm) ∷ [])
      → Takes s.memory i xs (register s.registers) env → env 2 ≡ frame
      → sum (env base) (word imm) ≡ frame + 4 * slot → env rs ≡ v
      → (s' : State) × Saved code input frame (length xs + 1)
      (i + width_of (all_do xs ++ op.Do (instr.Sw base rs imm) ∷ [])) store slot v s s'
  kept_from xs base rs slot i v imm env s store a f lt pc has t is to value =
      let last = op.Do (instr.Sw base rs imm) ∷ [] in
      let r = reached code input short labels i xs last env store s a pc has t (is ∙ sym f.is) in
      let s1 = r.state in
      let w = r.went in
      let to1 : sum (register s1.registers base) (word imm) ≡ frame + 4 * slot = ap (λ e. sum (e base) (word imm)) w.is ∙ to in
      let q = stores_slot s1 (i + length xs) slot base rs v imm store r.agrees f lt w.pc r.next.0 to1 (ap (λ e. e rs) w.is ∙ value) in
      let s2 = stored_state s1 (frame + 4 * slot) 4 v in (
        s2,
        record {
          comes = then_comes code input (length xs) 1 s s1 s2 w.comes q.comes;
          pc = q.pc ∙ omega (arith, width-append (all_do xs) last, all_width xs);
          agrees = q.agrees;
          keeps = subst (λ m. Keeps store slot (slot + 1) m s2.memory) w.memory q.keeps;
          in_slot = q.in_slot;
        },
      )

  -- near the stack pointer, and far from it
  kept_by : (b : Bool) (xs : List Instr) (rs slot i v : ℕ) (env : Env) (s : State) (store : Store)
      → Agrees store s → Framed frame slots store → slot < slots → s.pc ≡ address_of i
      → HasAt code labels i (all_do (xs ++ find_by b (4 * slot)) ++ op.Do (put_by b rs (4 * slot)) ∷ [])
      → Takes s.memory i xs (register s.registers) env → env 2 ≡ frame → env rs ≡ v → rs ≢ 7
      → (k : ℕ) × (s' : State) × (k ≤ length xs + 3) × (0 < k)
      × Saved code input frame k
      (i + width_of (all_do (xs ++ find_by b (4 * slot)) ++ op.Do (put_by b rs (4 * slot)) ∷ []))
      store slot v s s'
  kept_by true xs rs slot i v env s store a f lt pc has t is value ne =
      let within = f.within in
      let t1 = takes_append s.memory xs [] i (register s.registers) env env t (takes_none s.memory (i + length xs) env) in
      let to : sum (env 2) (word (pos (4 * slot))) ≡ frame + 4 * slot = ap (λ z. sum z (word (pos (4 * slot)))) is ∙ omega arith in
      let q = kept_from (xs ++ []) 2 rs slot i v (pos (4 * slot)) env s store a f lt pc has t1 is to value in
      (length (xs ++ []) + 1, q.0, omega (arith, length-append xs []), omega arith, q.1)
  kept_by false xs rs slot i v env s store a f lt pc has t is value ne =
      let find = find_by false (4 * slot) in
      let within = f.within in
      let u = upper (4 * slot) * 2 ^ 12 in
      let env1 = with_env 7 u env in
      let env2 = with_env 7 (sum u (env 2)) env1 in
      let t1 = takes_append s.memory xs find i (register s.registers) env env2 t (((omega arith, omega arith), ((omega arith, omega arith), tt)), refl) in
      let swap : 4 * slot + frame ≡ frame + 4 * slot = omega arith in
      let to : sum (sum u (env 2)) (word (lower (4 * slot))) ≡ frame + 4 * slot = ap (λ z. sum (sum u z) (word (lower (4 * slot)))) is ∙ parts_sum_from (4 * slot) frame (omega arith) ∙ swap in
      let value2 : env2 rs ≡ v = with_other 7 (sum u (env 2)) rs env1 ne ∙ with_other 7 u rs env ne ∙ value in
      let q = kept_from (xs ++ find) 7 rs slot i v (lower (4 * slot)) env2 s store a f lt pc has t1 is to value2 in
      (length (xs ++ find) + 1, q.0, omega (arith, length-append xs find), omega arith, q.1)

  pub kept : (xs : List Instr) (rs slot i v : ℕ) (env : Env) (s : State) (store : Store)
      → Agrees store s → Framed frame slots store → slot < slots → s.pc ≡ address_of i
      → HasAt code labels i (keep xs rs slot) → Takes s.memory i xs (register s.registers) env
      → env 2 ≡ frame → env rs ≡ v → rs ≢ 7
      → (k : ℕ) × (s' : State) × (k ≤ length xs + 3) × (0 < k)
      × Saved code input frame k (i + width_of (keep xs rs slot)) store slot v s s'
  kept xs rs slot i v env s store a f lt pc has t is2 value ne =
      kept_by (is_near (4 * slot)) xs rs slot i v env s store a f lt pc has t is2 value ne

  -- a node's own instructions end so: they may have written the store, and the last of them put a
  -- register into the slot
  pub then_kept : {A : Type 0} (value : A) (V : A → State → Type 0)
      (rs slot k j end v n n1 : ℕ) (s s1 : State) (store store1 : Store) → n ≡ suc n1 → k ≤ 150
      → j + width_of (keep [] rs slot) ≡ end
      → Comes code input k s s1 → s1.pc ≡ address_of j → Agrees store1 s1 → store1.sp ≡ store.sp
      → store1.live ≡ store.live → Keeps store slot slots s.memory s1.memory
      → Framed frame slots store1 → slot < slots → HasAt code labels j (keep [] rs slot)
      → register s1.registers rs ≡ v → rs ≢ 7
      → ((s2 : State) → (v < 2 ^ 32 → InSlot frame slot v s2) → V value s2)
      → Follows code input for_expression store slot slots n (λ w. end) s V (Goes value store1 n1)
  then_kept value V rs slot k j end v n n1 s s1 store store1 en few e c pc a same live keeps f lt
      has is ne shows =
      let y = kept [] rs slot j v (register s1.registers) s1 store1 a f lt pc has (takes_none s1.memory j (register s1.registers)) (a.stack ∙ f.is) is ne in
      let z = y.4 in
      own value (k + y.0) y.1 en (omega (arith, y.3)) (omega (arith, y.2))
      (then_comes code input k y.0 s s1 y.1 c z.comes) (z.pc ∙ ap address_of e) z.agrees same live
      (then_keeps store store1 slot slots slot (slot + 1) s.memory s1.memory y.1.memory same live
      (omega arith) (omega arith) keeps z.keeps)
      (shows y.1 z.in_slot)

  -- so a node does its own part that leaves the store
  pub node_keeps : (xs : List Instr) (rs slot i v n n1 : ℕ) (env : Env) (s : State) (store : Store)
      → n ≡ suc n1 → length xs ≤ 100 → Agrees store s → Framed frame slots store → slot < slots
      → s.pc ≡ address_of i → HasAt code labels i (keep xs rs slot)
      → Takes s.memory i xs (register s.registers) env → env 2 ≡ frame → env rs ≡ v → v < 2 ^ 32
      → rs ≢ 7
      → Follows code input for_expression store slot slots n
      (λ v. i + width_of (keep xs rs slot)) s (InSlot frame slot) (Goes v store n1)
  node_keeps xs rs slot i v n n1 env s store en few a f lt pc has t is2 value fits ne =
      let k = kept xs rs slot i v env s store a f lt pc has t is2 value ne in
      let q = k.4 in
      own v k.0 k.1 en k.3 (omega (arith, k.2)) q.comes q.pc q.agrees refl refl
      (wider store slot (slot + 1) slot slots s.memory k.1.memory (omega arith)
      (omega arith) q.keeps)
      (q.in_slot fits)
