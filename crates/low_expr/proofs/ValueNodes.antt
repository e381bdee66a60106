-- Nodes that give a value and leave the store, by the values of their operands.
use Rattle.std.proofs.Common.{◌≡◌, ◌≢◌, ℕ, suc, ◌+◌, ◌*◌, ◌^◌, ◌<◌, ◌≤◌, List, ◌++◌, length, sym, ◌∙◌, subst, arith, inl, inr, ⊎_elim, length-append, append_assoc}
use Rattle.bop_bits.specs.declared.map.TheConstants.{CODE_WORDS}
use Rattle.rv_code.specs.declared.instr.Instr.{Instr}
use Rattle.rv_code.specs.State.{State, register}
use Rattle.rv_code.specs.Step.{address_of}
use Rattle.c_semantics.specs.Run.{Store, Run, count, ◌>>=◌, ◌>>◌}
use Rattle.low_labels.specs.Operation.{width_of}
use Rattle.low_labels.specs.Placed.{HasAt}
use Rattle.low_expr.specs.CodePieces.{take_slot, keep}
use Rattle.low_expr.specs.ExprCode.{on_one, on_two}
use Rattle.low_expr.specs.Agreement.{Agrees, Framed, Keeps, InSlot}
use Rattle.low_expr.specs.Following.{Follows, for_expression}
use Rattle.low_expr.specs.ExprSimulation.{IsFollowed}
use Rattle.low_expr.proofs.MemoryNumbersLemmas.{AreBytes, same_number, word_fits}
use Rattle.low_expr.proofs.PlainCode.{Env, with_env, below_apart}
use Rattle.low_expr.proofs.CodePiecesLemmas.{Takes, takes_append, slot_takes, with_other}
use Rattle.low_expr.proofs.Composing.{then_follows, then_count, framed_then}
use Rattle.low_expr.proofs.KeptValues.{node_keeps}
use Rattle.low_expr.proofs.Deciding.{Decided, Computes, undefined_follows}
use Rattle.low_expr.proofs.CodeLengths.{slot_length}

-- a slot below the ones that a part uses keeps its value
pub still_in : (frame slots slot from : ℕ) (store : Store) (v : ℕ) (s s1 : State) → slot < from
    → from ≤ slots → Framed frame slots store → Keeps store from slots s.memory s1.memory
    → InSlot frame slot v s → InSlot frame slot v s1
still_in frame slots slot from store v s s1 lt le f k is =
    let above = f.above in
    same_number s.memory s1.memory (frame + 4 * slot) 4
    (λ b ge below.
    k.by b (omega (arith, f.is)) (λ lives. f.apart b (omega arith) (omega arith) lives)
    (inl (omega (arith, f.is))))
    ∙ is

-- a value in a slot is a word
pub slot_fits : (frame slot v : ℕ) (s : State) → AreBytes s.memory → InSlot frame slot v s
    → v < 2 ^ 32
slot_fits frame slot v s small is = omega (arith, is, word_fits s.memory (frame + 4 * slot) small)

-- instructions leave a value in register 5, and the stack pointer
pub record Works (m : List ℕ) (i : ℕ) (xs : List Instr) (env : Env) (frame v : ℕ) : Type 0 where
  pub left : Env
  pub takes : Takes m i xs env left
  pub value : left 5 ≡ v
  pub fits : v < 2 ^ 32
  pub stack : left 2 ≡ frame

pub works_after : (m : List ℕ) (i : ℕ) (xs ys : List Instr) (env env1 : Env) (frame v : ℕ)
    → Takes m i xs env env1 → env1 2 ≡ frame → Computes m (i + length xs) ys env1 v
    → Works m i (xs ++ ys) env frame v
works_after m i xs ys env env1 frame v t is c = record {
  left = c.left;
  takes = takes_append m xs ys i env env1 c.left t c.takes;
  value = c.value;
  fits = c.fits;
  stack = c.stack_still ∙ is;
}

pub decided_map : (r : Run ℕ) (store : Store) (P Q : ℕ → Type 0) → ((v : ℕ) → P v → Q v)
    → Decided r store P → Decided r store Q
decided_map r store P Q f d = ⊎_elim (λ u. inl u) (λ g. inr (g.0, g.1, f g.0 g.2)) d

module _ (code input : List ℕ) (short : length code ≤ CODE_WORDS) (labels : ℕ → ℕ)
    (frame slots : ℕ) where
  -- what the code of a part does, wherever it is come to with at most so many steps
  abbrev pub Part : (slot m i end : ℕ) → Run ℕ → Type 0
  Part slot m i end r = IsFollowed code input frame slots slot m i end (InSlot frame slot) r

  -- a node's act on one value, and on two
  abbrev pub Act : (slot i end : ℕ) → (ℕ → Run ℕ) → Type 0
  Act slot i end act =
      (x : ℕ) (store : Store) (n n1 : ℕ) (s : State) → n ≡ suc n1 → s.pc ≡ address_of i
      → Agrees store s → Framed frame slots store → InSlot frame slot x s
      → Follows code input for_expression store slot slots n (λ v. end) s (InSlot frame slot)
      (act x store n1)

  abbrev pub Acts : (slot i end : ℕ) → (ℕ → ℕ → Run ℕ) → Type 0
  Acts slot i end act =
      (x y : ℕ) (store : Store) (n n1 : ℕ) (s : State) → n ≡ suc n1 → s.pc ≡ address_of i
      → Agrees store s → Framed frame slots store → InSlot frame slot x s
      → InSlot frame (slot + 1) y s
      → Follows code input for_expression store slot slots n (λ v. end) s (InSlot frame slot)
      (act x y store n1)

  pub one_follows : (slot m i mid end : ℕ) (r : Run ℕ) (act : ℕ → Run ℕ) → Part slot m i mid r
      → Act slot mid end act → Part slot m i end (r >>= λ x. count >> act x)
  one_follows slot m i mid end r act fr fact store n s le pc a f =
      then_follows for_expression for_expression code input store slot slot slots slot n (λ v. mid)
      (λ v. end) s (InSlot frame slot) (InSlot frame slot) (r store n) (λ x. count >> act x)
      (omega arith) (omega arith) (omega arith) (omega arith) (fr store n s le pc a f)
      (λ x store1 n1 j1 s1 l1 v1.
      let f1 = framed_then frame slots store store1 l1.same_sp l1.same_live f in
      then_count (λ u. act x) (omega arith) l1.agrees.output
      (λ n2 en. fact x store1 n1 n2 s1 en l1.pc l1.agrees f1 v1))

  pub two_follows : (slot m i mid mid2 end : ℕ) (ra rb : Run ℕ) (act : ℕ → ℕ → Run ℕ)
      → slot + 1 < slots → Part slot m i mid ra → Part (slot + 1) m mid mid2 rb
      → Acts slot mid2 end act
      → Part slot m i end (ra >>= λ x. rb >>= λ y. count >> act x y)
  two_follows slot m i mid mid2 end ra rb act lt fa fb fact store n s le pc a f =
      then_follows for_expression for_expression code input store slot slot slots slot n (λ v. mid)
      (λ v. end) s (InSlot frame slot) (InSlot frame slot) (ra store n)
      (λ x. rb >>= λ y. count >> act x y) (omega arith) (omega arith) (omega arith) (omega arith)
      (fa store n s le pc a f)
      (λ x store1 n1 j1 s1 l1 v1.
      let f1 = framed_then frame slots store store1 l1.same_sp l1.same_live f in
      then_follows for_expression for_expression code input store1 slot (slot + 1) slots slot n1
      (λ v. mid2) (λ v. end) s1 (InSlot frame (slot + 1)) (InSlot frame slot) (rb store1 n1)
      (λ y. count >> act x y) (omega arith) (omega arith) (omega arith) (omega arith)
      (fb store1 n1 s1 (omega (arith, l1.most)) l1.pc l1.agrees f1)
      (λ y store2 n2 j2 s2 l2 v2.
      let f2 = framed_then frame slots store1 store2 l2.same_sp l2.same_live f1 in
      let hx = still_in frame slots slot (slot + 1) store1 x s1 s2 (omega arith) (omega arith) f1 l2.keeps v1 in
      then_count (λ u. act x y) (omega arith) l2.agrees.output
      (λ n3 en. fact x y store2 n2 n3 s2 en l2.pc l2.agrees f2 hx v2)))

  -- an act that is decided, by the code that works it out
  pub decided_follows : (xs : List Instr) (slot i n n1 : ℕ) (r : Run ℕ) (s : State)
      (store : Store) → n ≡ suc n1 → length xs ≤ 100 → Agrees store s → Framed frame slots store
      → slot < slots → s.pc ≡ address_of i → HasAt code labels i (keep xs 5 slot)
      → Decided r store (Works s.memory i xs (register s.registers) frame)
      → Follows code input for_expression store slot slots n (λ v. i + width_of (keep xs 5 slot)) s
      (InSlot frame slot) (r store n1)
  decided_follows xs slot i n n1 r s store en few a f lt pc has d =
      ⊎_elim
      (λ u. undefined_follows (r store n1) (u n1))
      (λ g.
      let w = g.2 in
      subst (Follows code input for_expression store slot slots n
      (λ v. i + width_of (keep xs 5 slot)) s (InSlot frame slot)) (sym (g.1 n1))
      (node_keeps code input short labels frame slots xs 5 slot i g.0 n n1 w.left s store en few a
      f lt pc has w.takes w.stack w.value w.fits (below_apart 5 7 (omega arith))))
      d

  -- a leaf
  pub leaf_follows : (xs : List Instr) (slot m i : ℕ) (r : Run ℕ) → length xs ≤ 100
      → slot < slots → HasAt code labels i (keep xs 5 slot)
      → ((store : Store) (s : State) → Agrees store s → Framed frame slots store
      → Decided r store (Computes s.memory i xs (register s.registers)))
      → Part slot m i (i + width_of (keep xs 5 slot)) (count >> r)
  leaf_follows xs slot m i r few lt has h store n s le pc a f =
      then_count (λ u. r) (omega arith) a.output
      (λ n1 en.
      decided_follows xs slot i n n1 r s store en few a f lt pc has
      (decided_map r store (Computes s.memory i xs (register s.registers))
      (Works s.memory i xs (register s.registers) frame)
      (λ v c. record {
        left = c.left;
        takes = c.takes;
        value = c.value;
        fits = c.fits;
        stack = c.stack_still ∙ a.stack ∙ f.is;
      })
      (h store s a f)))

  -- a slot in a register
  pub slot_taken : (rd slot i x : ℕ) (s : State) (store : Store) (env : Env)
      → Framed frame slots store
      → slot < slots → 2 < rd → rd < 32 → env 2 ≡ frame → InSlot frame slot x s
      → Takes s.memory i (take_slot rd slot) env (with_env rd x env)
  slot_taken rd slot i x s store env f lt above below is hx =
      let ne : rd ≢ 2 = omega arith in
      subst (λ z. Takes s.memory i (take_slot rd slot) env (with_env rd z env)) hx
      (slot_takes s.memory frame slots i rd slot store env f lt is (omega arith) below ne)

  -- two slots in two registers
  pub slots_taken : (p q slot i x y : ℕ) (s : State) (store : Store) → 2 < p → p < 32 → 2 < q
      → q < 32 → Agrees store s → Framed frame slots store → slot + 1 < slots
      → InSlot frame slot x s → InSlot frame (slot + 1) y s
      → Takes s.memory i (take_slot p slot ++ take_slot q (slot + 1)) (register s.registers)
      (with_env q y (with_env p x (register s.registers)))
  slots_taken p q slot i x y s store p2 p32 q2 q32 a f lt hx hy =
      let ne : 2 ≢ p = omega arith in
      let env0 = register s.registers in
      let env1 = with_env p x env0 in
      let stack = a.stack ∙ f.is in
      takes_append s.memory (take_slot p slot) (take_slot q (slot + 1)) i env0 env1
      (with_env q y env1)
      (slot_taken p slot i x s store env0 f (omega arith) p2 p32 stack hx)
      (slot_taken q (slot + 1) (i + length (take_slot p slot)) y s store env1 f lt q2 q32
      (with_other p x 2 env0 ne ∙ stack) hy)

  -- instructions on the value of a slot
  pub one_acts : (xs : List Instr) (slot i : ℕ) (act : ℕ → Run ℕ) → length xs ≤ 90 → slot < slots
      → HasAt code labels i (on_one slot xs)
      → ((x : ℕ) (store : Store) (s : State) → Agrees store s → Framed frame slots store
      → x < 2 ^ 32
      → Decided (act x) store (Computes s.memory (i + length (take_slot 5 slot)) xs
      (with_env 5 x (register s.registers))))
      → Act slot i (i + width_of (on_one slot xs)) act
  one_acts xs slot i act few lt has h x store n n1 s en pc a f hx =
      let env0 = register s.registers in
      let env1 = with_env 5 x env0 in
      let take = take_slot 5 slot in
      let stack = a.stack ∙ f.is in
      let l = slot_length 5 slot in
      decided_follows (take ++ xs) slot i n n1 (act x) s store en
      (omega (arith, l, length-append take xs)) a f lt pc has
      (decided_map (act x) store (Computes s.memory (i + length take) xs env1)
      (Works s.memory i (take ++ xs) env0 frame)
      (λ v c. works_after s.memory i take xs env0 env1 frame v
      (slot_taken 5 slot i x s store env0 f lt (omega arith) (omega arith) stack hx) stack c)
      (h x store s a f (slot_fits frame slot x s a.small hx)))

  -- instructions on the values of two slots
  pub two_acts : (xs : List Instr) (slot i : ℕ) (act : ℕ → ℕ → Run ℕ) → length xs ≤ 90
      → slot + 1 < slots → HasAt code labels i (on_two slot xs)
      → ((x y : ℕ) (store : Store) (s : State) → Agrees store s → Framed frame slots store
      → x < 2 ^ 32 → y < 2 ^ 32
      → Decided (act x y) store
      (Computes s.memory (i + length (take_slot 5 slot ++ take_slot 6 (slot + 1))) xs
      (with_env 6 y (with_env 5 x (register s.registers)))))
      → Acts slot i (i + width_of (on_two slot xs)) act
  two_acts xs slot i act few lt has h x y store n n1 s en pc a f hx hy =
      let env0 = register s.registers in
      let env2 = with_env 6 y (with_env 5 x env0) in
      let t5 = take_slot 5 slot in
      let t6 = take_slot 6 (slot + 1) in
      let takes = t5 ++ t6 in
      let stack = a.stack ∙ f.is in
      let l5 = slot_length 5 slot in
      let l6 = slot_length 6 (slot + 1) in
      let same : (t5 ++ t6) ++ xs ≡ t5 ++ (t6 ++ xs) = append_assoc t5 t6 xs in
      subst (λ z. Follows code input for_expression store slot slots n
      (λ v. i + width_of (keep z 5 slot)) s (InSlot frame slot) (act x y store n1)) same
      (decided_follows (takes ++ xs) slot i n n1 (act x y) s store en
      (omega (arith, l5, l6, length-append t5 t6, length-append takes xs)) a f (omega arith) pc
      (subst (λ z. HasAt code labels i (keep z 5 slot)) (sym same) has)
      (decided_map (act x y) store (Computes s.memory (i + length takes) xs env2)
      (Works s.memory i (takes ++ xs) env0 frame)
      (λ v c. works_after s.memory i takes xs env0 env2 frame v
      (slots_taken 5 6 slot i x y s store (omega arith) (omega arith) (omega arith)
      (omega arith) a f lt hx hy) stack c)
      (h x y store s a f (slot_fits frame slot x s a.small hx)
      (slot_fits frame (slot + 1) y s a.small hy))))
