-- The calls of the machine: `getchar` and `putchar`.
use Rattle.std.proofs.Common.{◌≡◌, ℕ, zero, suc, ◌+◌, ◌%◌, ◌^◌, ◌<◌, ◌≤◌, List, [], ◌∷◌, ◌++◌, length, refl, sym, ap, ◌∙◌, subst, arith, Option, Some, None, All, length-append}
use Rattle.std.specs.Prelude.{pos, slice_get}
use Rattle.bop_bits.specs.declared.map.TheConstants.{CODE_WORDS}
use Rattle.bop_bits.specs.MemoryNumbers.{byte_at}
use Rattle.rv_code.specs.declared.instr.Instr.{Instr}
use Rattle.rv_code.specs.declared.instr.Instr.TheVariants as instr
use Rattle.rv_code.specs.Word.{sum}
use Rattle.rv_code.specs.Effects.{call_of}
use Rattle.rv_code.specs.State.{State, Running, register, with_register}
use Rattle.rv_code.specs.Step.{address_of, calls, gets, puts}
use Rattle.rv_code.specs.SequentialRun.{run}
use Rattle.c_tree.specs.declared.limits.TheConstants.{END_OF_FILE}
use Rattle.c_semantics.specs.Run.{Store, Goes}
use Rattle.c_semantics.specs.Eval.{getchar, putchar, taken}
use Rattle.low_labels.specs.Operation.{Operation, width_of}
use Rattle.low_labels.specs.Operation as op
use Rattle.low_labels.specs.Placed.{HasAt, HasWord}
use Rattle.low_expr.specs.CodePieces.{all_do, take_slot, keep}
use Rattle.low_expr.specs.ExprCode.{machine_call}
use Rattle.low_expr.specs.Agreement.{Agrees, Framed, InSlot}
use Rattle.low_expr.specs.Following.{Comes, Follows, for_expression}
use Rattle.low_expr.proofs.PlainCode.{Env, with_env, one, then_comes, with_is, length-with_register, is_place_of, above_apart}
use Rattle.low_expr.proofs.CodePiecesLemmas.{Takes, takes_append}
use Rattle.low_expr.proofs.Composing.{framed_then}
use Rattle.low_expr.proofs.KeptValues.{all_width, width-append, reached, next_place, then_kept}
use Rattle.low_expr.proofs.CodeLengths.{slot_length}
use Rattle.low_expr.proofs.ValueNodes.{slot_taken}
use Rattle.low_expr.proofs.ArgumentNodes.{KeptIn, CallAct}

pub all_do_append : (xs ys : List Instr) (zs : List Operation)
    → all_do (xs ++ ys) ++ zs ≡ all_do xs ++ (all_do ys ++ zs)
all_do_append [] ys zs = refl
all_do_append (x ∷ xs) ys zs = ap (λ l. op.Do x ∷ l) (all_do_append xs ys zs)

-- a state after a call of the machine that gives a value
unfoldable called_state : State → (output : List ℕ) (cursor v : ℕ) → State
called_state s output cursor v = record s {
  output = output;
  cursor = cursor;
  registers = with_register s.registers 10 v;
  pc = sum s.pc 4;
  count = s.count + 1;
}

called_agrees : (store : Store) (s : State) (output : List ℕ) (cursor v : ℕ) → Agrees store s
    → Agrees (record store { output = output; cursor = cursor }) (called_state s output cursor v)
unfolding called_state
called_agrees store s output cursor v a =
    let w = with_is s.registers 10 v (omega arith) (omega (arith, a.registers)) in
    record {
      bytes = a.bytes;
      small = a.small;
      stack = ap (λ e. e 2) w ∙ a.stack;
      cursor = refl;
      output = refl;
      memory = a.memory;
      registers = length-with_register s.registers 10 v (omega arith) ∙ a.registers;
      cells = a.cells;
    }

called_fields : (s : State) (output : List ℕ) (cursor v : ℕ) → length s.registers ≡ 32
    → ((called_state s output cursor v).memory ≡ s.memory)
    × ((called_state s output cursor v).pc ≡ sum s.pc 4)
    × (register (called_state s output cursor v).registers 10 ≡ v)
unfolding called_state
called_fields s output cursor v len =
    (refl, refl, ap (λ e. e 10) (with_is s.registers 10 v (omega arith) (omega arith)))

-- bytes of the input are bytes
pub byte_of_input : (input : List ℕ) (i b : ℕ) → All (λ x. x < 2 ^ 8) input
    → slice_get input i ≡ Some b → b < 2 ^ 8
byte_of_input [] i b all e = cc
byte_of_input (x ∷ xs) zero b all e = subst (λ z. z < 2 ^ 8) (same x b e) (all zero 0 (omega arith))
  where
    same : (x b : ℕ) → Some x ≡ Some b → x ≡ b
    same x b e = cc
byte_of_input (x ∷ xs) (suc i) b all e =
    byte_of_input xs i b (λ k d lt. all (suc k) d (omega arith)) e

module _ (code input : List ℕ) (short : length code ≤ CODE_WORDS) (labels : ℕ → ℕ)
    (frame slots : ℕ) where
  ecall_is : (i number : ℕ) (s : State) → s.pc ≡ address_of i → HasWord code labels i instr.Ecall
      → register s.registers 17 ≡ number
      → run code input 1 (Running s) ≡ calls input s (call_of number)
  ecall_is i number s pc has is =
      one code input labels s i instr.Ecall pc has ∙ ap (λ k. calls input s (call_of k)) is

  -- a call of the machine, and then its value goes into a slot
  machine_follows : (xs : List Instr) (number slot i v n n1 cursor : ℕ) (output : List ℕ)
      (env : Env)
      (s : State) (store : Store) → n ≡ suc n1 → length xs ≤ 90 → Agrees store s
      → Framed frame slots store → slot < slots → s.pc ≡ address_of i
      → HasAt code labels i (all_do xs ++ (op.Do instr.Ecall ∷ keep [] 10 slot))
      → Takes s.memory i xs (register s.registers) env → env 2 ≡ frame → env 17 ≡ number
      → ((s1 : State) → register s1.registers ≡ env → s1.cursor ≡ store.cursor
      → s1.output ≡ store.output
      → calls input s1 (call_of number) ≡ Running (called_state s1 output cursor v))
      → v < 2 ^ 32
      → Follows code input for_expression store slot slots n
      (λ w. i + width_of (all_do xs ++ (op.Do instr.Ecall ∷ keep [] 10 slot))) s (KeptIn frame slot)
      (Goes (Some v) (record store { output = output; cursor = cursor }) n1)
  machine_follows xs number slot i v n n1 cursor output env s store en few a f lt pc has t sp is
      gives fits =
      let last = op.Do instr.Ecall ∷ keep [] 10 slot in
      let r = reached code input short labels i xs last env store s a pc has t (sp ∙ sym f.is) in
      let s1 = r.state in
      let w1 = r.went in
      let a1 = r.agrees in
      let k = i + length xs in
      let back = r.next in
      let s2 = called_state s1 output cursor v in
      let c2 : Comes code input 1 s1 s2 =
      record {
        is = ecall_is k number s1 w1.pc back.0
            (ap (λ e. e 17) w1.is ∙ is) ∙ gives s1 w1.is a1.cursor a1.output;
      } in
      let store2 : Store = record store { output = output; cursor = cursor } in
      let a2 = called_agrees store s1 output cursor v a1 in
      let fields = called_fields s1 output cursor v w1.registers in
      let f2 : Framed frame slots store2 = framed_then frame slots store store2 refl refl f in
      let place = is_place_of code k _ back.0.1 in
      let next : sum s1.pc 4 ≡ address_of (k + 1) = next_place k s1.pc (omega (arith, place, short)) w1.pc in
      let pc2 : s2.pc ≡ address_of (k + 1) = fields.1 ∙ next in
      let mem2 : s2.memory ≡ s.memory = fields.0 ∙ w1.memory in
      let ends_at : k + 1 + width_of (keep [] 10 slot) ≡ i + width_of (all_do xs ++ last) = omega (arith, width-append (all_do xs) last, all_width xs) in
      then_kept code input short labels frame slots (Some v) (KeptIn frame slot) 10 slot
      (length xs + 1) (k + 1) (i + width_of (all_do xs ++ last)) v n n1 s s2 store store2 en
      (omega (arith, few)) ends_at
      (then_comes code input (length xs) 1 s s1 s2 w1.comes c2) pc2 a2 refl refl
      (record { by = λ b ge dead off. ap (λ l. byte_at l b) mem2 }) f2 lt back.1 fields.2
      (above_apart 10 7 (omega arith)) (λ s3 h. h fits)

  -- `putchar`

  put_acts : (slot i x n n1 : ℕ) (s : State) (store : Store) → n ≡ suc n1 → slot < slots
      → HasAt code labels i (all_do (take_slot 10 slot) ++ (machine_call 2 ++ keep [] 10 slot))
      → s.pc ≡ address_of i → Agrees store s → Framed frame slots store → InSlot frame slot x s
      → Follows code input for_expression store slot slots n
      (λ w. i + width_of (all_do (take_slot 10 slot) ++ (machine_call 2 ++ keep [] 10 slot))) s
      (KeptIn frame slot)
      (putchar (x ∷ []) store n1)
  unfolding called_state
  put_acts slot i x n n1 s store en lt has pc a f hx =
      let t10 = take_slot 10 slot in
      let number : List Instr = instr.Addi 17 0 (pos 2) ∷ [] in
      let last = op.Do instr.Ecall ∷ keep [] 10 slot in
      let same = all_do_append t10 number last in
      let env0 = register s.registers in
      let env1 = with_env 10 x env0 in
      let env2 = with_env 17 2 env1 in
      let stack = a.stack ∙ f.is in
      let l = slot_length 10 slot in
      let few : length (t10 ++ number) ≤ 90 = omega (arith, l, length-append t10 number) in
      let takes = takes_append s.memory t10 number i env0 env1 env2 (slot_taken code input short labels frame slots 10 slot i x s store env0 f lt (omega arith) (omega arith) stack hx) (((omega arith, omega arith), tt), refl) in
      subst (λ z. Follows code input for_expression store slot slots n (λ w. i + width_of z) s
      (KeptIn frame slot) (putchar (x ∷ []) store n1)) same
      (machine_follows (t10 ++ number) 2 slot i (x % 256) n n1 store.cursor
      (store.output ++ (x % 256) ∷ []) env2 s store en few a f lt pc
      (subst (λ z. HasAt code labels i z) (sym same) has) takes stack refl
      (λ s1 e cursor output.
      ap (λ r. puts s1 (r % 256)) (ap (λ q. q 10) e)
      ∙ ap (λ o. Running (called_state s1 (o ++ (x % 256) ∷ []) s1.cursor (x % 256))) output
      ∙ ap (λ c. Running (called_state s1 (store.output ++ (x % 256) ∷ []) c (x % 256))) cursor)
      (omega arith))

  pub putchar_acts : (slot m i : ℕ) → slot < slots
      → HasAt code labels i (all_do (take_slot 10 slot) ++ (machine_call 2 ++ keep [] 10 slot))
      → CallAct code input short labels frame slots slot m i
      (i + width_of (all_do (take_slot 10 slot) ++ (machine_call 2 ++ keep [] 10 slot))) 1
      putchar
  putchar_acts slot m i lt has [] store n n1 s len en le pc a f is = absurd (omega arith)
  putchar_acts slot m i lt has (x ∷ []) store n n1 s len en le pc a f is =
      put_acts slot i x n n1 s store en lt has pc a f is.0
  putchar_acts slot m i lt has (x ∷ y ∷ vs) store n n1 s len en le pc a f is = absurd (omega arith)

  -- `getchar`
  get_acts : (slot i n n1 : ℕ) (s : State) (store : Store) → All (λ b. b < 2 ^ 8) input → n ≡ suc n1
      → slot < slots → HasAt code labels i (machine_call 1 ++ keep [] 10 slot)
      → s.pc ≡ address_of i → Agrees store s → Framed frame slots store
      → (next : Option ℕ) → slice_get input store.cursor ≡ next
      → Follows code input for_expression store slot slots n
      (λ w. i + width_of (machine_call 1 ++ keep [] 10 slot)) s (KeptIn frame slot)
      (taken next store n1)
  unfolding called_state
  get_acts slot i n n1 s store bytes en lt has pc a f None e =
      machine_follows (instr.Addi 17 0 (pos 1) ∷ []) 1 slot i END_OF_FILE n n1 store.cursor
      store.output (with_env 17 1 (register s.registers)) s store en (omega arith) a f lt pc has
      (((omega arith, omega arith), tt), refl) (a.stack ∙ f.is) refl
      (λ s1 q cursor output.
      ap (gets s1) (ap (slice_get input) cursor ∙ e)
      ∙ ap (λ o. Running (called_state s1 o s1.cursor END_OF_FILE)) output
      ∙ ap (λ c. Running (called_state s1 store.output c END_OF_FILE)) cursor)
      (omega arith)
  get_acts slot i n n1 s store bytes en lt has pc a f (Some byte) e =
      let small = byte_of_input input store.cursor byte bytes e in
      machine_follows (instr.Addi 17 0 (pos 1) ∷ []) 1 slot i byte n n1
      (store.cursor + 1) store.output (with_env 17 1 (register s.registers)) s store en
      (omega arith) a f lt pc has
      (((omega arith, omega arith), tt), refl) (a.stack ∙ f.is) refl
      (λ s1 q cursor output.
      ap (gets s1) (ap (slice_get input) cursor ∙ e)
      ∙ ap (λ o. Running (called_state s1 o (s1.cursor + 1) byte)) output
      ∙ ap (λ c. Running (called_state s1 store.output (c + 1) byte)) cursor)
      (omega arith)

  pub getchar_acts : (slot m i : ℕ) → All (λ b. b < 2 ^ 8) input → slot < slots
      → HasAt code labels i (machine_call 1 ++ keep [] 10 slot)
      → CallAct code input short labels frame slots slot m i
      (i + width_of (machine_call 1 ++ keep [] 10 slot)) 0 (λ vs. getchar input)
  getchar_acts slot m i bytes lt has vs store n n1 s len en le pc a f is =
      get_acts slot i n n1 s store bytes en lt has pc a f (slice_get input store.cursor) refl
