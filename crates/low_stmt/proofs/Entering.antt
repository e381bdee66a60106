-- A function is entered: the test of the stack, the frame, and the return address.
use Rattle.std.proofs.Common.{◌≡◌, ◌≢◌, ℕ, ◌+◌, ◌-◌, ◌*◌, ◌^◌, ◌<◌, ◌≤◌, ◌⊎◌, List, [], ◌∷◌, ◌++◌, length, refl, ap, ◌∙◌, subst, arith, ⊎_elim, inl, inr, length-append}
use Rattle.std.specs.Prelude.{true, false, not, nat_lt, pos}
use Rattle.std.proofs.lemmas.Bool.{cases_lt}
use Rattle.bop_bits.specs.declared.map.TheConstants.{CODE_WORDS, STACK_FROM, STACK_TO}
use Rattle.rv_code.specs.declared.effect.Effect.TheVariants.{Stores}
use Rattle.rv_code.specs.declared.instr.Instr.{Instr}
use Rattle.rv_code.specs.declared.instr.Instr.TheVariants as instr
use Rattle.rv_code.specs.declared.stop.Stop.TheVariants as stop
use Rattle.rv_code.specs.Effects.{call_of}
use Rattle.rv_code.specs.Word.{sum, difference, word}
use Rattle.rv_code.specs.State.{State, Running, Stopped, register}
use Rattle.rv_code.specs.Step.{address_of, calls}
use Rattle.rv_code.specs.SequentialRun.{run}
use Rattle.c_semantics.specs.Run.{Store}
use Rattle.low_labels.specs.Operation.{Operation, width_of}
use Rattle.low_labels.specs.Operation as op
use Rattle.low_labels.specs.declared.test.Test.TheVariants as test
use Rattle.low_labels.specs.Placed.{HasAt}
use Rattle.low_expr.specs.CodePieces.{is_near, all_do, constant, frame_address}
use Rattle.low_expr.specs.ExprCode.{machine_call}
use Rattle.low_expr.specs.Agreement.{Agrees, Framed, Keeps, Lives, InSlot}
use Rattle.low_expr.specs.Following.{Comes}
use Rattle.low_expr.proofs.MemoryNumbersLemmas.{length-with_number, other_byte, AreBytes-with_number, word-with_word}
use Rattle.low_expr.proofs.StoredBytes.{held_inside}
use Rattle.low_expr.proofs.PlainCode.{Env, with_env, effect_in, Went, went, one, then_comes, then_run_is, is_place_of}
use Rattle.low_expr.proofs.CodePiecesLemmas.{Takes, takes_append, with_other, constant_takes, frame_takes, frame_length}
use Rattle.low_expr.proofs.CodeLengths.{number_length}
use Rattle.low_expr.proofs.KeptValues.{all_width, width-append, has_front, has_back, has_after, Reached, reached, stored_state, comes_stored, next_place}
use Rattle.low_expr.proofs.BranchLemmas.{moved, moved_same, agrees_moved, branch_taken, branch_passed}
use Rattle.low_stmt.specs.FunCode.{last_word, enter_code}
use Rattle.low_stmt.proofs.StackChanges.{stack_agrees}
use Rattle.low_stmt.proofs.CallFrames.{Sized, deeper, deeper_framed}

-- a function has been entered: the return address is in the frame's last word, and the registers of
-- arguments are as they were
pub record Entered (code input : List ℕ) (most size back j end : ℕ) (store : Store) (s s' : State) :
    Type 0 where
  pub few : j ≤ most
  pub some : 0 < j
  pub comes : Comes code input j s s'
  pub pc : s'.pc ≡ address_of end
  pub agrees : Agrees (deeper size store) s'
  pub keeps : Keeps (deeper size store) (last_word size) (last_word size + 1) s.memory s'.memory
  pub link : InSlot (store.sp - size) (last_word size) (address_of back) s'
  pub others : (q : ℕ) → 10 ≤ q → register s'.registers q ≡ register s.registers q

-- a word of the frame in which nothing lives
module _ (frame top : ℕ) (store : Store) (f : Framed frame (top + 1) store) where
  off_word : (at : ℕ) → Lives store at → (at < frame + 4 * top) ⊎ (frame + 4 * top + 4 ≤ at)
  off_word at lives =
      ⊎_elim (λ h. inl h)
      (λ ge.
      ⊎_elim (λ h. absurd (f.apart at (omega (arith, f.above)) (omega arith) lives)) (λ h. inr h)
      (cases_lt at (frame + 4 * top + 4))) (cases_lt at (frame + 4 * top))

  saved_agrees : (s : State) (v : ℕ) → Agrees store s
      → Agrees store (stored_state s (frame + 4 * top) 4 v)
  unfolding stored_state
  saved_agrees s v a = record {
    bytes = λ b w lives h.
        other_byte s.memory (frame + 4 * top) 4 v b (omega (arith, f.above))
        (held_inside store.live b 1 f.inside lives).0 (off_word b lives)
        ∙ a.bytes b w lives h;
    small = AreBytes-with_number s.memory (frame + 4 * top) 4 v a.small;
    stack = a.stack;
    cursor = a.cursor;
    output = a.output;
    memory = length-with_number s.memory (frame + 4 * top) 4 v ∙ a.memory;
    registers = a.registers;
    cells = a.cells;
  }

  saved_keeps : (s : State) (v : ℕ)
      → Keeps store top (top + 1) s.memory (stored_state s (frame + 4 * top) 4 v).memory
  unfolding stored_state
  saved_keeps s v = record {
    by = λ b ge dead off.
        other_byte s.memory (frame + 4 * top) 4 v b (omega (arith, f.above))
        (omega (arith, f.above, f.is))
        (⊎_elim (λ h. inl (omega (arith, f.is))) (λ h. inr (omega (arith, f.is))) off);
  }

  saved_word : (s : State) (v : ℕ) → Agrees store s → v < 2 ^ 32
      → InSlot frame top v (stored_state s (frame + 4 * top) 4 v)
  unfolding stored_state
  saved_word s v a fits = word-with_word s.memory (frame + 4 * top) v (omega (arith, f.above)) (omega (arith, a.memory, f.within)) fits

saved_fields : (s : State) (at v : ℕ)
    → ((stored_state s at 4 v).pc ≡ sum s.pc 4)
    × ((stored_state s at 4 v).registers ≡ s.registers)
unfolding stored_state
saved_fields s at v = (refl, refl)

module _ (code input : List ℕ) (short : length code ≤ CODE_WORDS) (labels : ℕ → ℕ)
    (size slots : ℕ) (sized : Sized size slots) (small : size ≤ 2 ^ 16) (label : ℕ) where
  abbrev limit : List Instr
  limit = constant 5 (STACK_FROM + size)

  abbrev last : List Operation
  last = all_do (constant 5 size ++ instr.Sub 2 2 5 ∷ frame_address 7 (4 * last_word size))
      ++ op.Do (instr.Sw 7 1 (pos 0)) ∷ []

  abbrev full : List Operation
  full = machine_call 7 ++ (op.Mark label ∷ last)

  abbrev tested : List Operation
  tested = op.Branch test.GeU 2 5 label ∷ full

  -- the stack pointer, the limit, and what is there then
  limit_takes : (m : List ℕ) (i : ℕ) (env : Env) → env 0 ≡ 0
      → Takes m i limit env (with_env 5 (STACK_FROM + size) env)
  limit_takes m i env zero_is = constant_takes m i 5 (STACK_FROM + size) env zero_is (omega arith) (omega arith) (omega arith)

  abbrev AtTest : (i : ℕ) → Store → State → Type 0
  AtTest i store s =
      Reached code input labels i limit tested
      (with_env 5 (STACK_FROM + size) (register s.registers)) store s

  at_test : (i : ℕ) (store : Store) (s : State) → s.pc ≡ address_of i → Agrees store s
      → HasAt code labels i (enter_code size label) → AtTest i store s
  at_test i store s pc a has =
      reached code input short labels i limit tested
      (with_env 5 (STACK_FROM + size) (register s.registers)) store s a pc has
      (limit_takes s.memory i (register s.registers) refl) a.stack

  -- the test compares the stack pointer with the limit
  compared : (i : ℕ) (store : Store) (s : State) → Agrees store s → (r : AtTest i store s)
      → not (nat_lt (register r.state.registers 2) (register r.state.registers 5))
      ≡ not (nat_lt store.sp (STACK_FROM + size))
  compared i store s a r =
      let w = r.went in
      ap (λ e. not (nat_lt (e 2) (e 5))) w.is
      ∙ ap (λ q. not (nat_lt q (STACK_FROM + size))) a.stack

  -- where the stack has no room, the machine stops for that reason
  pub stopped_full : (i : ℕ) (store : Store) (s : State)
      → nat_lt store.sp (STACK_FROM + size) ≡ true
      → s.pc ≡ address_of i → Agrees store s → HasAt code labels i (enter_code size label)
      → (j : ℕ) × (s' : State) × (j ≤ 12) × (run code input j (Running s) ≡ Stopped s' stop.StackFull)
      × (s'.output ≡ store.output)
  stopped_full i store s lt pc a has =
      let r = at_test i store s pc a has in
      let s1 = r.state in
      let w = r.went in
      let k = i + length limit in
      let next = r.next in
      let unmet = compared i store s a r ∙ ap not lt in
      let s2 = moved s1 (address_of (k + 2)) 1 in
      let c2 = branch_passed code input short labels k test.GeU 2 5 label s1 w.pc next.0 unmet in
      let same2 = moved_same s1 (address_of (k + 2)) 1 in
      let a2 = agrees_moved store s1 (address_of (k + 2)) 1 r.agrees in
      let move : List Instr = instr.Addi 17 0 (pos 7) ∷ [] in
      let rest = op.Do instr.Ecall ∷ (op.Mark label ∷ last) in
      let r3 = reached code input short labels (k + 2) move rest (with_env 17 7 (register s2.registers)) store s2 a2 same2.1 next.1 (((omega arith, omega arith), tt), refl) a2.stack in
      let s3 = r3.state in
      let w3 = r3.went in
      let next3 = r3.next in
      let c3 = then_comes code input (length limit + 1) 1 s s2 s3 (then_comes code input (length limit) 1 s s1 s2 w.comes c2) w3.comes in
      let seven : register s3.registers 17 ≡ 7 = ap (λ e. e 17) w3.is in
      let l = number_length 5 (STACK_FROM + size) in (
        length limit + 1 + 1 + 1,
        record s3 { count = s3.count + 1 },
        omega (arith, l),
        then_run_is code input (length limit + 1 + 1) 1 s s3
            (Stopped (record s3 { count = s3.count + 1 }) stop.StackFull) c3
            (one code input labels s3 (k + 2 + 1) instr.Ecall w3.pc next3.0
            ∙ ap (λ q. calls input s3 (call_of q)) seven),
        r3.agrees.output,
      )

  abbrev find : List Instr
  find = frame_address 7 (4 * last_word size)

  -- the registers once the frame is made
  abbrev made : (sp : ℕ) → Env → Env
  made sp env =
      with_env 7 (sp - size + 4 * last_word size) (with_env 2 (sp - size) (with_env 5 size env))

  made_takes : (m : List ℕ) (i sp : ℕ) (env : Env) → env 0 ≡ 0 → env 2 ≡ sp → size ≤ sp
      → sp ≤ STACK_TO → Takes m i (constant 5 size ++ instr.Sub 2 2 5 ∷ find) env (made sp env)
  made_takes m i sp env none is le high =
      let c = constant 5 size in
      let env1 = with_env 5 size env in
      let env2 = with_env 2 (sp - size) env1 in
      let less : difference (env1 2) (env1 5) ≡ sp - size = ap (λ q. difference q size) is ∙ omega arith in
      let sub : Takes m (i + length c) (instr.Sub 2 2 5 ∷ []) env1 env2 = (((omega arith, omega arith), tt), ap (λ q. with_env 2 q env1) less) in
      let l = sized.last in
      takes_append m c (instr.Sub 2 2 5 ∷ find) i env env1 (made sp env)
      (constant_takes m i 5 size env none (omega arith) (omega arith) (omega arith))
      (takes_append m (instr.Sub 2 2 5 ∷ []) find (i + length c) env1 env2 (made sp env) sub
      (frame_takes m (i + length c + 1) 7 (4 * last_word size) (sp - size) env2 refl (omega arith)
      (omega arith) (omega arith) (omega arith)))

  frame_made : (i back : ℕ) (store : Store) (s : State) → Framed store.sp 0 store
      → STACK_FROM + size ≤ store.sp → back < CODE_WORDS → s.pc ≡ address_of i
      → register s.registers 1 ≡ address_of back → Agrees store s → HasAt code labels i last
      → (j : ℕ) × (s' : State) × Entered code input 8 size back j (i + width_of last) store s s'
  frame_made i back store s f room near pc link a has =
      let top = last_word size in
      let frame = store.sp - size in
      let at = frame + 4 * top in
      let xs : List Instr = constant 5 size ++ instr.Sub 2 2 5 ∷ find in
      let save : List Operation = op.Do (instr.Sw 7 1 (pos 0)) ∷ [] in
      let env0 = register s.registers in
      let env3 = made store.sp env0 in
      let t = made_takes s.memory i store.sp env0 refl a.stack (omega arith) (omega (arith, f.within)) in
      let g = went code input short labels xs i env0 s refl pc a.registers (has_front code labels i (all_do xs) save has) t.0 in
      let w = subst (λ e. Went code input (length xs) i e s g.0) t.1 g.1 in
      let s1 = g.0 in
      let k = i + length xs in
      let back1 = has_after code labels i xs save has in
      let a1 = stack_agrees code input frame (length xs) i env3 store s s1 a w refl in
      let deep = deeper_framed size slots sized store f room (top + 1) (omega arith) in
      let v = address_of back in
      let within = f.within in
      let l = sized.last in
      let to : sum (register s1.registers 7) (word (pos 0)) ≡ at = ap (λ e. sum (e 7) (word (pos 0))) w.is ∙ omega arith in
      let is : register s1.registers 1 ≡ v = ap (λ e. e 1) w.is ∙ link in
      let what : effect_in (instr.Sw 7 1 (pos 0)) (register s1.registers) s1.pc ≡ Stores at 4 v = ap (λ q. Stores q 4 (register s1.registers 1)) to ∙ ap (Stores at 4) is in
      let s2 = stored_state s1 at 4 v in
      let c2 = comes_stored code input labels s1 k (instr.Sw 7 1 (pos 0)) at 4 v w.pc back1.0 what (omega (arith, deep.aligned)) (omega (arith, deep.above)) (omega arith) in
      let fields = saved_fields s1 at v in
      let place = is_place_of code k _ back1.0.1 in
      let ends_at : k + 1 ≡ i + width_of last = omega (arith, width-append (all_do xs) save, all_width xs) in
      let few : length xs ≤ 6 = omega (arith, length-append (constant 5 size) (instr.Sub 2 2 5 ∷ find), number_length 5 size, frame_length (is_near (4 * top)) 7 (4 * top)) in (
        length xs + 1,
        s2,
        record {
          few = omega (arith, few);
          some = omega arith;
          comes = then_comes code input (length xs) 1 s s1 s2 w.comes c2;
          pc = fields.0 ∙ next_place k s1.pc (omega (arith, place, short)) w.pc ∙ ap address_of ends_at;
          agrees = saved_agrees frame top (deeper size store) deep s1 v a1;
          keeps = subst (λ q. Keeps (deeper size store) top (top + 1) q s2.memory) w.memory
              (saved_keeps frame top (deeper size store) deep s1 v);
          link = saved_word frame top (deeper size store) deep s1 v a1 (omega arith);
          others = λ q ge. ap (λ e. register e q) fields.1 ∙ ap (λ e. e q) w.is
              ∙ with_other 7 at q (with_env 2 frame (with_env 5 size env0)) (omega arith)
              ∙ with_other 2 frame q (with_env 5 size env0) (omega arith)
              ∙ with_other 5 size q env0 (omega arith);
        },
      )

  -- where the test finds room, the code goes on
  pub record Passed_on (i : ℕ) (store : Store) (s : State) : Type 0 where
    pub state : State
    pub comes : Comes code input (length limit + 2) s state
    pub pc : state.pc ≡ address_of (i + length limit + 4)
    pub agrees : Agrees store state
    pub memory : state.memory ≡ s.memory
    pub same : (q : ℕ) → q ≢ 5 → register state.registers q ≡ register s.registers q
    pub next : HasAt code labels (i + length limit + 4) last

  room_found : (i : ℕ) (store : Store) (s : State) → nat_lt store.sp (STACK_FROM + size) ≡ false
      → s.pc ≡ address_of i → Agrees store s → HasAt code labels i (enter_code size label)
      → Passed_on i store s
  room_found i store s lt pc a has =
      let r = at_test i store s pc a has in
      let s1 = r.state in
      let w = r.went in
      let k = i + length limit in
      let next = r.next in
      let met = compared i store s a r ∙ ap not lt in
      let there = address_of (labels label) in
      let sb = moved s1 (address_of (k + 1)) 1 in
      let s2 = moved sb there 1 in
      let c2 = branch_taken code input short labels k test.GeU 2 5 label s1 w.pc next.0 met in
      let sameb = moved_same s1 (address_of (k + 1)) 1 in
      let same2 = moved_same sb there 1 in
      let tail = has_back code labels (k + 2) (machine_call 7) (op.Mark label ∷ last) next.1 in
      let e3 : k + 2 + 2 ≡ k + 4 = omega arith in
      let e4 : k + 2 + 2 + 0 ≡ k + 4 = omega arith in
      record {
        state = s2;
        comes = then_comes code input (length limit) 2 s s1 s2 w.comes c2;
        pc = same2.1 ∙ ap address_of (tail.0 ∙ e3);
        agrees = agrees_moved store sb there 1 (agrees_moved store s1 (address_of (k + 1)) 1 r.agrees);
        memory = same2.0 ∙ sameb.0 ∙ w.memory;
        same = λ q ne. ap (λ l. register l q) (same2.2 ∙ sameb.2) ∙ ap (λ e. e q) w.is
            ∙ with_other 5 (STACK_FROM + size) q (register s.registers) ne;
        next = subst (λ q. HasAt code labels q last) e4 tail.1;
      }

  -- where it has room, the frame is made
  pub entered : (i back : ℕ) (store : Store) (s : State) → Framed store.sp 0 store
      → STACK_FROM + size ≤ store.sp → nat_lt store.sp (STACK_FROM + size) ≡ false → back < CODE_WORDS
      → s.pc ≡ address_of i → register s.registers 1 ≡ address_of back → Agrees store s
      → HasAt code labels i (enter_code size label)
      → (j : ℕ) × (s' : State)
      × Entered code input 12 size back j (i + width_of (enter_code size label)) store s s'
  entered i back store s f room lt near pc link a has =
      let p = room_found i store s lt pc a has in
      let i3 = i + length limit + 4 in
      let g = frame_made i3 back store p.state f room near p.pc (p.same 1 (omega arith) ∙ link) p.agrees p.next in
      let d = g.2 in
      let ends_at : i3 + width_of last ≡ i + width_of (enter_code size label) = omega (arith, width-append (all_do limit) tested, all_width limit, width-append (machine_call 7) (op.Mark label ∷ last)) in
      let few = number_length 5 (STACK_FROM + size) in (
        length limit + 2 + g.0,
        g.1,
        record {
          few = omega (arith, d.few, few);
          some = omega arith;
          comes = then_comes code input (length limit + 2) g.0 s p.state g.1 p.comes d.comes;
          pc = d.pc ∙ ap address_of ends_at;
          agrees = d.agrees;
          keeps = subst (λ q. Keeps (deeper size store) (last_word size) (last_word size + 1) q g.1.memory)
              p.memory d.keeps;
          link = d.link;
          others = λ q ge. d.others q ge ∙ p.same q (omega arith);
        },
      )
