-- The code of a function follows its calls.
use Rattle.std.proofs.Common.{◌≡◌, ℕ, ◌+◌, ◌-◌, ◌*◌, ◌^◌, ◌<◌, ◌≤◌, List, ◌∷◌, ◌++◌, length, refl, ap, ◌∙◌, subst, arith, Option, Some, None, inr}
use Rattle.std.specs.Prelude.{Bool, true, false, bytes_eq, nat_lt, if◌then◌else◌}
use Rattle.std.proofs.lemmas.Bool.{ltb-false}
use Rattle.bop_bits.specs.declared.map.TheConstants.{CODE_WORDS, STACK_FROM}
use Rattle.bop_bits.specs.MemoryNumbers.{byte_at, number_at}
use Rattle.rv_code.specs.declared.stop.Stop.TheVariants as stop
use Rattle.rv_code.specs.State.{State, Stopped, register}
use Rattle.rv_code.specs.Step.{address_of}
use Rattle.c_tree.specs.Ty.{Ty}
use Rattle.c_tree.specs.Stmt.{Stmts}
use Rattle.c_tree.specs.Fun.{Fun}
use Rattle.c_tree.specs.Item.{Item}
use Rattle.c_tree.specs.Accepted.{result_shape}
use Rattle.c_layout.specs.Frames.{frame_of}
use Rattle.c_semantics.specs.declared.flow.Flow.{Flow}
use Rattle.c_semantics.specs.declared.flow.Flow.TheVariants.{Normal, AtBreak, AtContinue, AtReturn}
use Rattle.c_semantics.specs.declared.local.Local.{Local}
use Rattle.c_semantics.specs.Run.{Store, Run, Ended, Goes, StackFull, More, Undef, then_run, pure, ◌>>=◌, ◌>>◌, now, change, stack_full}
use Rattle.c_semantics.specs.Names.{Definition}
use Rattle.c_semantics.specs.Eval.{Calls}
use Rattle.c_semantics.specs.Exec.{block_locals, exec_all}
use Rattle.c_semantics.specs.Meaning.{parameter_locals, pass, main_name, value_of_flow, body_run, whole_run}
use Rattle.low_labels.specs.Operation.{Operation, width_of}
use Rattle.low_labels.specs.Operation as op
use Rattle.low_labels.specs.Placed.{HasAt}
use Rattle.low_expr.specs.CodePieces.{all_do}
use Rattle.low_expr.specs.Agreement.{Agrees, Framed, Keeps, InSlot, Passed}
use Rattle.low_expr.specs.Following.{Comes, Follows, for_function}
use Rattle.low_expr.specs.ExprSimulation.{HasFunctions}
use Rattle.low_expr.proofs.MemoryNumbersLemmas.{same_number}
use Rattle.low_expr.proofs.PlainCode.{Env, with_env, then_comes, then_run_is, stays}
use Rattle.low_expr.proofs.CodePiecesLemmas.{Takes, takes_none, constant_takes}
use Rattle.low_expr.proofs.CodeLengths.{number_length}
use Rattle.low_expr.proofs.KeptValues.{has_front, has_back, has_after, reached}
use Rattle.low_expr.proofs.Composing.{framed_then}
use Rattle.low_stmt.specs.StmtCode.{Targets, stmts_code}
use Rattle.low_stmt.specs.FunCode.{Body, body_of, last_word, enter_code, pass_code, targets_from, end_code, leave_code, fun_code}
use Rattle.low_stmt.specs.FunReadiness.{IsReadyFun}
use Rattle.low_stmt.specs.FunSimulation.{CallLeft, IsSimulatedFun}
use Rattle.low_stmt.specs.StmtSimulation.{FlowLeft, flow_end, for_statement}
use Rattle.low_stmt.specs.TextCode.{names_in}
use Rattle.low_stmt.proofs.StatementParts.{with_credit}
use Rattle.low_stmt.proofs.LocalsOfBlocks.{opened, opened_agrees, opened_framed, closed}
use Rattle.low_stmt.proofs.CallFrames.{Sized, frame_sized, deeper, deeper_framed, deeper_frame}
use Rattle.low_stmt.proofs.Entering.{Entered, stopped_full, entered}
use Rattle.low_stmt.proofs.Leaving.{left}
use Rattle.low_stmt.proofs.PassedArguments.{then_at, passed_same, within_front, pass_follows}
use Rattle.low_stmt.proofs.StatementsFollow.{stmts_done}

-- what the end of the body leaves in registers
abbrev ended : Bool → Env → Env
ended true env = with_env 10 0 env
ended false env = env

end_takes : (main : Bool) (m : List ℕ) (i : ℕ) (env : Env) → env 0 ≡ 0
    → Takes m i (end_code main) env (ended main env)
end_takes true m i env none = constant_takes m i 10 0 env none (omega arith) (omega arith) (omega arith)
end_takes false m i env none = takes_none m i env

end_stack : (main : Bool) (env : Env) → ended main env 2 ≡ env 2
end_stack true env = refl
end_stack false env = refl

end_value : (main : Bool) (env : Env) → main ≡ true → ended main env 10 ≡ 0
end_value true env e = refl
end_value false env e = cc

pub end_length : (main : Bool) → length (end_code main) ≤ 2
end_length true = number_length 10 0
end_length false = omega arith

-- the end of the body as a value
end_left : (main : Bool) (result : Ty) (s : State) → (main ≡ true → register s.registers 10 ≡ 0)
    → CallLeft main result (if main then Some 0 else None) s
end_left true result s h = (h refl, omega arith)
end_left false result s h = λ e. cc

return_left : (main : Bool) (result : Ty) (v : Option ℕ) (s : State)
    → FlowLeft result (AtReturn v) s
    → CallLeft main result v s
return_left main result None s h = λ e. h
return_left main result (Some v) s h = h

-- a function's value at the end of its body
module _ (code input : List ℕ) (short : length code ≤ CODE_WORDS) (labels : ℕ → ℕ) (main : Bool)
    (result : Ty) (label i : ℕ) (last : List Operation)
    (has : HasAt code labels i (op.Mark (label + 1) ∷ (all_do (end_code main)
    ++ (op.Mark (label + 2) ∷ last)))) where
  abbrev pub leave : ℕ
  leave = i + length (end_code main)

  -- the value is where the caller expects it, and the code goes on where the function is left
  pub record Finished (flow : Flow) (store : Store) (s : State) : Type 0 where
    pub count : ℕ
    pub state : State
    pub few : count ≤ 2
    pub comes : Comes code input count s state
    pub pc : state.pc ≡ address_of leave
    pub memory : state.memory ≡ s.memory
    pub agrees : Agrees store state
    pub value : CallLeft main result (value_of_flow main flow) state

  inner : HasAt code labels i (all_do (end_code main) ++ (op.Mark (label + 2) ∷ last))
  inner = let e : i + 0 ≡ i = omega arith in
      subst (λ z. HasAt code labels z (all_do (end_code main) ++ (op.Mark (label + 2) ∷ last))) e has.1

  tail : HasAt code labels leave (op.Mark (label + 2) ∷ last)
  tail = has_after code labels i (end_code main) (op.Mark (label + 2) ∷ last) inner

  pub tail_last : HasAt code labels leave last
  tail_last = let e : leave + 0 ≡ leave = omega arith in
      subst (λ z. HasAt code labels z last) e tail.1

  at_end : (store : Store) (s : State) (flow : Flow)
      → ((w : State) → CallLeft main result (if main then Some 0 else None) w
      → CallLeft main result (value_of_flow main flow) w)
      → s.pc ≡ address_of i → Agrees store s → Finished flow store s
  at_end store s flow shows pc a =
      let env0 = register s.registers in
      let r = reached code input short labels i (end_code main) (op.Mark (label + 2) ∷ last) (ended main env0) store s a pc inner (end_takes main s.memory i env0 refl) (end_stack main env0 ∙ a.stack) in
      let w = r.went in
      record {
        count = length (end_code main);
        state = r.state;
        few = end_length main;
        comes = w.comes;
        pc = w.pc;
        memory = w.memory;
        agrees = r.agrees;
        value = shows r.state (end_left main result r.state (λ e. ap (λ q. q 10) w.is ∙ end_value main env0 e));
      }

  pub finished : (flow : Flow) (store : Store) (s : State)
      → s.pc ≡ address_of (flow_end labels (targets_from label) i flow) → Agrees store s
      → FlowLeft result flow s → Finished flow store s
  finished Normal store s pc a h = at_end store s Normal (λ w x. x) pc a
  finished AtBreak store s pc a h =
      at_end store s AtBreak (λ w x. x) (pc ∙ ap address_of has.0) a
  finished AtContinue store s pc a h =
      at_end store s AtContinue (λ w x. x) (pc ∙ ap address_of has.0) a
  finished (AtReturn v) store s pc a h = record {
    count = 0;
    state = s;
    few = omega arith;
    comes = stays code input s;
    pc = pc ∙ ap address_of tail.0;
    memory = refl;
    agrees = a;
    value = return_left main result v s h;
  }

-- a call whose body is followed
module _ (code input : List ℕ) (short : length code ≤ CODE_WORDS) (labels : ℕ → ℕ) (main : Bool)
    (result : Ty) (size slots : ℕ) (sized : Sized size slots) (small : size ≤ 2 ^ 16)
    (label i back j end : ℕ) (near : back < CODE_WORDS) (store : Store) (s s1 : State)
    (f : Framed store.sp 0 store) (room : STACK_FROM + size ≤ store.sp)
    (e : Entered code input 12 size back j end store s s1)
    (has : HasAt code labels i (op.Mark (label + 1) ∷ (all_do (end_code main)
    ++ (op.Mark (label + 2) ∷ leave_code size)))) where
  abbrev frame : ℕ
  frame = store.sp - size

  abbrev top : ℕ
  top = last_word size

  -- the return address is still in its word
  linked : (memory : List ℕ) → Keeps (deeper size store) 0 top s1.memory memory
      → number_at memory (frame + 4 * top) 4 ≡ address_of back
  linked memory k =
      same_number s1.memory memory (frame + 4 * top) 4
      (λ b ge lt. k.by b (omega arith) (λ lives. f.apart b (omega arith) (omega (arith, sized.last)) lives) (inr (omega arith)))
      ∙ e.link

  -- the end of a call
  pub call_ends : (n : ℕ) (r : Ended Flow)
      → Follows code input (with_credit 48) (deeper size store) 0 top n
      (flow_end labels (targets_from label) i) s1 (FlowLeft result) r
      → Follows code input for_function store 0 0 (n + 1) (λ v. back) s (CallLeft main result)
      (then_run r (λ flow after left.
      Goes (value_of_flow main flow) (record after { sp = store.sp }) left))
  call_ends n (Goes flow after left1) g =
      let b = g.by in
      let l = b.2 in
      let s2 = b.1 in
      let d = finished code input short labels main result label i (leave_code size) has flow after s2 l.pc l.agrees b.3 in
      let s3 = d.state in
      let deep = framed_then frame (top + 1) (deeper size store) after l.same_sp l.same_live (deeper_framed size slots sized store f room (top + 1) (omega arith)) in
      let link : InSlot frame top (address_of back) s3 = ap (λ q. number_at q (frame + 4 * top) 4) d.memory ∙ linked s2.memory l.keeps in
      let x = left code input short labels size frame (leave code input short labels main result label i (leave_code size) has) back after s3 small near deep (omega (arith, f.within)) d.pc d.agrees link (tail_last code input short labels main result label i (leave_code size) has) in
      let y = x.2 in
      let s4 = x.1 in
      let same : after.sp + size ≡ store.sp = omega (arith, l.same_sp) in
      let agrees : Agrees (record after { sp = store.sp }) s4 = subst (λ q. Agrees (record after { sp = q }) s4) same y.agrees in
      let memory = y.memory ∙ d.memory in
      record {
        by = (
          j + b.0 + d.count + x.0,
          s4,
          record {
            comes = then_comes code input (j + b.0 + d.count) x.0 s s3 s4
                (then_comes code input (j + b.0) d.count s s2 s3
                (then_comes code input j b.0 s s1 s2 e.comes l.comes) d.comes) y.comes;
            pc = y.pc;
            agrees = agrees;
            same_sp = refl;
            same_live = l.same_live;
            keeps = record {
              by = λ at ge dead off.
                  ap (λ q. byte_at q at) memory
                  ∙ l.keeps.by at (omega arith) dead (inr (omega (arith, sized.last)))
                  ∙ e.keeps.by at (omega arith) dead (inr (omega (arith, sized.last)));
            };
            least = omega (arith, l.least, e.some);
            most = omega (arith, l.most, e.few, d.few, y.few);
          },
          call_left (value_of_flow main flow) s3 s4 y.value d.value,
        );
      }
    where
      call_left : (v : Option ℕ) (s3 s4 : State)
          → register s4.registers 10 ≡ register s3.registers 10
          → CallLeft main result v s3 → CallLeft main result v s4
      call_left None s3 s4 same h = h
      call_left (Some v) s3 s4 same h = (same ∙ h.0, h.1)
  call_ends n (StackFull output) g =
      let b = g.by in
      record { by = (j + b.0, b.1, omega (arith, b.2, e.few), then_run_is code input j b.0 s s1 (Stopped b.1 stop.StackFull) e.comes b.3, b.4) }
  call_ends n (More output) g =
      let b = g.by in
      record { by = (j + b.0, b.1, omega (arith, b.2, e.some), omega (arith, b.3, e.few), then_comes code input j b.0 s s1 b.1 e.comes b.4, b.5) }
  call_ends n (Undef output act at) g = record { by = tt }

module _ (functions : List ℕ → ℕ) (defined : List ℕ → Option Definition) (text : List Item) (f : Fun)
    (body : Stmts) (ready : IsReadyFun defined (names_in text) f body) (code input : List ℕ)
    (labels : ℕ → ℕ) (calls : Calls) (bound label i : ℕ)
    (h : HasFunctions code input labels functions defined calls bound)
    (has : HasAt code labels i (fun_code functions (names_in text) f body label)) where
  abbrev planned : Body
  planned = body_of (names_in text) f body

  abbrev size : ℕ
  size = planned.frame.size

  abbrev slots : ℕ
  slots = planned.frame.slots

  abbrev main : Bool
  main = bytes_eq f.name main_name

  abbrev result : Ty
  result = result_shape f

  abbrev to : Targets
  to = targets_from label

  abbrev locals : List Local
  locals = parameter_locals planned.frame.places f.parameters ++ block_locals planned.own body

  -- the code from the end of the body on
  abbrev last3 : List Operation
  last3 = op.Mark (label + 1) ∷ (all_do (end_code main) ++ (op.Mark (label + 2) ∷ leave_code size))

  abbrev statements : List Operation
  statements = stmts_code functions result planned.names planned.own to (label + 3) body

  abbrev passing : List Operation
  passing = pass_code 10 planned.frame.places f.parameters

  abbrev begun : ℕ
  begun = i + width_of (enter_code size label)

  abbrev passed_at : ℕ
  passed_at = begun + width_of passing

  abbrev ended_at : ℕ
  ended_at = passed_at + width_of statements

  sized : Sized size slots
  sized = frame_sized f.parameters body

  tail0 : HasAt code labels i (enter_code size label ++ (passing ++ (statements ++ last3)))
  tail0 = let e : i + 0 ≡ i = omega arith in
      subst (λ q. HasAt code labels q (enter_code size label ++ (passing ++ (statements ++ last3)))) e has.1

  tail1 : HasAt code labels begun (passing ++ (statements ++ last3))
  tail1 = has_back code labels i (enter_code size label) (passing ++ (statements ++ last3)) tail0

  tail2 : HasAt code labels passed_at (statements ++ last3)
  tail2 = has_back code labels begun passing (statements ++ last3) tail1

  tail3 : HasAt code labels ended_at last3
  tail3 = has_back code labels passed_at statements last3 tail2

  -- the body, from the frame on
  body_follows : (vs : List ℕ) (store : Store) (n : ℕ) (s : State) → n ≤ bound
      → length vs ≡ length f.parameters → Framed store.sp 0 store → STACK_FROM + size ≤ store.sp
      → s.pc ≡ address_of begun → Passed 10 vs s → Agrees (deeper size store) s
      → Follows code input (with_credit 48) (deeper size store) 0 (last_word size) n
      (flow_end labels to ended_at) s (FlowLeft result)
      (body_run text input calls planned.frame.places f body vs (deeper size store) n)
  body_follows vs store n s le len fr room pc passed a =
      let frame = store.sp - size in
      let top = last_word size in
      let frm = deeper_frame size slots sized store fr room in
      let deep = deeper_framed size slots sized store fr room slots (omega (arith, sized.slots_before)) in
      let inside = opened locals (deeper size store) in
      let few = ready.few in
      closed defined frame slots top frm locals ready.within (deeper size store) deep
      ((pass planned.frame.places f.parameters vs
      >>= λ u. exec_all input calls result planned.names planned.own body) inside n)
      (then_at {u = for_statement} frame slots (pass planned.frame.places f.parameters vs inside n)
      (λ u. exec_all input calls result planned.names planned.own body) (omega arith) (omega arith)
      (record { slack = omega arith; over = omega arith })
      (opened_framed defined frame slots top frm locals ready.within (deeper size store) deep)
      (pass_follows code input h.short labels defined frame slots top (omega (arith, sized.last, ready.small)) 10
      planned.frame.places f.parameters vs begun n inside s len few (omega arith) (omega arith)
      (within_front defined slots top (parameter_locals planned.frame.places f.parameters)
      (block_locals planned.own body) ready.within)
      (has_front code labels begun passing (statements ++ last3) tail1) passed pc
      (opened_agrees defined frame slots top frm locals ready.within (deeper size store) deep s a)
      (opened_framed defined frame slots top frm locals ready.within (deeper size store) deep))
      (λ u store1 n1 s1 le1 pc1 a1 f1 w.
      stmts_done functions defined code input labels calls frame slots top bound h frm result planned.names planned.own
      to (label + 3) passed_at body ready.statements
      (has_front code labels passed_at statements last3 tail2) store1 n1 s1 (omega arith) pc1 a1 f1))

  call_follows : (vs : List ℕ) (store : Store) (n back : ℕ) (s : State) → n ≤ bound
      → length vs ≡ length f.parameters → back < length code → s.pc ≡ address_of i
      → register s.registers 1 ≡ address_of back → Passed 10 vs s → Agrees store s
      → Framed store.sp 0 store
      → Follows code input for_function store 0 0 (n + 1) (λ v. back) s (CallLeft main result)
      (whole_run text input calls (frame_of f.parameters body) f body vs store n)
  call_follows vs store n back s le len near pc link passed a fr =
      decided (nat_lt store.sp (STACK_FROM + size)) refl
    where
      rest : Run (Option ℕ)
      rest = change (deeper size store)
          >> (body_run text input calls planned.frame.places f body vs >>= λ flow.
          now >>= λ after. change (record after { sp = store.sp }) >> pure (value_of_flow main flow))

      decided : (c : Bool) → nat_lt store.sp (STACK_FROM + size) ≡ c
          → Follows code input for_function store 0 0 (n + 1) (λ v. back) s (CallLeft main result)
          ((if c then stack_full else rest) store n)
      decided true e =
          let p = stopped_full code input h.short labels size slots sized ready.small label i store s e pc a (has_front code labels i (enter_code size label) (passing ++ (statements ++ last3)) tail0) in
          record { by = (p.0, p.1, omega (arith, p.2), p.3, p.4) }
      decided false e =
          let room = ltb-false store.sp (STACK_FROM + size) e in
          let short = h.short in
          let d = entered code input h.short labels size slots sized ready.small label i back store s fr room e (omega arith) pc link a (has_front code labels i (enter_code size label) (passing ++ (statements ++ last3)) tail0) in
          let g = d.2 in
          call_ends code input h.short labels main result size slots sized ready.small label ended_at back d.0
          begun (omega arith) store s d.1 fr room g tail3 n
          (body_run text input calls planned.frame.places f body vs (deeper size store) n)
          (body_follows vs store n d.1 le len fr room g.pc
          (passed_same 10 vs s d.1 g.others passed) g.agrees)

pub fun_done : (functions : List ℕ → ℕ) (defined : List ℕ → Option Definition) (text : List Item)
    (f : Fun) (body : Stmts) → IsReadyFun defined (names_in text) f body
    → IsSimulatedFun functions defined text f body
fun_done functions defined text f body ready = λ code input labels calls bound label i h has.
    call_follows functions defined text f body ready code input labels calls bound label i h has
