-- The program begins by a call of `main`, whose value it exits with.
use Rattle.std.proofs.Common.{◌≡◌, ℕ, zero, suc, ◌+◌, ◌-◌, ◌^◌, ◌<◌, ◌≤◌, List, [], ◌∷◌, ◌++◌, length, refl, sym, ap, ◌∙◌, subst, arith, Option, Some, None, All}
use Rattle.std.specs.Prelude.{true, bytes_eq, pos}
use Rattle.std.proofs.lemmas.List.{length-replicate}
use Rattle.std.proofs.lemmas.Slice.Eq.{bytes_eq-Decides}
use Rattle.bop_bits.specs.declared.map.TheConstants.{CODE_WORDS, DATA_FROM, PAGE_BYTES, STACK_TO}
use Rattle.rv_code.specs.declared.instr.Instr.{Instr}
use Rattle.rv_code.specs.declared.instr.Instr.TheVariants as instr
use Rattle.rv_code.specs.declared.program.Program.{Program}
use Rattle.rv_code.specs.declared.stop.Stop.TheVariants as stop
use Rattle.rv_code.specs.Effects.{call_of}
use Rattle.rv_code.specs.State as machine
use Rattle.rv_code.specs.State.{State, Machine, Running, Stopped, register}
use Rattle.rv_code.specs.Step.{address_of, calls}
use Rattle.rv_code.specs.SequentialRun.{run, seq}
use Rattle.c_tree.specs.Arithmetic.{signed}
use Rattle.c_tree.specs.Ty.{Ty}
use Rattle.c_tree.specs.Ty as ty
use Rattle.c_tree.specs.Item.{Item}
use Rattle.c_tree.specs.Shapes.{is_void}
use Rattle.c_layout.specs.Globals.{globals, private_end}
use Rattle.c_layout.proofs.Nearness.{le_rounded}
use Rattle.c_semantics.specs.Run.{Store, Ended, Goes, StackFull, More, Undef}
use Rattle.c_semantics.specs.Names.{Definition}
use Rattle.c_semantics.specs.Evaluated.{IsMain}
use Rattle.c_semantics.specs.Eval.{enter}
use Rattle.c_semantics.specs.Meaning.{definition, main_name, start, calls_at, run_of, ended, meant}
use Rattle.low_labels.specs.Operation.{Operation, width_of}
use Rattle.low_labels.specs.Operation as op
use Rattle.low_labels.specs.Placed.{HasAt}
use Rattle.low_expr.specs.CodePieces.{all_do, constant}
use Rattle.low_expr.specs.ExprCode.{machine_call}
use Rattle.low_expr.specs.Agreement.{Agrees, Framed}
use Rattle.low_expr.specs.Following.{Comes, Follows, for_function}
use Rattle.low_expr.proofs.PlainCode.{with_env, Went, went, one, then_comes, then_run_is, stays, is_place_of}
use Rattle.low_expr.proofs.CodePiecesLemmas.{constant_takes}
use Rattle.low_expr.proofs.CodeLengths.{number_length}
use Rattle.low_expr.proofs.KeptValues.{has_front, has_back, has_after, reached, next_place}
use Rattle.low_stmt.specs.FunSimulation.{CallLeft}
use Rattle.low_stmt.specs.TextCode.{label_of, functions_code, boot_code, text_code, definitions_in}
use Rattle.low_stmt.specs.TextProgram.{program_with}
use Rattle.low_stmt.specs.TextReadiness.{IsReadyText}
use Rattle.low_stmt.specs.TextSimulation.{ComesTo, IsSimulatedText, DoesAs, DoesWhatIsMeant}
use Rattle.low_stmt.proofs.FunctionsFollow.{fun_done}
use Rattle.low_stmt.proofs.CallsLemmas.{label_is, function_placed, calls_follow}
use Rattle.low_stmt.proofs.FirstBytes.{cells_length, memory_length, memory_small, memory_at, between, between_inside}
use Rattle.low_expr.proofs.LinkingJumps.{linked, link_agrees, link_fields, link_comes}
use Rattle.low_stmt.proofs.StackChanges.{with_stack, stack_agrees}

module _ (text : List Item) (ready : IsReadyText text) (code input : List ℕ) (labels : ℕ → ℕ)
    (short : length code ≤ CODE_WORDS) (bytes : All (λ b. b < 2 ^ 8) input)
    (has : HasAt code labels 0 (text_code text)) where
  -- the machine's state at the start
  pub s0 : State
  s0 = machine.start (program_with code labels text)

  first_agrees : Agrees (with_stack 0 (start text)) s0
  unfolding s0 machine.start
  first_agrees = record {
    bytes = λ at v lives e.
        let b = between DATA_FROM (private_end (globals text)) (start text).live at ready.placed lives in
        memory_at text (at - DATA_FROM) v
        (omega (arith, b, le_rounded PAGE_BYTES (private_end (globals text)) (omega arith))) e;
    small = memory_small text;
    stack = refl;
    cursor = refl;
    output = refl;
    memory = memory_length text;
    registers = length-replicate {A = ℕ} 32 0;
    cells = cells_length text;
  }

  first_pc : s0.pc ≡ address_of 0
  unfolding s0 machine.start
  first_pc = refl

  first_framed : Framed STACK_TO 0 (start text)
  first_framed = record {
    is = refl;
    aligned = refl;
    above = omega arith;
    within = omega arith;
    apart = λ at ge lt lives.
        let b = between DATA_FROM (private_end (globals text)) (start text).live at ready.placed lives in
        omega (arith, b.1, ready.apart);
    inside = between_inside (private_end (globals text)) (start text).live (omega (arith, ready.apart)) ready.placed;
  }

  abbrev main_label : ℕ
  main_label = label_of text main_name

  abbrev first : List Instr
  first = constant 2 STACK_TO

  abbrev rest : List Operation
  rest = op.Jump 1 main_label ∷ machine_call 0

  -- the word after the call of `main`
  abbrev back : ℕ
  back = length first + 1

  boot : HasAt code labels 0 (all_do first ++ rest)
  boot = has_front code labels 0 (boot_code main_label) (functions_code text (definitions_in text) text) has

  functions_has : (i : ℕ) × (label : ℕ) × HasAt code labels i (functions_code text label text)
  functions_has = (0 + width_of (boot_code main_label), definitions_in text, has_back code labels 0 (boot_code main_label) (functions_code text (definitions_in text) text) has)

  tail : HasAt code labels (0 + length first) rest
  tail = has_after code labels 0 first rest boot

  -- `main` is called
  pub record Called (s : State) : Type 0 where
    pub comes : Comes code input back s0 s
    pub pc : s.pc ≡ address_of (labels main_label)
    pub agrees : Agrees (start text) s
    pub link : register s.registers 1 ≡ address_of back

  called : (s : State) × Called s
  called =
      let env0 = register s0.registers in
      let a0 = first_agrees in
      let t = constant_takes s0.memory 0 2 STACK_TO env0 refl (omega arith) (omega arith) (omega arith) in
      let g = went code input short labels first 0 env0 s0 refl first_pc a0.registers (has_front code labels 0 (all_do first) rest boot) t.0 in
      let w = subst (λ e. Went code input (length first) 0 e s0 g.0) t.1 g.1 in
      let s1 = g.0 in
      let a1 = stack_agrees code input STACK_TO (length first) 0 (with_env 2 STACK_TO env0) (with_stack 0 (start text)) s0 s1 a0 w refl in
      let k = 0 + length first in
      let target = address_of (labels main_label) in
      let s2 = linked s1 target in
      let fields = link_fields s1 target w.registers in
      let place = is_place_of code k _ tail.0.1.1 in
      let next = next_place k s1.pc (omega (arith, place, short)) w.pc in
      let e : k + 1 ≡ back = omega arith in (
        s2,
        record {
          comes = then_comes code input (length first) 1 s0 s1 s2 w.comes
              (link_comes code input labels k main_label s1 w.pc tail.0);
          pc = fields.1;
          agrees = link_agrees (start text) s1 target a1;
          link = ap (λ q. q 1) fields.2 ∙ next ∙ ap address_of e;
        },
      )

  -- the program exits with what `main` returned
  exits : (v : ℕ) (store : Store) (s : State) → s.pc ≡ address_of back → Agrees store s
      → register s.registers 10 ≡ v
      → (s' : State) × (run code input 2 (Running s) ≡ Stopped s' (stop.Exit (signed v)))
      × (s'.output ≡ store.output)
  exits v store s pc a is =
      let move : List Instr = instr.Addi 17 0 (pos 0) ∷ [] in
      let last : List Operation = op.Do instr.Ecall ∷ [] in
      let e : 0 + length first + 1 ≡ back = omega arith in
      let here = subst (λ z. HasAt code labels z (machine_call 0)) e tail.1 in
      let env0 = register s.registers in
      let r = reached code input short labels back move last (with_env 17 0 env0) store s a pc here (((omega arith, omega arith), tt), refl) a.stack in
      let s1 = r.state in
      let w = r.went in
      let next = r.next in
      let s2 : State = record s1 { count = s1.count + 1 } in
      let none : register s1.registers 17 ≡ 0 = ap (λ q. q 17) w.is in
      let value : register s1.registers 10 ≡ v = ap (λ q. q 10) w.is ∙ is in (
        s2,
        then_run_is code input 1 1 s s1 (Stopped s2 (stop.Exit (signed v))) w.comes
            (one code input labels s1 (back + 1) instr.Ecall w.pc next.0
            ∙ ap (λ q. calls input s1 (call_of q)) none
            ∙ ap (λ q. Stopped s2 (stop.Exit (signed q))) value),
        r.agrees.output,
      )

  seq_is : (j : ℕ) → seq (program_with code labels text) input j ≡ run code input j (Running s0)
  unfolding s0 seq
  seq_is j = refl

  -- what the call of `main` comes to, as what the program does
  finish : (s : State) → Called s → (n : ℕ) (e : Ended (Option ℕ))
      → Follows code input for_function (start text) 0 0 (n + 1) (λ v. back) s (CallLeft true ty.Int) e
      → ComesTo (program_with code labels text) input (suc n) e
  finish s c n (Goes None store left) f = let b = f.by in absurd (never (b.3 refl))
    where
      never : is_void ty.Int ≡ true → ⊥
      never h = cc
  finish s c n (Goes (Some v) store left) f =
      let b = f.by in
      let l = b.2 in
      let x = exits v store b.1 l.pc l.agrees b.3.0 in
      let few = number_length 2 STACK_TO in (
        back + b.0 + 2,
        x.0,
        omega (arith, l.least),
        omega (arith, l.most, few),
        seq_is (back + b.0 + 2)
            ∙ then_run_is code input (back + b.0) 2 s0 b.1 (Stopped x.0 (stop.Exit (signed v)))
            (then_comes code input back b.0 s0 s b.1 c.comes l.comes) x.1,
        x.2,
      )
  finish s c n (StackFull output) f =
      let b = f.by in
      let few = number_length 2 STACK_TO in (
        back + b.0,
        b.1,
        omega (arith, b.2, few),
        seq_is (back + b.0)
            ∙ then_run_is code input back b.0 s0 s (Stopped b.1 stop.StackFull) c.comes b.3,
        b.4,
      )
  finish s c n (More output) f =
      let b = f.by in
      let few = number_length 2 STACK_TO in
      let both = then_comes code input back b.0 s0 s b.1 c.comes b.4 in (
        back + b.0,
        b.1,
        omega (arith, b.2),
        omega (arith, b.3, few),
        seq_is (back + b.0) ∙ both.is,
        b.5,
      )
  finish s c n (Undef output act at) f = tt

  -- the meaning with some steps
  comes_to : (n : ℕ) (o : Option Definition) → definition text main_name ≡ o → IsMain o
      → ComesTo (program_with code labels text) input n (run_of text input n)
  comes_to n None e m = absurd m
  comes_to zero (Some d) e m =
      (0, s0, omega arith, omega arith, seq_is 0 ∙ (stays code input s0).is, first_agrees.output)
  comes_to (suc n) (Some d) e m =
      let c = called in
      let s = c.0 in
      let g = c.1 in
      let p = function_placed code labels text ready input short bytes functions_has main_name d e in
      let cf = calls_follow code labels text ready input short bytes functions_has n in
      let place = is_place_of code (0 + length first + 1) _ tail.1.0.1 in
      let body = fun_done (label_of text) (definition text) text d.function d.body p.ready code input labels (calls_at text input n) n p.label p.at
      (record { short = short; bytes = bytes; follow = cf }) p.has [] (start text) n back s (omega arith)
      (ap length (sym m.1)) (omega (arith, place))
      (g.pc ∙ ap address_of (label_is code labels text ready input short bytes functions_has main_name d p))
      g.link tt g.agrees first_framed in
      subst (λ q. ComesTo (program_with code labels text) input (suc n)
      (enter (calls_at text input (suc n)) q [] (start text) n)) (sym e)
      (finish s g n (calls_at text input (suc n) d [] (start text) n)
      (subst (λ b. Follows code input for_function (start text) 0 0 (n + 1) (λ v. back) s
      (CallLeft b ty.Int) (calls_at text input (suc n) d [] (start text) n))
      ((bytes_eq-Decides d.function.name main_name).1 p.named)
      (subst (λ t. Follows code input for_function (start text) 0 0 (n + 1) (λ v. back) s
      (CallLeft (bytes_eq d.function.name main_name) t) (calls_at text input (suc n) d [] (start text) n))
      m.0 body)))

pub text_done : (text : List Item) → IsReadyText text → IsSimulatedText text
text_done text ready = λ code input labels short bytes has n.
    comes_to text ready code input labels short bytes has n (definition text main_name) refl ready.main

-- an end of the meaning, without the steps that are left
meaning_of : (program : Program) (input : List ℕ) (n : ℕ) (e : Ended (Option ℕ))
    → ComesTo program input n e → DoesAs program input n (ended e)
meaning_of program input n (Goes v store left) c = (c.0, c.1, omega (arith, c.3), c.4, c.5)
meaning_of program input n (StackFull output) c = c
meaning_of program input n (More output) c = c
meaning_of program input n (Undef output act at) c = tt

pub meant_done : (text : List Item) → IsReadyText text → DoesWhatIsMeant text
unfolding meant
meant_done text ready = λ code input labels short bytes has n.
    meaning_of (program_with code labels text) input n (run_of text input n)
    (text_done text ready code input labels short bytes has n)
