-- Markers: calls of the machine that change the pc alone.
use Rattle.std.proofs.Common.{◌≡◌, ℕ, ◌+◌, ◌%◌, ◌^◌, ◌<◌, ◌≤◌, List, [], ◌∷◌, ◌++◌, length, refl, sym, ap, ◌∙◌, subst, arith, Option, length-append, append_assoc}
use Rattle.std.specs.Prelude.{pos}
use Rattle.bop_bits.specs.declared.map.TheConstants.{CODE_WORDS, DATA_FROM, STACK_TO}
use Rattle.bop_bits.specs.MemoryNumbers.{number_at}
use Rattle.rv_code.specs.declared.instr.Instr.{Instr}
use Rattle.rv_code.specs.declared.instr.Instr.TheVariants as instr
use Rattle.rv_code.specs.Word.{sum, word}
use Rattle.rv_code.specs.Effects.{call_of}
use Rattle.rv_code.specs.State.{State, Running, register}
use Rattle.rv_code.specs.Step.{address_of, calls, goes_on}
use Rattle.c_tree.specs.declared.place.Place.{Place}
use Rattle.c_tree.specs.declared.tree.Count.{Count}
use Rattle.c_tree.specs.declared.tree.Count.TheVariants as amount
use Rattle.c_tree.specs.declared.tree.Marker.{Marker}
use Rattle.c_tree.specs.declared.tree.Marker.TheVariants as marker
use Rattle.c_tree.specs.Expr as expr
use Rattle.c_tree.specs.Ty.{Ty}
use Rattle.c_semantics.specs.declared.flow.Flow.TheVariants.{Normal}
use Rattle.c_semantics.specs.declared.home.Home.{Home}
use Rattle.c_semantics.specs.declared.home.Home.TheVariants.{Fixed, InFrame, Nowhere}
use Rattle.c_semantics.specs.declared.kind.Held.{Held}
use Rattle.c_semantics.specs.declared.kind.Held.TheVariants.{Byte, Word, Array}
use Rattle.c_semantics.specs.Run.{Store, Goes, pure}
use Rattle.c_semantics.specs.Names.{Names, Definition, home_of}
use Rattle.low_labels.specs.Operation.{Operation, width_of}
use Rattle.low_labels.specs.Operation as op
use Rattle.low_labels.specs.Placed.{HasAt, HasWord}
use Rattle.low_expr.specs.CodePieces.{all_do, constant, home_address, read_by}
use Rattle.low_expr.specs.ExprCode.{held_in, machine_call}
use Rattle.low_expr.specs.Agreement.{Agrees, Framed}
use Rattle.low_expr.specs.Following.{Comes, Follows}
use Rattle.low_expr.specs.Readiness.{HomeFits}
use Rattle.low_expr.proofs.PlainCode.{Env, with_env, one, then_comes, is_place_of}
use Rattle.low_expr.proofs.CodePiecesLemmas.{Takes, takes_append, with_other, constant_takes, frame_takes}
use Rattle.low_expr.proofs.CodeLengths.{number_length, home_length, read_length}
use Rattle.low_expr.proofs.KeptValues.{all_width, width-append, reached, next_place}
use Rattle.low_expr.proofs.BranchLemmas.{moved, moved_same, agrees_moved}
use Rattle.low_expr.proofs.MachineCallNodes.{all_do_append}
use Rattle.low_expr.proofs.Composing.{few_before}
use Rattle.low_stmt.specs.MarkerCode.{take_variable, take_count, marker_code}
use Rattle.low_stmt.specs.StmtCode.{Targets}
use Rattle.low_stmt.specs.StmtReadiness.{IsWordAt, IsTaken, IsTakenVariable, IsTakenCount, IsReadyMarker}
use Rattle.low_stmt.specs.StmtSimulation.{IsDone, IsFrame, FlowLeft, flow_end, for_statement}
use Rattle.low_stmt.proofs.StatementParts.{with_credit, pure_follows}

-- plain instructions that leave the stack pointer, and the register that is 0
pub record Prepares (m : List ℕ) (i : ℕ) (xs : List Instr) (env : Env) (frame : ℕ) : Type 0 where
  pub left : Env
  pub takes : Takes m i xs env left
  pub stack : left 2 ≡ frame
  pub nought : left 0 ≡ 0

prepares_append : (m : List ℕ) (i : ℕ) (xs ys : List Instr) (env : Env) (frame : ℕ)
    → (p : Prepares m i xs env frame) → Prepares m (i + length xs) ys p.left frame
    → Prepares m i (xs ++ ys) env frame
prepares_append m i xs ys env frame p q = record {
  left = q.left;
  takes = takes_append m xs ys i env p.left q.left p.takes q.takes;
  stack = q.stack;
  nought = q.nought;
}

module _ (m : List ℕ) (frame room top : ℕ) (fr : IsFrame frame room top) (defined : List ℕ → Option Definition)
    (aligned : frame % 4 ≡ 0) (above : DATA_FROM ≤ frame) where
  into : (i rd : ℕ) (env : Env) → env 2 ≡ frame → env 0 ≡ 0 → 2 < rd → rd < 32
      → Prepares m i (instr.Addi rd 5 (pos 0) ∷ []) env frame
  into i rd env stack z low high = record {
    left = with_env rd (sum (env 5) (word (pos 0))) env;
    takes = (((omega arith, high), tt), refl);
    stack = with_other rd (sum (env 5) (word (pos 0))) 2 env (omega arith) ∙ stack;
    nought = with_other rd (sum (env 5) (word (pos 0))) 0 env (omega arith) ∙ z;
  }

  number : (i rd v : ℕ) (env : Env) → env 2 ≡ frame → env 0 ≡ 0 → 2 < rd → rd < 32 → v < 2 ^ 32
      → Prepares m i (constant rd v) env frame
  number i rd v env stack z low high fits = record {
    left = with_env rd v env;
    takes = constant_takes m i rd v env z (omega arith) high fits;
    stack = with_other rd v 2 env (omega arith) ∙ stack;
    nought = with_other rd v 0 env (omega arith) ∙ z;
  }

  local : (i offset : ℕ) (env : Env) → env 2 ≡ frame → env 0 ≡ 0 → offset ≤ 2 ^ 16
      → Prepares m i (home_address (InFrame offset)) env frame
  local i offset env stack z fits = record {
    left = with_env 5 (frame + offset) env;
    takes = frame_takes m i 5 offset frame env stack (omega arith) (omega arith) (omega arith) (omega (arith, fr.within));
    stack = stack;
    nought = z;
  }

  -- a word of the memory is loaded
  loaded : (i at : ℕ) (env : Env) → env 2 ≡ frame → env 0 ≡ 0 → env 5 ≡ at → at % 4 ≡ 0
      → DATA_FROM ≤ at → at < STACK_TO → Prepares m i (read_by Word 5) env frame
  loaded i at env stack z is al low high =
      let to : sum (env 5) (word (pos 0)) ≡ at = ap (λ z. sum z (word (pos 0))) is ∙ omega arith in
      record {
        left = with_env 5 (number_at m (sum (env 5) (word (pos 0))) 4) env;
        takes = (((omega arith, omega arith, ap (λ z. z % 4) to ∙ al, omega (arith, to), omega (arith, to)), tt), refl);
        stack = stack;
        nought = z;
      }

  word_taken : (i : ℕ) (h : Home) (env : Env) → env 2 ≡ frame → env 0 ≡ 0
      → IsWordAt defined room top h → Prepares m i (home_address h ++ read_by Word 5) env frame
  unfolding number local
  word_taken i (Fixed address) env stack z w =
      let c = constant 5 address in
      let env1 = with_env 5 address env in
      prepares_append m i c (read_by Word 5) env frame
      (number i 5 address env stack z (omega arith) (omega arith) (omega arith))
      (loaded (i + length c) address env1 stack z refl w.0 w.1 w.2)
  word_taken i (InFrame offset) env stack z w =
      let c = home_address (InFrame offset) in
      let env1 = with_env 5 (frame + offset) env in
      let within = fr.within in
      prepares_append m i c (read_by Word 5) env frame
      (local i offset env stack z w.2)
      (loaded (i + length c) (frame + offset) env1 stack z refl (omega (arith, w.0)) (omega arith)
      (omega (arith, w.1)))
  word_taken i Nowhere env stack z w = absurd w

  array_taken : (i : ℕ) (h : Home) (env : Env) → env 2 ≡ frame → env 0 ≡ 0 → HomeFits h
      → Prepares m i (home_address h ++ read_by Array 5) env frame
  unfolding number local
  array_taken i (Fixed address) env stack z w =
      prepares_append m i (constant 5 address) (read_by Array 5) env frame
      (number i 5 address env stack z (omega arith) (omega arith) w)
      (into (i + length (constant 5 address)) 5 (with_env 5 address env) stack z (omega arith)
      (omega arith))
  array_taken i (InFrame offset) env stack z w =
      let c = home_address (InFrame offset) in
      prepares_append m i c (read_by Array 5) env frame (local i offset env stack z w)
      (into (i + length c) 5 (with_env 5 (frame + offset) env) stack z (omega arith) (omega arith))
  array_taken i Nowhere env stack z w =
      prepares_append m i (constant 5 0) (read_by Array 5) env frame
      (number i 5 0 env stack z (omega arith) (omega arith) (omega arith))
      (into (i + length (constant 5 0)) 5 (with_env 5 0 env) stack z (omega arith) (omega arith))

  home_taken : (i : ℕ) (h : Held) (home : Home) (env : Env) → env 2 ≡ frame → env 0 ≡ 0
      → IsTaken defined room top h home → Prepares m i (home_address home ++ read_by h 5) env frame
  home_taken i Byte home env stack z w = absurd w
  home_taken i Word home env stack z w = word_taken i home env stack z w
  home_taken i Array home env stack z w = array_taken i home env stack z w

  variable_taken : (names : Names) (i rd : ℕ) (name : List ℕ) (at : Place) (env : Env)
      → env 2 ≡ frame → env 0 ≡ 0 → 2 < rd → rd < 32 → IsTakenVariable defined room top names name at
      → Prepares m i (take_variable names rd name at) env frame
  variable_taken names i rd name at env stack z low high w =
      let home = home_of (names name) in
      let h = held_in names (expr.Name name at) in
      let a = home_address home in
      let r = read_by h 5 in
      let move : List Instr = instr.Addi rd 5 (pos 0) ∷ [] in
      let p = home_taken i h home env stack z w in
      subst (λ xs. Prepares m i xs env frame) (append_assoc a r move)
      (prepares_append m i (a ++ r) move env frame p
      (into (i + length (a ++ r)) rd p.left p.stack p.nought low high))

  count_taken : (names : Names) (i : ℕ) (n : Count) (env : Env) → env 2 ≡ frame → env 0 ≡ 0
      → IsTakenCount defined room top names n → Prepares m i (take_count names n) env frame
  count_taken names i (amount.Number n) env stack z w =
      number i 12 n env stack z (omega arith) (omega arith) w
  count_taken names i (amount.Name name at) env stack z w =
      variable_taken names i 12 name at env stack z (omega arith) (omega arith) w

  post_taken : (names : Names) (i channel : ℕ) (name : List ℕ) (at : Place) (n : Count) (env : Env)
      → env 2 ≡ frame → env 0 ≡ 0 → channel < 2 ^ 32 → IsTakenVariable defined room top names name at
      → IsTakenCount defined room top names n
      → Prepares m i (take_variable names 11 name at ++ (take_count names n ++ constant 10 channel)) env
      frame
  post_taken names i channel name at n env stack z fits w c =
      let a = take_variable names 11 name at in
      let b = take_count names n in
      let p = variable_taken names i 11 name at env stack z (omega arith) (omega arith) w in
      let q = count_taken names (i + length a) n p.left p.stack p.nought c in
      let r = number (i + length a + length b) 10 channel q.left q.stack q.nought (omega arith) (omega arith) fits in
      prepares_append m i a (b ++ constant 10 channel) env frame p
      (prepares_append m (i + length a) b (constant 10 channel) p.left frame q r)

pub variable_length : (names : Names) (rd : ℕ) (name : List ℕ) (at : Place)
    → length (take_variable names rd name at) ≤ 5
variable_length names rd name at =
    let home = home_of (names name) in
    let h = held_in names (expr.Name name at) in
    omega (
      arith,
      length-append (home_address home) (read_by h 5 ++ instr.Addi rd 5 (pos 0) ∷ []),
      length-append (read_by h 5) (instr.Addi rd 5 (pos 0) ∷ []),
      home_length home,
      read_length h 5,
    )

pub count_length : (names : Names) (n : Count) → length (take_count names n) ≤ 5
count_length names (amount.Number n) = let l = number_length 12 n in omega (arith, l)
count_length names (amount.Name name at) = variable_length names 12 name at

module _ (code input : List ℕ) (labels : ℕ → ℕ) (short : length code ≤ CODE_WORDS)
    (frame room top m : ℕ) (fr : IsFrame frame room top) (defined : List ℕ → Option Definition)
    (result : Ty) where
  -- a call of the machine that changes the pc alone
  call_goes : (i number : ℕ) (s : State) → s.pc ≡ address_of i → HasWord code labels i instr.Ecall
      → register s.registers 17 ≡ number → calls input s (call_of number) ≡ goes_on s
      → Comes code input 1 s (moved s (address_of (i + 1)) 1)
  unfolding moved
  call_goes i number s pc has is same =
      let place = is_place_of code i _ has.1 in
      let next = next_place i s.pc (omega (arith, place, short)) pc in
      record {
        is = one code input labels s i instr.Ecall pc has ∙ ap (λ k. calls input s (call_of k)) is
            ∙ same ∙ ap (λ p. Running (moved s p 1)) next;
      }

  -- what comes before the call, and the call
  called : (xs : List Instr) (number i : ℕ) (to : Targets) (last : List Operation) (store : Store) (n : ℕ)
      (s : State) → length xs ≤ 40 → ((s1 : State) → calls input s1 (call_of number) ≡ goes_on s1)
      → HasAt code labels i (all_do xs ++ (machine_call number ++ last)) → s.pc ≡ address_of i
      → Agrees store s → Framed frame room store → number < 8
      → Prepares s.memory i xs (register s.registers) frame → width_of last ≡ 0
      → Follows code input (with_credit 255) store 0 top n
      (flow_end labels to (i + width_of (all_do xs ++ (machine_call number ++ last)))) s
      (FlowLeft result) (Goes Normal store n)
  called xs number i to last store n s few same has pc ag f small p none =
      let move : List Instr = instr.Addi 17 0 (pos number) ∷ [] in
      let rest = op.Do instr.Ecall ∷ last in
      let split = all_do_append xs move rest in
      let env0 = register s.registers in
      let is : sum (p.left 0) (word (pos number)) ≡ number = ap (λ z. sum z (word (pos number))) p.nought ∙ omega arith in
      let takes = takes_append s.memory xs move i env0 p.left (with_env 17 (sum (p.left 0) (word (pos number))) p.left) p.takes (((omega arith, omega arith), tt), refl) in
      let has1 = subst (HasAt code labels i) (sym split) has in
      let r = reached code input short labels i (xs ++ move) rest (with_env 17 (sum (p.left 0) (word (pos number))) p.left) store s ag pc has1 takes (p.stack ∙ sym f.is) in
      let s1 = r.state in
      let w = r.went in
      let k = i + length (xs ++ move) in
      let s2 = moved s1 (address_of (k + 1)) 1 in
      let next = r.next in
      let there = moved_same s1 (address_of (k + 1)) 1 in
      let c = then_comes code input (length (xs ++ move)) 1 s s1 s2 w.comes (call_goes k number s1 w.pc next.0 (ap (λ e. e 17) w.is ∙ is) (same s1)) in
      let l = length-append xs move in
      let at_end : k + 1 ≡ i + width_of (all_do xs ++ (machine_call number ++ last)) = omega (arith, width-append (all_do xs) (machine_call number ++ last), all_width xs, l, none) in
      few_before (Goes Normal store n) (length (xs ++ move) + 1) (omega (arith, l)) (omega (arith, l)) c
      (there.0 ∙ w.memory)
      (pure_follows code input short labels frame room top m {t = for_statement} Normal store s2 (omega arith)
      (there.1 ∙ ap address_of at_end) (agrees_moved store s1 (address_of (k + 1)) 1 r.agrees) tt)

  -- after the step of the statement
  pub marker_done : (names : Names) (to : Targets) (label i : ℕ) (mark : Marker)
      → IsReadyMarker defined room top names mark
      → HasAt code labels i (marker_code names label mark)
      → IsDone (with_credit 255) code input frame room top m i
      (flow_end labels to (i + width_of (marker_code names label mark))) (FlowLeft result) (pure Normal)
  marker_done names to label i (marker.Begin k) ready has = λ store n s le pc ag f.
      called (constant 10 k) 3 i to [] store n s (omega (arith, number_length 10 k)) (λ s1. refl) has pc
      ag f (omega arith)
      (number s.memory frame room top fr defined f.aligned (omega (arith, f.above)) i 10 k
      (register s.registers) (ag.stack ∙ f.is) refl (omega arith) (omega arith) ready) refl
  marker_done names to label i (marker.End k) ready has = λ store n s le pc ag f.
      called (constant 10 k) 4 i to (op.Mark label ∷ []) store n s (omega (arith, number_length 10 k))
      (λ s1. refl) has pc ag f (omega arith)
      (number s.memory frame room top fr defined f.aligned (omega (arith, f.above)) i 10 k
      (register s.registers) (ag.stack ∙ f.is) refl (omega arith) (omega arith) ready) refl
  marker_done names to label i (marker.Post channel name at count) ready has = λ store n s le pc ag f.
      let a = take_variable names 11 name at in
      let b = take_count names count in
      called (a ++ (b ++ constant 10 channel)) 5 i to [] store n s
      (omega (arith, length-append a (b ++ constant 10 channel), length-append b (constant 10 channel), variable_length names 11 name at, count_length names count, number_length 10 channel))
      (λ s1. refl) has pc ag f (omega arith)
      (post_taken s.memory frame room top fr defined f.aligned (omega (arith, f.above)) names i channel name
      at count (register s.registers) (ag.stack ∙ f.is) refl ready.0 ready.1 ready.2) refl
  marker_done names to label i (marker.Wait channel) ready has = λ store n s le pc ag f.
      called (constant 10 channel) 6 i to [] store n s (omega (arith, number_length 10 channel))
      (λ s1. refl) has pc ag f (omega arith)
      (number s.memory frame room top fr defined f.aligned (omega (arith, f.above)) i 10 channel
      (register s.registers) (ag.stack ∙ f.is) refl (omega arith) (omega arith) ready) refl
