-- Instructions that write registers alone: what they leave is computed from the registers as a function.
use Rattle.std.proofs.Common.{◌≡◌, ◌≢◌, ℕ, zero, suc, ◌+◌, ◌%◌, ◌<◌, ◌≤◌, List, [], ◌∷◌, length, refl, sym, ap, ◌∙◌, subst, arith, Some, ⊎_elim}
use Rattle.std.specs.Prelude.{true, false, slice_get, slice_index, slice_set, ◌==◌, if◌then◌else◌}
use Rattle.std.proofs.lemmas.List.{get_or-set_other}
use Rattle.std.proofs.lemmas.Grind.{get_or-set_at}
use Rattle.std.proofs.lemmas.Bool.Decides.{nat_tests}
use Rattle.std.proofs.lemmas.Bool.{cases_lt}
use Rattle.std.proofs.Math.ListN.{length-set}
use Rattle.bop_bits.specs.declared.map.TheConstants.{CODE_WORDS, DATA_FROM, STACK_TO}
use Rattle.bop_bits.specs.MemoryNumbers.{number_at, is_in_memory}
use Rattle.rv_code.specs.declared.effect.Effect.{Effect}
use Rattle.rv_code.specs.declared.effect.Effect.TheVariants.{Sets, Loads}
use Rattle.rv_code.specs.declared.instr.Instr.{Instr}
use Rattle.rv_code.specs.Word.{sum, extended}
use Rattle.rv_code.specs.Table.{first_register, second_register}
use Rattle.rv_code.specs.Effects.{effect_of}
use Rattle.rv_code.specs.State.{State, Machine, Running, register, with_register}
use Rattle.rv_code.specs.Step.{address_of, performs, loads, writes, step}
use Rattle.rv_code.specs.SequentialRun.{run}
use Rattle.rv_code.proofs.SequentialRunLemmas.{run-zero, run-one, run-add}
use Rattle.rv_code.proofs.StepLemmas.{step-at}
use Rattle.low_labels.specs.Placed.{HasWord, HasAt}
use Rattle.low_expr.specs.CodePieces.{all_do}
use Rattle.low_expr.specs.Following.{Comes}

-- registers as a function
abbrev pub Env : Type 0
Env = ℕ → ℕ

abbrev pub with_env : (rd v : ℕ) → Env → Env
with_env rd v env = λ q. if q == rd then v else env q

-- what an instruction asks for
abbrev pub effect_in : Instr → Env → (pc : ℕ) → Effect
effect_in x env pc = effect_of x pc (env (first_register x)) (env (second_register x))

abbrev pub after : List ℕ → Effect → Env → Env
after m (Sets rd v) env = with_env rd v env
after m (Loads rd at size signed) env = with_env rd (extended signed size (number_at m at size)) env
after m e env = env

-- it writes a register, and a load is of the memory
abbrev pub IsPlain : Effect → Type 0
IsPlain (Sets rd v) = (0 < rd) × (rd < 32)
IsPlain (Loads rd at size signed) =
    (0 < rd) × (rd < 32) × (at % size ≡ 0) × (DATA_FROM ≤ at) × (at < STACK_TO)
IsPlain e = ⊥

-- instructions from a place on
abbrev pub leaves : List ℕ → (i : ℕ) → List Instr → Env → Env
leaves m i [] env = env
leaves m i (x ∷ xs) env = leaves m (i + 1) xs (after m (effect_in x env (address_of i)) env)

abbrev pub ArePlain : List ℕ → (i : ℕ) → List Instr → Env → Type 0
ArePlain m i [] env = Unit {0}
ArePlain m i (x ∷ xs) env =
    IsPlain (effect_in x env (address_of i))
    × ArePlain m (i + 1) xs (after m (effect_in x env (address_of i)) env)

-- a state that differs in registers alone
pub record Went (code input : List ℕ) (j i : ℕ) (env : Env) (s s' : State) : Type 0 where
  pub comes : Comes code input j s s'
  pub pc : s'.pc ≡ address_of (i + j)
  pub memory : s'.memory ≡ s.memory
  pub cursor : s'.cursor ≡ s.cursor
  pub output : s'.output ≡ s.output
  pub registers : length s'.registers ≡ 32
  pub is : register s'.registers ≡ env

pub then_comes : (code input : List ℕ) (j k : ℕ) (a b c : State) → Comes code input j a b
    → Comes code input k b c → Comes code input (j + k) a c
then_comes code input j k a b c h g = record {
  is = run-add code input j k (Running a) ∙ ap (run code input k) h.is ∙ g.is;
}

pub then_run_is : (code input : List ℕ) (j k : ℕ) (a b : State) (m : Machine)
    → Comes code input j a b → run code input k (Running b) ≡ m
    → run code input (j + k) (Running a) ≡ m
then_run_is code input j k a b m h g =
    run-add code input j k (Running a) ∙ ap (run code input k) h.is ∙ g

pub stays : (code input : List ℕ) (s : State) → Comes code input 0 s s
stays code input s = record { is = run-zero code input (Running s) }

-- a word that is there is at a place of the list
pub is_place_of : (l : List ℕ) (i x : ℕ) → slice_get l i ≡ Some x → i < length l
is_place_of [] i x e = cc
is_place_of (y ∷ ys) zero x e = omega arith
is_place_of (y ∷ ys) (suc i) x e = let h = is_place_of ys i x e in omega (arith, h)

-- two registers
pub below_apart : (q r : ℕ) → q < r → q ≢ r
below_apart q r h = omega arith

pub above_apart : (q r : ℕ) → r < q → q ≢ r
above_apart q r h = omega arith

-- one instruction by its word
pub one : (code input : List ℕ) (labels : ℕ → ℕ) (s : State) (i : ℕ) (x : Instr)
    → s.pc ≡ address_of i → HasWord code labels i x
    → run code input 1 (Running s) ≡ performs input s (effect_in x (register s.registers) s.pc)
one code input labels s i x pc has =
    run-one code input 0 (Running s) ∙ ap (step code input) (run-zero code input (Running s))
    ∙ step-at code input s i x pc has.0 has.1

pub eq_true : (q r : ℕ) → q ≡ r → (q == r) ≡ true
eq_true q r e = grind (arith, nat_tests)

pub eq_false : (q r : ℕ) → q ≢ r → (q == r) ≡ false
eq_false q r e = grind (arith, nat_tests)

pub reg_is : (regs : List ℕ) (q : ℕ) → 0 < q → register regs q ≡ slice_index regs q
reg_is regs q pos = let ne : q ≢ 0 =
    omega arith in ap (λ b. if b then 0 else slice_index regs q) (eq_false q 0 ne)

pub with_reg_is : (regs : List ℕ) (rd v : ℕ) → 0 < rd
    → with_register regs rd v ≡ slice_set regs rd v
with_reg_is regs rd v pos = let ne : rd ≢ 0 =
    omega arith in ap (λ b. if b then regs else slice_set regs rd v) (eq_false rd 0 ne)

pub length-with_register : (regs : List ℕ) (rd v : ℕ) → 0 < rd
    → length (with_register regs rd v) ≡ length regs
length-with_register regs rd v pos = ap length (with_reg_is regs rd v pos) ∙ length-set regs rd v

reg_same : (regs : List ℕ) (rd v : ℕ) → 0 < rd → rd < length regs
    → register (with_register regs rd v) rd ≡ v
reg_same regs rd v pos lt =
    ap (λ l. register l rd) (with_reg_is regs rd v pos) ∙ reg_is (slice_set regs rd v) rd pos
    ∙ get_or-set_at regs rd rd v 0 refl lt

reg_other : (regs : List ℕ) (rd v q : ℕ) → 0 < rd → q ≢ rd
    → register (with_register regs rd v) q ≡ register regs q
reg_other regs rd v zero pos ne = ap (λ l. register l 0) (with_reg_is regs rd v pos)
reg_other regs rd v (suc q) pos ne =
    ap (λ l. register l (suc q)) (with_reg_is regs rd v pos)
    ∙ reg_is (slice_set regs rd v) (suc q) (omega arith)
    ∙ get_or-set_other regs rd (suc q) v 0 ne ∙ sym (reg_is regs (suc q) (omega arith))

pub with_is : (regs : List ℕ) (rd v : ℕ) → 0 < rd → rd < length regs
    → register (with_register regs rd v) ≡ with_env rd v (register regs)
with_is regs rd v pos lt = λ i q. at q i
  where
    at_other : (q : ℕ) → q ≢ rd
        → register (with_register regs rd v) q ≡ with_env rd v (register regs) q
    at_other q ne = reg_other regs rd v q pos ne ∙ ap (λ b. if b then v else register regs q)
        (sym (eq_false q rd ne))

    at_itself : (q : ℕ) → q ≡ rd
        → register (with_register regs rd v) q ≡ with_env rd v (register regs) q
    at_itself q e =
        ap (register (with_register regs rd v)) e ∙ reg_same regs rd v pos lt
        ∙ ap (λ b. if b then v else register regs q) (sym (eq_true q rd e))

    at : (q : ℕ) → register (with_register regs rd v) q ≡ with_env rd v (register regs) q
    at q =
        ⊎_elim
        (λ l. let ne : q ≢ rd = omega arith in at_other q ne)
        (λ ge. ⊎_elim
        (λ l. let ne : q ≢ rd = omega arith in at_other q ne)
        (λ ge2. let e : q ≡ rd = omega arith in at_itself q e)
        (cases_lt rd q))
        (cases_lt q rd)

pub in_memory : (at : ℕ) → DATA_FROM ≤ at → at < STACK_TO → is_in_memory at ≡ true
in_memory at low high = grind (arith, nat_tests)

wrote : State → ℕ → ℕ → State
wrote s rd v = record s {
  registers = with_register s.registers rd v;
  pc = sum s.pc 4;
  count = s.count + 1;
}

went_wrote : (code input : List ℕ) (s : State) (i rd v : ℕ) → i < CODE_WORDS → s.pc ≡ address_of i
    → length s.registers ≡ 32 → 0 < rd → rd < 32
    → run code input 1 (Running s) ≡ writes s rd v
    → Went code input 1 i (with_env rd v (register s.registers)) s (wrote s rd v)
unfolding wrote
went_wrote code input s i rd v short pc len pos lt is = record {
  comes = record { is = is };
  pc = omega arith;
  memory = refl;
  cursor = refl;
  output = refl;
  registers = length-with_register s.registers rd v pos ∙ len;
  is = with_is s.registers rd v pos (omega arith);
}

went_one : (code input : List ℕ) (s : State) (i : ℕ) (e : Effect) → i < CODE_WORDS
    → s.pc ≡ address_of i → length s.registers ≡ 32 → IsPlain e
    → run code input 1 (Running s) ≡ performs input s e
    → (s' : State) × Went code input 1 i (after s.memory e (register s.registers)) s s'
went_one code input s i (Sets rd v) short pc len p is =
    (wrote s rd v, went_wrote code input s i rd v short pc len p.0 p.1 is)
went_one code input s i (Loads rd at size signed) short pc len p is =
    let v = extended signed size (number_at s.memory at size) in
    let t = eq_true (at % size) 0 p.2 in
    let r = in_memory at p.3 p.4 in
    let does_it : run code input 1 (Running s) ≡ writes s rd v = is ∙ ap (λ b. loads s rd at size signed b (is_in_memory at)) t ∙ ap (loads s rd at size signed true) r in
    (wrote s rd v, went_wrote code input s i rd v short pc len p.0 p.1 does_it)
went_one code input s i e short pc len p is = absurd p

pub then_went : (code input : List ℕ) (j k i : ℕ) (env env' : Env) (a b c : State)
    → Went code input j i env a b → Went code input k (i + j) env' b c
    → Went code input (j + k) i env' a c
then_went code input j k i env env' a b c h g = record {
  comes = then_comes code input j k a b c h.comes g.comes;
  pc = g.pc ∙ omega arith;
  memory = g.memory ∙ h.memory;
  cursor = g.cursor ∙ h.cursor;
  output = g.output ∙ h.output;
  registers = g.registers;
  is = g.is;
}

pub stays_went : (code input : List ℕ) (i : ℕ) (s : State) → s.pc ≡ address_of i
    → length s.registers ≡ 32 → Went code input 0 i (register s.registers) s s
stays_went code input i s pc len = record {
  comes = stays code input s;
  pc = pc ∙ omega arith;
  memory = refl;
  cursor = refl;
  output = refl;
  registers = len;
  is = refl;
}

-- the instructions do what is computed
pub went : (code input : List ℕ) (short : length code ≤ CODE_WORDS) (labels : ℕ → ℕ)
    (xs : List Instr) (i : ℕ) (env : Env) (s : State) → register s.registers ≡ env
    → s.pc ≡ address_of i → length s.registers ≡ 32 → HasAt code labels i (all_do xs)
    → ArePlain s.memory i xs env
    → (s' : State) × Went code input (length xs) i (leaves s.memory i xs env) s s'
went code input short labels [] i env s is pc len has p =
    (s, subst (λ e. Went code input 0 i e s s) is (stays_went code input i s pc len))
went code input short labels (x ∷ xs) i env s is pc len has p =
    let e = effect_in x env (address_of i) in
    let same : effect_in x (register s.registers) s.pc ≡ e = ap (λ f. effect_in x f s.pc) is ∙ ap (effect_in x env) pc in
    let place = is_place_of code i _ has.0.1 in
    let first = went_one code input s i e (omega (arith, place, short)) pc len p.0 (one code input labels s i x pc has.0 ∙ ap (performs input s) same) in
    let s1 = first.0 in
    let w = first.1 in
    let is1 : register s1.registers ≡ after s.memory e env = w.is ∙ ap (after s.memory e) is in
    let p1 = subst (λ m. ArePlain m (i + 1) xs (after s.memory e env)) (sym w.memory) p.1 in
    let rest = went code input short labels xs (i + 1) (after s.memory e env) s1 is1 w.pc w.registers has.1 p1 in
    let both = then_went code input 1 (length xs) i _ _ s s1 rest.0 w rest.1 in
    let k : 1 + length xs ≡ length (x ∷ xs) = omega arith in (
      rest.0,
      subst (λ z. Went code input z i (leaves s.memory i (x ∷ xs) env) s rest.0) k
          (subst (λ m. Went code input (1 + length xs) i
          (leaves m (i + 1) xs (after s.memory e env)) s rest.0) w.memory both),
    )
