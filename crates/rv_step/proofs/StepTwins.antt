-- Whole steps: each depends on what it reads alone, and changes what it writes alone.
use Rattle.std.proofs.Common.{◌≡◌, ℕ, List, [], ◌∷◌, refl, ap, ◌∙◌, subst, Option, Some, None}
use Rattle.access_log.specs.declared.spot.Spot.{Spot}
use Rattle.access_log.specs.declared.spot.Spot.TheVariants.{Register}
use Rattle.rv_code.specs.declared.effect.Effect.{Effect}
use Rattle.rv_code.specs.declared.instr.Instr.{Instr}
use Rattle.rv_code.specs.Decode.{instr_of}
use Rattle.rv_code.specs.Effects.{effect_of}
use Rattle.rv_code.specs.State.{State, Machine, Running, register}
use Rattle.rv_code.specs.Step.{performs, asks, acts, executes, fetch, step}
use Rattle.rv_code.specs.Table.{first_register, second_register}
use Rattle.rv_step.specs.Footprint.{effect_reads, effect_writes, instr_reads, instr_writes, word_reads, word_writes, step_reads, step_writes}
use Rattle.rv_step.proofs.SpotContents.{Alike, Changes, EqualAt}
use Rattle.rv_step.proofs.EffectLemmas.{put_by, effect-changes, effect-equal, same-put_by, SameShape, halts-changes, trap-equal}

-- what a step puts out
abbrev pub put_by_instr : State → Option Instr → List ℕ
put_by_instr s None = []
put_by_instr s (Some i) = put_by s (asks i s.registers s.pc)

abbrev pub put_by_word : State → Option ℕ → List ℕ
put_by_word s None = []
put_by_word s (Some word) = put_by_instr s (instr_of word)

abbrev pub put_by_step : (code : List ℕ) → State → List ℕ
put_by_step code s = put_by_word s (fetch code s.pc)

instr-changes : (input : List ℕ) (s : State) (i : Option Instr)
    → Changes s (put_by_instr s i) (instr_writes i s.registers s.pc) (acts input s i)
instr-changes input s None = halts-changes s _
instr-changes input s (Some i) = effect-changes input s (asks i s.registers s.pc)

word-changes : (input : List ℕ) (s : State) (word : Option ℕ)
    → Changes s (put_by_word s word) (word_writes word s.registers s.pc) (executes input s word)
word-changes input s None = halts-changes s _
word-changes input s (Some word) = instr-changes input s (instr_of word)

pub step-changes : (code input : List ℕ) (s : State)
    → Changes s (put_by_step code s) (step_writes code (Running s)) (step code input (Running s))
step-changes code input s = word-changes input s (fetch code s.pc)

-- what an instruction asks for depends on the pc and its operands alone
same-asks : (s t : State) (i : Instr) → s.pc ≡ t.pc
    → register s.registers (first_register i) ≡ register t.registers (first_register i)
    → register s.registers (second_register i) ≡ register t.registers (second_register i)
    → asks i s.registers s.pc ≡ asks i t.registers t.pc
same-asks s t i p x y =
    ap (λ pc. effect_of i pc (register s.registers (first_register i)) (register s.registers (second_register i))) p
    ∙ ap (λ v. effect_of i t.pc v (register s.registers (second_register i))) x
    ∙ ap (λ v. effect_of i t.pc (register t.registers (first_register i)) v) y

-- two steps that read, put out and write the same
pub record Twins (rs rs' ws ws' : List Spot) (put put' : List ℕ) (m n : Machine) : Type 0 where
  pub equal : EqualAt ws m n
  pub output : put ≡ put'
  pub reads : rs ≡ rs'
  pub writes : ws ≡ ws'

effect-twins : (input : List ℕ) (s t : State) (e f : Effect) → SameShape s t → e ≡ f
    → Alike s t (effect_reads e)
    → Twins (effect_reads e) (effect_reads f) (effect_writes e) (effect_writes f) (put_by s e) (put_by t f) (performs input s e) (performs input t f)
effect-twins input s t e f h same alike =
    subst (λ (f : Effect). Twins (effect_reads e) (effect_reads f) (effect_writes e) (effect_writes f) (put_by s e) (put_by t f) (performs input s e) (performs input t f)) same
    (record { equal = effect-equal input s t e h alike; output = same-put_by s t e alike; reads = refl; writes = refl })

instr-twins : (input : List ℕ) (s t : State) (i : Option Instr) → SameShape s t
    → Alike s t (instr_reads i s.registers s.pc)
    → Twins (instr_reads i s.registers s.pc) (instr_reads i t.registers t.pc) (instr_writes i s.registers s.pc) (instr_writes i t.registers t.pc) (put_by_instr s i) (put_by_instr t i) (acts input s i) (acts input t i)
instr-twins input s t None h alike = record { equal = trap-equal s t _ h.pc; output = refl; reads = refl; writes = refl }
instr-twins input s t (Some i) h alike =
    let twins = effect-twins input s t (asks i s.registers s.pc) (asks i t.registers t.pc) h (same-asks s t i h.pc alike.0 alike.1.0) alike.1.1 in
    record {
      equal = twins.equal;
      output = twins.output;
      reads = ap (λ spots. Register (first_register i) ∷ Register (second_register i) ∷ spots) twins.reads;
      writes = twins.writes;
    }

word-twins : (input : List ℕ) (s t : State) (word : Option ℕ) → SameShape s t
    → Alike s t (word_reads word s.registers s.pc)
    → Twins (word_reads word s.registers s.pc) (word_reads word t.registers t.pc) (word_writes word s.registers s.pc) (word_writes word t.registers t.pc) (put_by_word s word) (put_by_word t word) (executes input s word) (executes input t word)
word-twins input s t None h alike = record { equal = trap-equal s t _ h.pc; output = refl; reads = refl; writes = refl }
word-twins input s t (Some word) h alike = instr-twins input s t (instr_of word) h alike

pub step-twins : (code input : List ℕ) (s t : State) → SameShape s t
    → Alike s t (step_reads code (Running s))
    → Twins (step_reads code (Running s)) (step_reads code (Running t)) (step_writes code (Running s)) (step_writes code (Running t)) (put_by_step code s) (put_by_step code t) (step code input (Running s)) (step code input (Running t))
step-twins code input s t h alike =
    subst (λ (p : ℕ). Twins (word_reads (fetch code s.pc) s.registers s.pc) (word_reads (fetch code p) t.registers t.pc) (word_writes (fetch code s.pc) s.registers s.pc) (word_writes (fetch code p) t.registers t.pc) (put_by_word s (fetch code s.pc)) (put_by_word t (fetch code p)) (executes input s (fetch code s.pc)) (executes input t (fetch code p)))
    h.pc (word-twins input s t (fetch code s.pc) h alike)
