-- Outside the spots a whole state has 0, so what agrees at the spots agrees everywhere.
use Rattle.std.proofs.Common.{◌≡◌, ℕ, ◌-◌, ◌<◌, ◌≤◌, List, [], ◌++◌, length, refl, sym, ap, ◌∙◌, arith, Bool, true, Option, Some, None}
use Rattle.std.specs.Prelude.{slice_index, nat_lt, nat_le, ◌==◌, if◌then◌else◌}
use Rattle.std.proofs.lemmas.List.{get_or_past}
use Rattle.std.proofs.lemmas.Bool.Decides.{nat_tests}
use Rattle.bop_bits.specs.MemoryNumbers.{byte_at}
use Rattle.bop_bits.specs.declared.map.TheConstants.{DATA_FROM, STACK_TO, MEMORY_BYTES}
use Rattle.access_log.specs.declared.spot.Spot.{Spot}
use Rattle.access_log.specs.declared.spot.Spot.TheVariants.{Register, Cursor, Byte}
use Rattle.access_log.specs.Things.{IsSpot}
use Rattle.access_log.proofs.BoolLemmas.{by_cases}
use Rattle.rv_code.specs.declared.stop.Stop.{Stop}
use Rattle.rv_code.specs.State.{State, output_of, register}
use Rattle.rv_step.specs.Footprint.{content}
use Rattle.rv_step.specs.InPlace.{stopped_by}
use Rattle.rv_step.specs.ValidRecord.{IsWhole, RecordsReplay}
use Rattle.rv_step.proofs.ReplayProof.{replay}

past-registers : (s : State) (r : ℕ) → length s.registers ≡ 32 → 32 ≤ r → content s (Register r) ≡ 0
past-registers s r l h = let e : slice_index s.registers r ≡ 0 = get_or_past s.registers r 0 (omega arith) in grind (arith, nat_tests)

below-data : (s : State) (at : ℕ) → at < DATA_FROM → content s (Byte at) ≡ 0
below-data s at h = grind (arith, nat_tests)

past-memory : (s : State) (at : ℕ) → length s.memory ≡ MEMORY_BYTES → STACK_TO ≤ at → content s (Byte at) ≡ 0
past-memory s at l h = let e : slice_index s.memory (at - DATA_FROM) ≡ 0 = get_or_past s.memory (at - DATA_FROM) 0 (omega arith) in grind (arith, nat_tests)

everywhere : (s t : State) (things : Spot → Bool) → IsWhole s → IsWhole t
    → ((x : Spot) → IsSpot x → things x ≡ true → content s x ≡ content t x)
    → (x : Spot) → things x ≡ true → content s x ≡ content t x
everywhere s t things ws wt h Cursor e = h Cursor tt e
everywhere s t things ws wt h (Register r) e = by_cases (nat_lt r 32)
    (λ f. h (Register r) (grind (arith, nat_tests)) e)
    (λ f. let g : 32 ≤ r = grind (arith, nat_tests) in past-registers s r ws.registers g ∙ sym (past-registers t r wt.registers g))
everywhere s t things ws wt h (Byte at) e = by_cases (nat_lt at DATA_FROM)
    (λ f. let g : at < DATA_FROM = grind (arith, nat_tests) in below-data s at g ∙ sym (below-data t at g))
    (λ f. let g : DATA_FROM ≤ at = grind (arith, nat_tests) in
    by_cases (nat_lt at STACK_TO)
    (λ k. let n : at < STACK_TO = grind (arith, nat_tests) in h (Byte at) (g, n) e)
    (λ k. let n : STACK_TO ≤ at = grind (arith, nat_tests) in past-memory s at ws.memory n ∙ sym (past-memory t at wt.memory n)))

output-of-stopped : (stop : Option Stop) (s : State) → output_of (stopped_by stop s) ≡ s.output
output-of-stopped None s = refl
output-of-stopped (Some how) s = refl

pub records-replay : RecordsReplay
records-replay classes code input start end steps stop output log fork late t valid ws wt agrees =
    replay _ code input _ t steps output valid.going
    (record {
      pc = agrees.pc;
      registers = ws.registers ∙ sym wt.registers;
      memory = ws.memory ∙ sym wt.memory;
      at = everywhere _ t _ ws wt (λ x s e. agrees.at x s (valid.log_is.first_is x s ∙ e));
    })
    (ap output_of valid.end_is ∙ output-of-stopped stop _)
