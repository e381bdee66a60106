-- What a program does within a budget, by what it does where its meaning comes to an end.
use Rattle.std.proofs.Common.{◌≡◌, ℕ, ◌*◌, ◌≤◌, ◌<◌, List, Option, Some, None, refl, sym, ◌∙◌, ap, subst, ⊎_elim, arith}
use Rattle.std.proofs.lemmas.Bool.{cases_lt}
use Rattle.byte_lists.specs.Prefix.{IsPrefix}
use Rattle.byte_lists.proofs.Prefixes.{IsPrefix-refl}
use Rattle.rv_code.specs.declared.program.Program.{Program}
use Rattle.rv_code.specs.declared.stop.Stop.{Stop}
use Rattle.rv_code.specs.declared.stop.Stop.TheVariants as stop
use Rattle.rv_code.specs.State.{State, Machine, Running, Stopped, stop_of, output_of}
use Rattle.rv_code.specs.SequentialRun.{seq}
use Rattle.rv_code.proofs.SequentialRunLemmas.{seq-stopped}
use Rattle.rv_code.proofs.Outputs.{seq-grows}
use Rattle.c_semantics.specs.Meaning.{Meaning, Done, StackFull', More', Undefined'}
use Rattle.c_semantics.specs.Outcome as told
use Rattle.low_stmt.specs.TextSimulation.{DoesAs}
use Rattle.low_link.specs.SourceSimulation.{IsDefined, StopsAs, DoesAsMeant, HasEnded}

module _ (program : Program) (input : List ℕ) where
  at_end : (j n : ℕ) (s : State) (how : Stop) → j ≤ n → seq program input j ≡ Stopped s how
      → (stop_of (seq program input n) ≡ Some how) × (output_of (seq program input n) ≡ s.output)
  at_end j n s how le is =
      let later = seq-stopped program input j n s how le is in
      (ap stop_of later, ap output_of later)

  -- a machine that stops later, or still runs then
  before : (budget j : ℕ) (m later : Machine) (output : List ℕ) → budget ≤ j
      → seq program input budget ≡ m → seq program input j ≡ later → output_of later ≡ output
      → IsPrefix (output_of (seq program input budget)) output
  before budget j m later output le here is said =
      subst (IsPrefix (output_of (seq program input budget))) (ap output_of is ∙ said) (seq-grows program input budget j le)

  -- where it has stopped before, it is as it was
  stopped_before : (budget j : ℕ) (m : Machine) (P : Option Stop → List ℕ → Type 0) → budget ≤ j
      → seq program input budget ≡ m → ((output : List ℕ) → P None output)
      → P (stop_of (seq program input j)) (output_of (seq program input j))
      → P (stop_of (seq program input budget)) (output_of (seq program input budget))
  stopped_before budget j (Running s) P le here runs later =
      subst (λ (m : Machine). P (stop_of m) (output_of m)) (sym here) (runs s.output)
  stopped_before budget j (Stopped s how) P le here runs later =
      let same : seq program input j ≡ seq program input budget = seq-stopped program input budget j s how le here ∙ sym here in
      subst (λ (m : Machine). P (stop_of m) (output_of m)) same later

  -- the meaning's end comes after j steps, with this output
  ends_after : (budget j : ℕ) (s : State) (how : Stop) (m : Meaning)
      → seq program input j ≡ Stopped s how → s.output ≡ told.output_of m
      → StopsAs (Some how) (told.output_of m) m
      → DoesAsMeant (seq program input budget) m
  ends_after budget j s how m is said stops =
      let here : StopsAs (stop_of (seq program input j)) (output_of (seq program input j)) m =
      subst (λ (x : Machine). StopsAs (stop_of x) (output_of x) m) (sym is) (subst (λ output. StopsAs (Some how) output m) (sym said) stops) in
      ⊎_elim
      (λ (less : budget < j). let le : budget ≤ j = omega (arith, less) in record {
        output = before budget j _ (Stopped s how) _ le refl is said;
        stops = stopped_before budget j _ (λ x output. StopsAs x output m) le refl (λ output. tt) here;
      })
      (λ (le : j ≤ budget). let there = at_end j budget s how le is in record {
        output = rw (there.1, said) (IsPrefix-refl (told.output_of m));
        stops = rw (there.0, there.1, said) stops;
      })
      (cases_lt budget j)

  -- it still runs then
  runs_until : (budget j : ℕ) (s : State) (output : List ℕ) → budget ≤ j
      → seq program input j ≡ Running s → s.output ≡ output
      → DoesAsMeant (seq program input budget) (More' output)
  runs_until budget j s output le is said =
      let here : StopsAs (stop_of (seq program input j)) (output_of (seq program input j)) (More' output) =
      subst (λ (x : Machine). StopsAs (stop_of x) (output_of x) (More' output)) (sym is) tt in
      record {
        output = before budget j _ (Running s) _ le refl is said;
        stops = stopped_before budget j _ (λ x out. StopsAs x out (More' output)) le refl (λ out. tt) here;
      }

  pub sound : (budget : ℕ) (m : Meaning) → DoesAs program input budget m → IsDefined m
      → DoesAsMeant (seq program input budget) m
  sound budget (Done output exit) h defined =
      ends_after budget h.0 h.1 (stop.Exit exit) (Done output exit) h.3 h.4 refl
  sound budget (StackFull' output) h defined =
      ends_after budget h.0 h.1 stop.StackFull (StackFull' output) h.3 h.4 refl
  sound budget (More' output) h defined = runs_until budget h.0 h.1 output h.2 h.4 h.5
  sound budget (Undefined' output act at) h defined = absurd defined

  pub complete : (budget n : ℕ) (m : Meaning) → 256 * n ≤ budget → DoesAs program input n m
      → HasEnded (seq program input budget) m
  complete budget n (Done output exit) few h =
      let there = at_end h.0 budget h.1 (stop.Exit exit) (omega (arith, h.2, few)) h.3 in
      (there.0, there.1 ∙ h.4)
  complete budget n (StackFull' output) few h =
      let there = at_end h.0 budget h.1 stop.StackFull (omega (arith, h.2, few)) h.3 in
      (there.0, there.1 ∙ h.4)
  complete budget n (More' output) few h = tt
  complete budget n (Undefined' output act at) few h = tt
