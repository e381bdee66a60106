-- What is said of a text whose program was run.
use Rattle.std.proofs.Common.{◌≡◌, ◌≤◌, ◌<◌, ◌^◌, ℕ, List, length, All, Option, Some, None, Result, Ok, Err, refl, sym, ◌∙◌, ap, subst}
use Rattle.std.specs.Io.KnownBytes.{Appends, Consumes}
use Rattle.bop_ends.specs.declared.fault.Failed.{Failed}
use Rattle.byte_lists.specs.Prefix.{IsPrefix}
use Rattle.byte_lists.proofs.Prefixes.{IsPrefix-trans}
use Rattle.c_token.specs.declared.limits.TheConstants.{TEXT_BYTES}
use Rattle.c_tree.specs.Item.{Item}
use Rattle.low_stmt.specs.TextProgram.{program_of}
use Rattle.low_link.specs.Front.{IsSource}
use Rattle.low_link.specs.SourceSimulation.{IsSimulated}
use Rattle.rv_code.specs.declared.stop.Stop.{Stop}
use Rattle.rv_code.specs.declared.stop.Stop.TheVariants as stop
use Rattle.rv_code.specs.State.{Machine, stop_of, output_of}
use Rattle.rv_code.specs.SequentialRun.{seq}
use Rattle.rv_code.proofs.Outputs.{seq-grows}
use Rattle.rv_step.specs.declared.state.State.{State}
use Rattle.rv_step.specs.InPlace.{machine_of}
use Rattle.bop_top.specs.declared.ending.Figures.{Figures}
use Rattle.bop_top.specs.declared.outcome.Outcome.{Outcome}
use Rattle.bop_top.specs.declared.outcome.Outcome.TheVariants as outcome
use Rattle.bop_top.specs.CommandTransfers.{CanEnd, Moves, Tells, TellsRun}
use Rattle.bop_words.specs.WordRequests.{Seq}
use Rattle.bop_top.specs.Headline.{HasDone}
use Rattle.bop_top.specs.SeqSays.{Ran, HasRun, HasBroken, SeqSays, count_of, run_outcome, stop_outcome}
use Rattle.bop_top.specs.TextSays.{IsInput}
use Rattle.bop_top.specs.private.RunEnds.{HasPassed}
use Rattle.bop_top.proofs.Running.{counted, output-is, stop_of-machine_of}

-- the figures of a run
abbrev pub figures : (steps bytes : ℕ) → Figures
figures steps bytes = record { steps = Some steps; bytes = Some bytes }

run_can : (name : List ℕ) (budget : ℕ) (how : Option Stop) → CanEnd (Seq name budget) (stop_outcome how)
run_can name budget None = tt
run_can name budget (Some (stop.Exit exit)) = tt
run_can name budget (Some stop.StackFull) = tt
run_can name budget (Some (stop.Trap trap pc)) = tt

run_moves : (how : Option Stop) (taken written : List ℕ) (left : Option (List ℕ))
    → IsInput taken left → Moves (stop_outcome how) taken left written
run_moves None taken written left whole = whole
run_moves (Some (stop.Exit exit)) taken written left whole = whole
run_moves (Some stop.StackFull) taken written left whole = whole
run_moves (Some (stop.Trap trap pc)) taken written left whole = whole

run_tells : (name : List ℕ) (budget : ℕ) (how : Option Stop) (count : ℕ) (told : Figures)
    → TellsRun count told → Tells (Seq name budget) (stop_outcome how) count told
run_tells name budget None count told h = h
run_tells name budget (Some (stop.Exit exit)) count told h = h
run_tells name budget (Some stop.StackFull) count told h = h
run_tells name budget (Some (stop.Trap trap pc)) count told h = h

run_says : (budget : ℕ) (how : Option Stop) (steps : Option ℕ) (file : Option (List ℕ))
    (taken written : List ℕ) → Ran budget file taken (HasRun budget how written steps)
    → SeqSays budget (stop_outcome how) steps file taken written
run_says budget None steps file taken written h = h
run_says budget (Some (stop.Exit exit)) steps file taken written h = h
run_says budget (Some stop.StackFull) steps file taken written h = h
run_says budget (Some (stop.Trap trap pc)) steps file taken written h = h

module _ (name text taken : List ℕ) (budget : ℕ) (ps : List Item) (state : State)
    (input left old new : Option (List ℕ)) (fits : length text ≤ TEXT_BYTES)
    (source : IsSource text ps) (simulated : IsSimulated ps taken budget)
    (takes : Consumes input left taken) (whole : IsInput taken left) where
  run_done : (known : Type 0) (bytes : ℕ)
      → HasPassed (program_of ps) taken budget state (record { end = Ok tt; bytes = bytes }) old new
      → HasDone (Seq name budget) known (Some text) (stop_outcome state.stop) (figures state.count bytes)
      input left old new
  run_done known bytes h =
      let machine = seq (program_of ps) taken in
      let how : stop_of (machine budget) ≡ state.stop = ap stop_of (h.over ∙ sym h.stands) ∙ stop_of-machine_of state h.output in
      let all : h.written ≡ output_of (machine budget) = h.whole.0 ∙ output-is (program_of ps) taken state h.output h.stands ∙ ap output_of (sym h.over) in
      let steps : Some state.count ≡ Some (count_of (machine budget)) = ap Some (counted (program_of ps) taken state h.output h.stands ∙ ap count_of (sym h.over)) in
      record {
        taken = taken;
        written = h.written;
        takes = takes;
        writes = h.writes;
        transfers = record {
          can = run_can name budget state.stop;
          moves = run_moves state.stop taken h.written left whole;
          tells = run_tells name budget state.stop (length h.written) _ (record { steps = refl; bytes = ap Some h.whole.1 });
        };
        says = λ here. run_says budget state.stop _ (Some text) taken h.written (text, refl, fits, (ps, source, simulated, record { stop = how; whole = all; told = steps }));
      }

  broken_done : (known : Type 0) (bytes : ℕ) (why : Failed)
      → HasPassed (program_of ps) taken budget state (record { end = Err why; bytes = bytes }) old new
      → HasDone (Seq name budget) known (Some text) outcome.WriteFault (figures state.count bytes)
      input left old new
  broken_done known bytes why h =
      let machine = seq (program_of ps) taken in
      let front : IsPrefix h.written (output_of (machine state.count)) = subst (IsPrefix h.written) (output-is (program_of ps) taken state h.output h.stands) h.part.0 in
      let part : IsPrefix h.written (output_of (machine budget)) = IsPrefix-trans h.written _ _ front (seq-grows (program_of ps) taken state.count budget h.within) in
      let steps : Some state.count ≡ Some (count_of (machine state.count)) = ap Some (counted (program_of ps) taken state h.output h.stands) in
      record {
        taken = taken;
        written = h.written;
        takes = takes;
        writes = h.writes;
        transfers = record {
          can = tt;
          moves = whole;
          tells = record { steps = refl; bytes = bytes; told_bytes = refl; most = h.part.1 };
        };
        says = λ here. (text, refl, fits, (ps, source, simulated, record { part = part; taken = state.count; within = h.within; told = steps }));
      }

  pub passed_done : (known : Type 0) (end : Result (Unit {0}) Failed) (bytes : ℕ)
      → HasPassed (program_of ps) taken budget state (record { end = end; bytes = bytes }) old new
      → HasDone (Seq name budget) known (Some text) (run_outcome end state.stop)
      (figures state.count bytes) input left old new
  passed_done known (Ok x) bytes h = run_done known bytes h
  passed_done known (Err why) bytes h = broken_done known bytes why h
