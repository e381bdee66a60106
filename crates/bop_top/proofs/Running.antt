-- A run in place, piece by piece.
use Rattle.std.proofs.Common.{◌≡◌, ℕ, ◌+◌, ◌-◌, ◌≤◌, List, [], ◌++◌, Bool, true, false, Option, Some, None, Ok, Err, length, length-append, refl, sym, ◌∙◌, ap, subst, append-nil, arith}
use Rattle.std.specs.Prelude.{IsSome, ◌==◌, if◌then◌else◌}
use Rattle.std.specs.Io.KnownBytes.{Appends}
use Rattle.std.proofs.KnownBytes.{Appends-nil, Appends-trans}
use Rattle.byte_lists.specs.Content.{AppendsPrefix}
use Rattle.byte_lists.proofs.Prefixes.{IsPrefix-behind}
use Rattle.bop_ends.specs.declared.fault.Failed.{Failed}
use Rattle.rv_code.specs.declared.program.Program.{Program}
use Rattle.rv_code.specs.declared.stop.Stop.{Stop}
use Rattle.rv_code.specs.State as machine
use Rattle.rv_code.specs.State.{Running, start, stop_of, output_of}
use Rattle.rv_code.specs.SequentialRun.{run, seq}
use Rattle.rv_code.proofs.SequentialRunLemmas.{seq-zero, seq-add, seq-stays}
use Rattle.rv_step.specs.declared.state.State.{State}
use Rattle.rv_step.specs.Stepping.{state_of}
use Rattle.rv_step.specs.InPlace.{stopped_by, machine_of}
use Rattle.rv_run.specs.declared.piece.TheConstants.{PIECE_BYTES}
use Rattle.rv_run.specs.declared.run.Paused.{Paused}
use Rattle.rv_run.specs.declared.run.Paused.TheVariants as paused
use Rattle.rv_run.specs.Pause.{pause_of, answer_of}
use Rattle.bop_top.specs.private.RunEnds.{HasPassed}

-- the machine has come so far in its run, and what it has put out is in the sink: so many bytes
pub record Stands (program : Program) (input : List ℕ) (s : State) (old new : Option (List ℕ)) (bytes : ℕ) : Type 0 where
  pub done : List ℕ
  pub state : machine_of s done ≡ seq program input s.count
  pub sink : Appends old new done
  pub counted : bytes ≡ length done

state_of-stopped_by : (how : Option Stop) (s : machine.State)
    → machine.state_of (stopped_by how s) ≡ s
state_of-stopped_by None s = refl
state_of-stopped_by (Some how) s = refl

pub stop_of-stopped_by : (how : Option Stop) (s : machine.State) → stop_of (stopped_by how s) ≡ how
stop_of-stopped_by None s = refl
stop_of-stopped_by (Some how) s = refl

-- how a state in place has stopped
pub stop_of-machine_of : (s : State) (output : List ℕ) → stop_of (machine_of s output) ≡ s.stop
stop_of-machine_of s output =
    stop_of-stopped_by s.stop (state_of (record { cpu = s.cpu; image = s.image }) s.count output)

machine_state : (s : State) (output : List ℕ)
    → machine.state_of (machine_of s output) ≡ state_of (record { cpu = s.cpu; image = s.image }) s.count output
machine_state s output =
    state_of-stopped_by s.stop (state_of (record { cpu = s.cpu; image = s.image }) s.count output)

start-count : (program : Program) → (start program).count ≡ 0
unfolding start
start-count program = refl

pub count-at_start : (program : Program) (s : State)
    → machine_of s [] ≡ Running (start program) → s.count ≡ 0
count-at_start program s e =
    ap (λ (m : machine.State). m.count) (sym (machine_state s []) ∙ ap machine.state_of e)
    ∙ start-count program

pub stands-at_start : (program : Program) (input : List ℕ) (s : State) (a : Option (List ℕ))
    → machine_of s [] ≡ Running (start program) → Stands program input s a a 0
stands-at_start program input s a e = record {
  done = [];
  state = e ∙ sym (seq-zero program input) ∙ ap (seq program input) (sym (count-at_start program s e));
  sink = Appends-nil a;
  counted = refl;
}

-- some steps further, before what they put out is handed on
pub advanced : (program : Program) (input : List ℕ) (s t : State) (done empty piece : List ℕ)
    → empty ≡ [] → s.count ≤ t.count
    → machine_of s done ≡ seq program input s.count
    → run program.code input (t.count - s.count) (machine_of s (done ++ empty)) ≡ machine_of t (done ++ piece)
    → machine_of t (done ++ piece) ≡ seq program input t.count
advanced program input s t done empty piece none least here ran =
    let steps : s.count + (t.count - s.count) ≡ t.count = omega arith in
    let before : done ++ empty ≡ done = ap (λ (x : List ℕ). done ++ x) none ∙ append-nil done in
    sym ran
    ∙ ap (λ out. run program.code input (t.count - s.count) (machine_of s out)) before
    ∙ ap (run program.code input (t.count - s.count)) here
    ∙ sym (seq-add program input s.count (t.count - s.count))
    ∙ ap (seq program input) steps

-- the piece has been handed on
pub stands-moved : (program : Program) (input : List ℕ) (s t : State) (a b c : Option (List ℕ))
    (empty piece : List ℕ) (bytes count : ℕ) (stands : Stands program input s a b bytes)
    → empty ≡ [] → s.count ≤ t.count
    → run program.code input (t.count - s.count) (machine_of s (stands.done ++ empty)) ≡ machine_of t (stands.done ++ piece)
    → Appends b c piece → count ≡ length piece → Stands program input t a c (bytes + count)
stands-moved program input s t a b c empty piece bytes count stands none least ran moved now = record {
  done = stands.done ++ piece;
  state = advanced program input s t stands.done empty piece none least stands.state ran;
  sink = Appends-trans a b c stands.done piece stands.sink moved;
  counted = omega (arith, stands.counted, now, length-append stands.done piece);
}

-- what was put out so far is the output of the run so far
pub output-is : (program : Program) (input : List ℕ) (s : State) (output : List ℕ)
    → machine_of s output ≡ seq program input s.count → output ≡ output_of (seq program input s.count)
output-is program input s output here =
    ap (λ (m : machine.State). m.output) (sym (machine_state s output)) ∙ ap output_of here

-- a sink that failed at the piece holds a prefix of what was put out so far
pub broken : (program : Program) (input : List ℕ) (s t : State) (a b c : Option (List ℕ))
    (empty piece : List ℕ) (budget bytes : ℕ) (why : Failed) (stands : Stands program input s a b bytes)
    → empty ≡ [] → s.count ≤ t.count → t.count ≤ budget
    → run program.code input (t.count - s.count) (machine_of s (stands.done ++ empty)) ≡ machine_of t (stands.done ++ piece)
    → AppendsPrefix b c piece
    → HasPassed program input budget t (record { end = Err why; bytes = bytes }) a c
broken program input s t a b c empty piece budget bytes why stands none least low ran part =
    let more : bytes ≤ length (stands.done ++ part.0) = omega (arith, stands.counted, length-append stands.done part.0) in
    record {
      written = stands.done ++ part.0;
      output = stands.done ++ piece;
      writes = Appends-trans a b c stands.done part.0 stands.sink part.2;
      stands = advanced program input s t stands.done empty piece none least stands.state ran;
      within = low;
      over = tt;
      whole = tt;
      part = (IsPrefix-behind stands.done part.0 piece part.1, more);
    }

-- a run that pauses without a full piece is over: it has stopped, or its budget is used up
stopped-over : (program : Program) (input : List ℕ) (t : State) (output : List ℕ) (budget : ℕ)
    (how : Option Stop) → how ≡ t.stop → IsSome how → t.count ≤ budget
    → machine_of t output ≡ seq program input t.count
    → seq program input budget ≡ seq program input t.count
stopped-over program input t output budget how same some low here =
    let stopped : how ≡ stop_of (seq program input t.count) = same ∙ sym (stop_of-machine_of t output) ∙ ap stop_of here in
    seq-stays program input t.count budget low (subst (λ h. IsSome h) stopped some)

full-or-took : (b : Bool)
    → answer_of (if b then Some paused.Full else None) ≡ paused.Stopped → ⊥
full-or-took true e = cc
full-or-took false e = cc

has-stopped : (how : Option Stop) (piece : List ℕ)
    → answer_of (pause_of how piece) ≡ paused.Stopped → IsSome how
has-stopped None piece e = absurd (full-or-took (length piece == PIECE_BYTES) e)
has-stopped (Some how) piece e = refl

pub over : (program : Program) (input : List ℕ) (t : State) (output piece : List ℕ)
    (budget n from : ℕ) (answer : Paused)
    → machine_of t output ≡ seq program input t.count
    → answer ≡ answer_of (pause_of t.stop piece)
    → (answer ≡ paused.Full → ⊥)
    → (answer ≡ paused.Took → t.count ≡ from + n) → from + n ≡ budget → t.count ≤ budget
    → seq program input budget ≡ seq program input t.count
over program input t output piece budget n from paused.Took here is full took whole low =
    let e : budget ≡ t.count = omega (arith, took refl) in ap (seq program input) e
over program input t output piece budget n from paused.Full here is full took whole low = absurd (full refl)
over program input t output piece budget n from paused.Stopped here is full took whole low =
    stopped-over program input t output budget t.stop refl (has-stopped t.stop piece (sym is)) low here

-- and then all that was put out is in the sink
pub finished : (program : Program) (input : List ℕ) (s t : State) (a b c : Option (List ℕ))
    (empty piece : List ℕ) (budget bytes count : ℕ) (stands : Stands program input s a b bytes)
    → empty ≡ [] → s.count ≤ t.count → t.count ≤ budget
    → run program.code input (t.count - s.count) (machine_of s (stands.done ++ empty)) ≡ machine_of t (stands.done ++ piece)
    → seq program input budget ≡ seq program input t.count → Appends b c piece
    → count ≡ length piece
    → HasPassed program input budget t (record { end = Ok tt; bytes = bytes + count }) a c
finished program input s t a b c empty piece budget bytes count stands none least low ran over moved now =
    let all : bytes + count ≡ length (stands.done ++ piece) = omega (arith, stands.counted, now, length-append stands.done piece) in
    record {
      written = stands.done ++ piece;
      output = stands.done ++ piece;
      writes = Appends-trans a b c stands.done piece stands.sink moved;
      stands = advanced program input s t stands.done empty piece none least stands.state ran;
      within = low;
      over = over;
      whole = (refl, all);
      part = tt;
    }

-- the steps that are told are those of the machine
pub counted : (program : Program) (input : List ℕ) (s : State) (output : List ℕ)
    → machine_of s output ≡ seq program input s.count
    → s.count ≡ (machine.state_of (seq program input s.count)).count
counted program input s output here =
    ap (λ (m : machine.State). m.count) (sym (machine_state s output) ∙ ap machine.state_of here)
