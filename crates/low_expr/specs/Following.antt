-- What it is that code follows a meaning: where the meaning comes to an end with some steps, the
-- machine comes to the same, by at least one instruction a step and at most 256.
use Rattle.std.specs.Prelude.{◌≡◌, ℕ, ◌+◌, ◌*◌, ◌<◌, ◌≤◌, List, length, Option, Some}
use Rattle.rv_code.specs.declared.stop.Stop.TheVariants as stop
use Rattle.rv_code.specs.State.{State, Running, Stopped, register}
use Rattle.rv_code.specs.Step.{address_of}
use Rattle.rv_code.specs.SequentialRun.{run}
use Rattle.c_semantics.specs.Names.{Definition}
use Rattle.c_semantics.specs.Eval.{Calls}
use Rattle.c_semantics.specs.Run.{Store, Ended, Goes, StackFull, More, Undef}
use Rattle.low_expr.specs.Registers.{ra, a0}
use Rattle.low_expr.specs.Agreement.{Agrees, Framed, Keeps, Passed, Returned}

-- How many instructions a part may take beside the 256 of each of its steps: it leaves so many
-- unused where it comes to its end (slack) and at other ends (over), and may take so many more
-- (credit).
pub record Terms : Type 0 where
  pub slack : ℕ
  pub over : ℕ
  pub credit : ℕ

-- an expression leaves 32 instructions of its last step, for what comes before the next step
abbrev pub for_expression : Terms
for_expression = record { slack = 32; over = 0; credit = 0 }

-- after arguments no step was counted yet
abbrev pub for_arguments : Terms
for_arguments = record { slack = 0; over = 0; credit = 0 }

-- a function leaves what its caller needs to call it and to keep its value
abbrev pub for_function : Terms
for_function = record { slack = 64; over = 64; credit = 0 }

module _ (code input : List ℕ) where
  -- from a running state, after some instructions, another one
  pub record Comes (j : ℕ) (s s' : State) : Type 0 where
    pub is : run code input j (Running s) ≡ Running s'

  -- A part has come to its end: from a store with n steps left to another with n' left, and from a
  -- state by j instructions to another. It used the slots from one on to before another.
  pub record Landed (t : Terms) (store : Store) (from to n end : ℕ) (s : State) (store' : Store)
      (n' j : ℕ) (s' : State) : Type 0 where
    pub comes : Comes j s s'
    pub pc : s'.pc ≡ address_of end
    pub agrees : Agrees store' s'
    pub same_sp : store'.sp ≡ store.sp
    pub same_live : store'.live ≡ store.live
    pub keeps : Keeps store from to s.memory s'.memory
    pub least : n ≤ j + n'
    pub most : j + 256 * n' + t.slack ≤ 256 * n + t.credit

  -- Where the meaning gives a value, the machine comes to the end of that value, with what is said
  -- of it. Where the stack has no room, the machine stops for that reason. Where no step is left,
  -- it still runs, with the same output. Of what comes after an undefined act nothing is said.
  abbrev pub Ends : {A : Type 0} → Terms → Store → (from to n : ℕ) → (A → ℕ) → State
      → (A → State → Type 0) → Ended A → Type 0
  Ends t store from to n ends s Value (Goes v store' n') =
      (j : ℕ) × (s' : State) × Landed t store from to n (ends v) s store' n' j s' × Value v s'
  Ends t store from to n ends s Value (StackFull output) =
      (j : ℕ) × (s' : State) × (j + t.over ≤ 256 * n + t.credit)
      × (run code input j (Running s) ≡ Stopped s' stop.StackFull) × (s'.output ≡ output)
  Ends t store from to n ends s Value (More output) =
      (j : ℕ) × (s' : State) × (n ≤ j) × (j + t.over ≤ 256 * n + t.credit) × Comes j s s'
      × (s'.output ≡ output)
  Ends t store from to n ends s Value (Undef output act at) = Unit {0}

  pub record Follows {A : Type 0} (t : Terms) (store : Store) (from to n : ℕ) (ends : A → ℕ)
      (s : State) (Value : A → State → Type 0) (e : Ended A) : Type 0 where
    pub by : Ends t store from to n ends s Value e

  -- The code at the label of each function follows its calls that begin with fewer steps than a
  -- bound, wherever the call comes from; the step of the call itself is among the n + 1.
  pub record CallsFollow (labels : ℕ → ℕ) (functions : List ℕ → ℕ)
      (defined : List ℕ → Option Definition) (calls : Calls) (bound : ℕ) : Type 0 where
    pub at : (name : List ℕ) (d : Definition) (vs : List ℕ) (store : Store) (n back : ℕ) (s : State)
        → n < bound → defined name ≡ Some d → length vs ≡ length d.function.parameters
        → length vs ≤ 8 → back < length code → s.pc ≡ address_of (labels (functions name))
        → register s.registers ra ≡ address_of back → Passed a0 vs s → Agrees store s
        → Framed store.sp 0 store
        → Follows for_function store 0 0 (n + 1) (λ v. back) s Returned (calls d vs store n)
