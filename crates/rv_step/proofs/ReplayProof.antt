-- The replay law, by induction on the steps.
use Rattle.std.proofs.Common.{◌≡◌, ℕ, zero, suc, ◌+◌, ◌-◌, ◌<◌, ◌≤◌, List, [], ◌∷◌, ◌++◌, length, refl, sym, ap, ◌∙◌, subst, arith, append_assoc, None, Bool, true, false}
use Rattle.std.specs.Prelude.{◌||◌, ◌&&◌, not, if◌then◌else◌}
use Rattle.std.proofs.lemmas.Grind.{common_steps}
use Rattle.std.proofs.lemmas.List.{append_cancel_left}
use Rattle.access_log.specs.declared.spot.Spot.{Spot}
use Rattle.access_log.specs.Things.{is_shared, touched, first_after, wrote_after}
use Rattle.access_log.proofs.BoolLemmas.{by_cases}
use Rattle.rv_code.specs.State.{State, Machine, Running, Stopped, state_of, stop_of, output_of}
use Rattle.rv_code.specs.Step.{step}
use Rattle.rv_code.specs.SequentialRun.{run}
use Rattle.rv_step.specs.Footprint.{content, step_reads, step_writes}
use Rattle.rv_step.specs.RunThings.{wrote, first}
use Rattle.rv_step.specs.Replay.{Agree, IsMerge, NoneStopped, SameThings, Replays, ReplayLaw}
use Rattle.rv_step.proofs.SpotContents.{among, Alike, Changes, or-left, or-right}
use Rattle.rv_step.proofs.EffectLemmas.{SameShape}
use Rattle.rv_step.proofs.StepTwins.{put_by_step, step-changes, step-twins, Twins}
use Rattle.rv_step.proofs.TouchLemmas.{or-true-right, or-rest, alike-at, alike-all, not-among, then-shared}

more-output : (xs ys zs more : List ℕ) → xs ≡ ys ++ zs → xs ++ more ≡ ys ++ (zs ++ more)
more-output xs ys zs more h = ap (λ l. l ++ more) h ∙ append_assoc ys zs more

mid : (a b c : Bool) → b ≡ true → a || b || c ≡ true
mid true true c h = refl
mid true false c h = absurd (cc)
mid false true c h = refl
mid false false c h = absurd (cc)

last : (a b c : Bool) → c ≡ true → a || b || c ≡ true
last true true true h = refl
last true false true h = refl
last false true true h = refl
last false false true h = refl
last a b false h = absurd (cc)

head : (a b c : Bool) → a ≡ true → a || b || c ≡ true
head true true c h = refl
head true false c h = refl
head false b c h = absurd (cc)

and-not : (a b : Bool) → a ≡ true → b ≡ false → a && not b ≡ true
and-not true false h g = refl
and-not true true h g = absurd (cc)
and-not false b h g = absurd (cc)

and-both : (a b : Bool) → a ≡ true → b ≡ true → a && b ≡ true
and-both true true h g = refl
and-both true false h g = absurd (cc)
and-both false b h g = absurd (cc)

module _ (shared : ℕ → Bool) where
  -- two runs side by side, of which these things were written: the written are equal in both, and
  -- the others are as at the start, in each
  pub record Together (start t : State) (written : Spot → Bool) (k : ℕ) (m n : Machine) : Type 0 where
    pub pc : (state_of m).pc ≡ (state_of n).pc
    pub stop : stop_of m ≡ stop_of n
    pub count : (state_of n).count ≡ t.count + k
    pub output : (more : List ℕ) × (output_of m ≡ start.output ++ more) × (output_of n ≡ t.output ++ more)
    pub new : (x : Spot) → written x ≡ true → content (state_of m) x ≡ content (state_of n) x
    pub old_start : (x : Spot) → written x ≡ false → content (state_of m) x ≡ content start x
    pub old_t : (x : Spot) → written x ≡ false → content (state_of n) x ≡ content t x
    pub registers_start : length (state_of m).registers ≡ length start.registers
    pub registers_t : length (state_of n).registers ≡ length t.registers
    pub memory_start : length (state_of m).memory ≡ length start.memory
    pub memory_t : length (state_of n).memory ≡ length t.memory

  -- what the next step of the first run reads or touches is among the first things
  pub record FirstHas (code : List ℕ) (m : Machine) (written things : Spot → Bool) : Type 0 where
    pub read : (x : Spot) → touched shared x (step_reads code m) ≡ true → written x ≡ false → things x ≡ true
    pub page : (x : Spot) → is_shared shared x ≡ true → touched shared x (step_writes code m) ≡ true → things x ≡ true

  -- the next steps are twins
  next-twins : (code input : List ℕ) (start t a u : State) (written things : Spot → Bool) (k : ℕ)
      → Agree start t things → FirstHas code (Running a) written things
      → Together start t written k (Running a) (Running u)
      → Twins (step_reads code (Running a)) (step_reads code (Running u)) (step_writes code (Running a)) (step_writes code (Running u)) (put_by_step code a) (put_by_step code u) (step code input (Running a)) (step code input (Running u))
  next-twins code input start t a u written things k agree has h =
      let shape : SameShape a u = record { pc = h.pc; registers = h.registers_start ∙ agree.registers ∙ sym h.registers_t; memory = h.memory_start ∙ agree.memory ∙ sym h.memory_t } in
      let alike : Alike a u (step_reads code (Running a)) =
      alike-all shared a u (step_reads code (Running a)) (λ x e. by_cases (written x)
      (λ q. h.new x q)
      (λ q. h.old_start x q ∙ agree.at x (has.read x e q) ∙ sym (h.old_t x q))) in
      step-twins code input a u shape alike

  -- one step more
  together-more : (code input : List ℕ) (start t a u : State) (written things : Spot → Bool) (k : ℕ)
      → Agree start t things → FirstHas code (Running a) written things
      → Together start t written k (Running a) (Running u)
      → Together start t (wrote_after shared written (step_writes code (Running a))) (suc k) (step code input (Running a)) (step code input (Running u))
  together-more code input start t a u written things k agree has h =
      let twins = next-twins code input start t a u written things k agree has h in
      let from-first = λ (x : Spot) (q : written x ≡ false) (r : things x ≡ true). h.old_start x q ∙ agree.at x r ∙ sym (h.old_t x q) in
      let ws = step_writes code (Running a) in
      let ma = step-changes code input a in
      let mu = subst (λ (ws : List Spot). Changes u (put_by_step code u) ws (step code input (Running u))) (sym twins.writes) (step-changes code input u) in
      let apart = λ (x : Spot) (e : among x ws ≡ false) (q : content a x ≡ content u x). ma.outside x e ∙ q ∙ sym (mu.outside x e) in
      record {
        pc = twins.equal.pc;
        stop = twins.equal.stop;
        count = mu.count ∙ ap (λ c. c + 1) h.count ∙ (omega arith);
        output = (
          h.output.0 ++ put_by_step code a,
          ma.output ∙ more-output a.output start.output h.output.0 (put_by_step code a) h.output.1,
          mu.output ∙ ap (λ p. u.output ++ p) (sym twins.output) ∙ more-output u.output t.output h.output.0 (put_by_step code a) h.output.2,
        );
        new = λ x e. by_cases {P = content (state_of (step code input (Running a))) x ≡ content (state_of (step code input (Running u))) x} (among x ws)
            (λ q. alike-at (state_of (step code input (Running a))) (state_of (step code input (Running u))) ws twins.equal.alike x q)
            (λ q. apart x q (by_cases (written x)
            (λ r. h.new x r)
            (λ r. from-first x r (has.page x (then-shared shared x ws (or-rest (written x) (touched shared x ws) e r) q) (or-rest (written x) (touched shared x ws) e r)))));
        old_start = λ x e. ma.outside x (not-among shared x ws (or-right (written x) (touched shared x ws) e)) ∙ h.old_start x (or-left (written x) (touched shared x ws) e);
        old_t = λ x e. mu.outside x (not-among shared x ws (or-right (written x) (touched shared x ws) e)) ∙ h.old_t x (or-left (written x) (touched shared x ws) e);
        registers_start = ma.registers ∙ h.registers_start;
        registers_t = mu.registers ∙ h.registers_t;
        memory_start = ma.memory ∙ h.memory_start;
        memory_t = mu.memory ∙ h.memory_t;
      }

  -- the same of machines, the first of which runs: then the second does too
  record NextTogether (code input : List ℕ) (start t : State) (written : Spot → Bool) (k : ℕ) (m n : Machine) : Type 0 where
    more : Together start t (wrote_after shared written (step_writes code m)) (suc k) (step code input m) (step code input n)
    reads : step_reads code m ≡ step_reads code n
    writes : step_writes code m ≡ step_writes code n

  next : (code input : List ℕ) (start t : State) (m n : Machine) (written things : Spot → Bool) (k : ℕ)
      → Agree start t things → FirstHas code m written things → stop_of m ≡ None
      → Together start t written k m n → NextTogether code input start t written k m n
  next code input start t (Running a) (Running u) written things k agree has running h =
      let twins = next-twins code input start t a u written things k agree has h in
      record { more = together-more code input start t a u written things k agree has h; reads = twins.reads; writes = twins.writes }
  next code input start t (Running a) (Stopped u how) written things k agree has running h = absurd (cc (h.stop))
  next code input start t (Stopped a how) n written things k agree has running h = absurd (cc)

  module _ (code input : List ℕ) (m : Machine) where
    first-read : (k : ℕ) (x : Spot) → touched shared x (step_reads code (run code input k m)) ≡ true
        → wrote shared code input m k x ≡ false → first shared code input m (suc k) x ≡ true
    unfolding first
    first-read k x h g = mid _ _ _ (and-not _ _ h g)

    first-page : (k : ℕ) (x : Spot) → is_shared shared x ≡ true
        → touched shared x (step_writes code (run code input k m)) ≡ true
        → first shared code input m (suc k) x ≡ true
    unfolding first
    first-page k x h g = last (first shared code input m k x) (touched shared x (step_reads code (run code input k m)) && not (wrote shared code input m k x)) _ (and-both _ _ h (or-true-right (touched shared x (step_reads code (run code input k m))) _ g))

    first-once : (k : ℕ) (x : Spot) → first shared code input m k x ≡ true
        → first shared code input m (suc k) x ≡ true
    unfolding first
    first-once k x h = head _ _ _ h

    first-later : (j k : ℕ) (x : Spot) → first shared code input m k x ≡ true
        → first shared code input m (k + j) x ≡ true
    first-later zero k x h = let e : k ≡ k + 0 = omega arith in subst (λ (n : ℕ). first shared code input m n x ≡ true) e h
    first-later (suc j) k x h =
        let e : suc (k + j) ≡ k + suc j = omega arith in
        subst (λ (n : ℕ). first shared code input m n x ≡ true) e (first-once (k + j) x (first-later j k x h))

    first-by : (k steps : ℕ) (x : Spot) → k < steps → first shared code input m (suc k) x ≡ true
        → first shared code input m steps x ≡ true
    first-by k steps x h g =
        let e : suc k + (steps - suc k) ≡ steps = omega arith in
        subst (λ (n : ℕ). first shared code input m n x ≡ true) e (first-later (steps - suc k) (suc k) x g)

    first-has : (k steps : ℕ) → k < steps
        → FirstHas code (run code input k m) (wrote shared code input m k) (first shared code input m steps)
    first-has k steps h = record {
      read = λ x e q. first-by k steps x h (first-read k x e q);
      page = λ x e q. first-by k steps x h (first-page k x e q);
    }

  module _ (code input : List ℕ) (start t : State) (steps : ℕ)
      (going : NoneStopped code input (Running start) steps)
      (agree : Agree start t (first shared code input (Running start) steps)) where
    together : (k : ℕ) → k ≤ steps
        → Together start t (wrote shared code input (Running start) k) k (run code input k (Running start)) (run code input k (Running t))
    unfolding run wrote
    together zero h = record {
      pc = agree.pc;
      stop = refl;
      count = (omega arith);
      output = ([], grind (arith, common_steps), grind (arith, common_steps));
      new = λ x e. absurd (cc);
      old_start = λ x e. refl;
      old_t = λ x e. refl;
      registers_start = refl;
      registers_t = refl;
      memory_start = refl;
      memory_t = refl;
    }
    together (suc k) h =
        (next code input start t (run code input k (Running start)) (run code input k (Running t))
        (wrote shared code input (Running start) k) (first shared code input (Running start) steps) k agree
        (first-has code input (Running start) k steps (omega arith)) (going k (omega arith)) (together k (omega arith))).more

    following : (k : ℕ) → k < steps
        → NextTogether code input start t (wrote shared code input (Running start) k) k (run code input k (Running start)) (run code input k (Running t))
    following k h =
        next code input start t (run code input k (Running start)) (run code input k (Running t))
        (wrote shared code input (Running start) k) (first shared code input (Running start) steps) k agree
        (first-has code input (Running start) k steps h) (going k h) (together k (omega arith))

    same-wrote : (k : ℕ) → k ≤ steps → (x : Spot)
        → wrote shared code input (Running start) k x ≡ wrote shared code input (Running t) k x
    unfolding wrote
    same-wrote zero h x = refl
    same-wrote (suc k) h x =
        ap (λ w. w || touched shared x (step_writes code (run code input k (Running start)))) (same-wrote k (omega arith) x)
        ∙ ap (λ ws. wrote shared code input (Running t) k x || touched shared x ws) (following k (omega arith)).writes

    same-first : (k : ℕ) → k ≤ steps → (x : Spot)
        → first shared code input (Running start) k x ≡ first shared code input (Running t) k x
    unfolding first
    same-first zero h x = refl
    same-first (suc k) h x =
        let rs = step_reads code (run code input k (Running start)) in
        let ws = step_writes code (run code input k (Running start)) in
        let line = λ (f w : Bool) (rs ws : List Spot). f || (touched shared x rs && not w) || (is_shared shared x && (touched shared x rs || touched shared x ws)) in
        ap (λ f. line f (wrote shared code input (Running start) k x) rs ws) (same-first k (omega arith) x)
        ∙ ap (λ w. line (first shared code input (Running t) k x) w rs ws) (same-wrote k (omega arith) x)
        ∙ ap (λ rs. line (first shared code input (Running t) k x) (wrote shared code input (Running t) k x) rs ws) (following k (omega arith)).reads
        ∙ ap (λ ws. line (first shared code input (Running t) k x) (wrote shared code input (Running t) k x) (step_reads code (run code input k (Running t))) ws) (following k (omega arith)).writes

pub replay : ReplayLaw
replay shared code input start t steps more going agree puts =
    let at = λ (k : ℕ) (most : k ≤ steps). together shared code input start t steps going agree k most in
    let h = at steps (omega arith) in
    let same-output : h.output.0 ≡ more = append_cancel_left start.output h.output.0 more (sym h.output.1 ∙ puts) in
    let end = run code input steps (Running start) in
    let m = run code input steps (Running t) in
    let written = wrote shared code input (Running start) steps in
    record {
      merge = record {
        pc = sym h.pc;
        stop = sym h.stop;
        count = h.count;
        output = h.output.2 ∙ ap (λ l. t.output ++ l) same-output;
        registers = h.registers_t;
        memory = h.memory_t;
        at = λ x. by_cases {P = content (state_of m) x ≡ (if written x then content (state_of end) x else content t x)} (written x)
            (λ e. sym (h.new x e) ∙ sym (ap (λ b. if b then content (state_of end) x else content t x) e))
            (λ e. h.old_t x e ∙ sym (ap (λ b. if b then content (state_of end) x else content t x) e));
      };
      going = λ j less. sym (at j (omega (arith, less))).stop ∙ going j less;
      things = record {
        first_same = same-first shared code input start t steps going agree steps (omega arith);
        wrote_same = same-wrote shared code input start t steps going agree steps (omega arith);
      };
    }
