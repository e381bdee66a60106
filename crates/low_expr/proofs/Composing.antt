-- Parts of a run one after the other.
use Rattle.std.proofs.Common.{◌≡◌, ℕ, zero, suc, ◌+◌, ◌*◌, ◌<◌, ◌≤◌, List, refl, sym, ap, ◌∙◌, subst, arith, ⊎_elim, inl, inr}
use Rattle.std.specs.List.{list_any}
use Rattle.bop_bits.specs.MemoryNumbers.{byte_at}
use Rattle.rv_code.specs.declared.stop.Stop.TheVariants as stop
use Rattle.rv_code.specs.State.{State, Stopped}
use Rattle.rv_code.specs.Step.{address_of}
use Rattle.c_semantics.specs.Memory.{holds}
use Rattle.c_semantics.specs.Run.{Store, Run, Ended, Goes, StackFull, More, Undef, then_run, count, pure}
use Rattle.low_expr.specs.Agreement.{AreInside, Agrees, Framed, Lives, Keeps}
use Rattle.low_expr.specs.Following.{Terms, Comes, Landed, Follows}
use Rattle.low_expr.proofs.PlainCode.{then_comes, then_run_is, stays}

pub lives_too : (store store' : Store) → store'.live ≡ store.live → (at : ℕ) → Lives store' at
    → Lives store at
lives_too store store' e at h = ap (λ l. list_any (holds at 1) l) (sym e) ∙ h

-- what is kept where more bytes may change
pub wider : (store : Store) (from to from' to' : ℕ) (a b : List ℕ) → from' ≤ from → to ≤ to'
    → Keeps store from to a b → Keeps store from' to' a b
wider store from to from' to' a b l h k = record {
  by = λ at ge dead off.
      k.by at ge dead (⊎_elim (λ x. inl (omega arith)) (λ x. inr (omega arith)) off);
}

-- what two parts keep that follow each other
pub then_keeps : (store store' : Store) (from to from' to' : ℕ) (a b c : List ℕ)
    → store'.sp ≡ store.sp → store'.live ≡ store.live → from ≤ from' → to' ≤ to
    → Keeps store from to a b → Keeps store' from' to' b c → Keeps store from to a c
then_keeps store store' from to from' to' a b c sp live le ge k l = record {
  by = λ at high dead off.
      l.by at (omega arith) (λ h. dead (lives_too store store' live at h))
      (⊎_elim (λ h. inl (omega arith)) (λ h. inr (omega arith)) off)
      ∙ k.by at high dead off;
}

-- after a part the frame is still the frame
pub framed_then : (frame slots : ℕ) (store store1 : Store) → store1.sp ≡ store.sp
    → store1.live ≡ store.live → Framed frame slots store → Framed frame slots store1
framed_then frame slots store store1 same live f = record {
  is = same ∙ f.is;
  aligned = f.aligned;
  above = f.above;
  within = f.within;
  apart = λ at ge lt lives. f.apart at ge lt (lives_too store store1 live at lives);
  inside = subst AreInside (sym live) f.inside;
}

-- What a part leaves to the next one: with so many instructions of its steps unused (gain), or so
-- many beside them used (loan).
pub record Leads (gain loan : ℕ) (code input : List ℕ) (store : Store) (from to n : ℕ) (s : State)
    (store' : Store) (n' j : ℕ) (s' : State) : Type 0 where
  pub comes : Comes code input j s s'
  pub same_sp : store'.sp ≡ store.sp
  pub same_live : store'.live ≡ store.live
  pub keeps : Keeps store from to s.memory s'.memory
  pub least : n ≤ j + n'
  pub most : j + 256 * n' + gain ≤ 256 * n + loan

-- what the next part has to keep to
pub record Allows (gain loan : ℕ) (u t : Terms) : Type 0 where
  pub slack : t.slack + loan + u.credit ≤ gain + u.slack + t.credit
  pub over : t.over + loan + u.credit ≤ gain + u.over + t.credit

-- the next part
pub after_leads : {A : Type 0} {gain loan : ℕ} {u t : Terms} {code input : List ℕ}
    {store store1 : Store} {from to from1 to1 n n1 j1 : ℕ} {ends : A → ℕ} {s s1 : State}
    {V : A → State → Type 0} (r : Ended A) → Allows gain loan u t → from ≤ from1 → to1 ≤ to
    → Leads gain loan code input store from to n s store1 n1 j1 s1
    → Follows code input u store1 from1 to1 n1 ends s1 V r
    → Follows code input t store from to n ends s V r
after_leads {code = code} {input = input} {store = store} {store1 = store1} {from = from} {to = to}
    {from1 = from1} {to1 = to1} {j1 = j1} {s = s} {s1 = s1} (Goes v store2 n2) p le ge l f =
    let g = f.by in
    let m = g.2 in
    record {
      by = (
        j1 + g.0,
        g.1,
        record {
          comes = then_comes code input j1 g.0 s s1 g.1 l.comes m.comes;
          pc = m.pc;
          agrees = m.agrees;
          same_sp = m.same_sp ∙ l.same_sp;
          same_live = m.same_live ∙ l.same_live;
          keeps = then_keeps store store1 from to from1 to1 s.memory s1.memory g.1.memory l.same_sp
              l.same_live le ge l.keeps m.keeps;
          least = omega (arith, l.least, m.least);
          most = omega (arith, l.most, m.most, p.slack);
        },
        g.3,
      );
    }
after_leads {code = code} {input = input} {j1 = j1} {s = s} {s1 = s1}
    (StackFull output) p le ge l f =
    let g = f.by in
    record {
      by = (
        j1 + g.0,
        g.1,
        omega (arith, l.most, g.2, p.over),
        then_run_is code input j1 g.0 s s1 (Stopped g.1 stop.StackFull) l.comes g.3,
        g.4,
      );
    }
after_leads {code = code} {input = input} {j1 = j1} {s = s} {s1 = s1} (More output) p le ge l f =
    let g = f.by in
    record {
      by = (
        j1 + g.0,
        g.1,
        omega (arith, l.least, g.2),
        omega (arith, l.most, g.3, p.over),
        then_comes code input j1 g.0 s s1 g.1 l.comes g.4,
        g.5,
      );
    }
after_leads (Undef output act at) p le ge l f = record { by = tt }

-- a part that has landed leads on, also by a few instructions more that write no memory
pub landed_leads : (t : Terms) (code input : List ℕ) (store : Store) (from from0 to to0 n end : ℕ)
    (s : State) (store' : Store) (n' j : ℕ) (s' : State) → from ≤ from0 → to0 ≤ to
    → Landed code input t store from0 to0 n end s store' n' j s' → (k : ℕ) (s2 : State)
    → Comes code input k s' s2 → s2.memory ≡ s'.memory
    → Leads t.slack (t.credit + k) code input store from to n s store' n' (j + k) s2
landed_leads t code input store from from0 to to0 n end s store' n' j s' le ge l k s2 c m = record {
  comes = then_comes code input j k s s' s2 l.comes c;
  same_sp = l.same_sp;
  same_live = l.same_live;
  keeps = subst (λ memory. Keeps store from to s.memory memory) (sym m)
      (wider store from0 to0 from to s.memory s'.memory le ge l.keeps);
  least = omega (arith, l.least);
  most = omega (arith, l.most);
}

-- What comes after a value: a few instructions that write no memory, and then a part by its terms.
abbrev pub Continues : {B : Type 0} → (p u t : Terms) → (code input : List ℕ) → Store
    → (from to n : ℕ)
    → (B → ℕ) → State → (B → State → Type 0) → Ended B → Type 0
Continues p u t code input store1 from to n1 ends s1 W r =
    (k : ℕ) × (s2 : State) × Allows p.slack (p.credit + k) u t × Comes code input k s1 s2
    × (s2.memory ≡ s1.memory) × Follows code input u store1 from to n1 ends s2 W r

-- A part by the terms p, and what is done with its value by the terms u, are together a part by the
-- terms t.
pub then_part : {A B : Type 0} (p u t : Terms) (code input : List ℕ) (store : Store)
    (from from0 from1 to to0 to1 n : ℕ) (mids : A → ℕ) (ends : B → ℕ) (s : State)
    (V : A → State → Type 0) (W : B → State → Type 0) (r : Ended A) (f : A → Run B) → from ≤ from0
    → to0 ≤ to → from ≤ from1 → to1 ≤ to → p.credit + t.over ≤ t.credit + p.over
    → Follows code input p store from0 to0 n mids s V r
    → ((v : A) (store1 : Store) (n1 j1 : ℕ) (s1 : State)
    → Landed code input p store from0 to0 n (mids v) s store1 n1 j1 s1 → V v s1
    → Continues p u t code input store1 from1 to1 n1 ends s1 W (f v store1 n1))
    → Follows code input t store from to n ends s W (then_run r f)
then_part p u t code input store from from0 from1 to to0 to1 n mids ends s V W
    (Goes v store1 n1) f le0 ge0 le ge over a b =
    let g = a.by in
    let c = b v store1 n1 g.0 g.1 g.2 g.3 in
    after_leads (f v store1 n1) c.2 le ge
    (landed_leads p code input store from from0 to to0 n
    (mids v) s store1 n1 g.0 g.1 le0 ge0 g.2 c.0 c.1 c.3 c.4) c.5
then_part p u t code input store from from0 from1 to to0 to1 n mids ends s V W
    (StackFull output) f le0 ge0 le ge over a b =
    let g = a.by in
    record { by = (g.0, g.1, omega (arith, g.2), g.3, g.4) }
then_part p u t code input store from from0 from1 to to0 to1 n mids ends s V W
    (More output) f le0 ge0 le ge over a b =
    let g = a.by in
    record { by = (g.0, g.1, g.2, omega (arith, g.3), g.4, g.5) }
then_part p u t code input store from from0 from1 to to0 to1 n mids ends s V W
    (Undef output act at) f le0 ge0 le ge over a b = record { by = tt }

-- the same with slots up to one bound and one kind of terms after
pub then_few : {A B : Type 0} (t u : Terms) (code input : List ℕ) (store : Store)
    (from from0 to from1 n : ℕ) (mids : A → ℕ) (ends : B → ℕ) (s : State) (V : A → State → Type 0)
    (W : B → State → Type 0) (r : Ended A) (f : A → Run B) → from ≤ from0 → from ≤ from1
    → t.credit + u.over ≤ u.credit + t.over → Follows code input t store from0 to n mids s V r
    → ((v : A) (store1 : Store) (n1 j1 : ℕ) (s1 : State)
    → Landed code input t store from0 to n (mids v) s store1 n1 j1 s1 → V v s1
    → (k : ℕ) × (s2 : State) × (k + t.credit ≤ t.slack) × Comes code input k s1 s2
    × (s2.memory ≡ s1.memory) × Follows code input u store1 from1 to n1 ends s2 W (f v store1 n1))
    → Follows code input u store from to n ends s W (then_run r f)
then_few t u code input store from from0 to from1 n mids ends s V W r f le0 le over a b =
    then_part t u u code input store from from0 from1 to to to n mids ends s V W r f le0
    (omega arith) le (omega arith) over a
    (λ v store1 n1 j1 s1 l w.
    let c = b v store1 n1 j1 s1 l w in
    let few = c.2 in
    (c.0, c.1, record { slack = omega arith; over = omega arith }, c.3, c.4, c.5))

pub then_follows : {A B : Type 0} (t u : Terms) (code input : List ℕ) (store : Store)
    (from from0 to from1 n : ℕ) (mids : A → ℕ) (ends : B → ℕ) (s : State) (V : A → State → Type 0)
    (W : B → State → Type 0) (r : Ended A) (f : A → Run B) → from ≤ from0 → from ≤ from1
    → t.credit + u.over ≤ u.credit + t.over → t.credit ≤ t.slack
    → Follows code input t store from0 to n mids s V r
    → ((v : A) (store1 : Store) (n1 j1 : ℕ) (s1 : State)
    → Landed code input t store from0 to n (mids v) s store1 n1 j1 s1 → V v s1
    → Follows code input u store1 from1 to n1 ends s1 W (f v store1 n1))
    → Follows code input u store from to n ends s W (then_run r f)
then_follows t u code input store from from0 to from1 n mids ends s V W r f le0 le over few a b =
    then_few t u code input store from from0 to from1 n mids ends s V W r f le0 le over a
    (λ v store1 n1 j1 s1 l w.
    (0, s1, omega arith, stays code input s1, refl, b v store1 n1 j1 s1 l w))

-- a counted step, and what follows it
pub then_count : {B : Type 0} {u : Terms} {code input : List ℕ} {store : Store} {from to n : ℕ}
    {ends : B → ℕ} {s : State} {W : B → State → Type 0} (f : Unit {0} → Run B)
    → u.over ≤ u.credit → s.output ≡ store.output
    → ((n1 : ℕ) → n ≡ suc n1 → Follows code input u store from to n ends s W (f tt store n1))
    → Follows code input u store from to n ends s W (then_run (count store n) f)
then_count {code = code} {input = input} {n = zero} {s = s} f over out b =
    record { by = (0, s, omega arith, omega arith, stays code input s, out) }
then_count {n = suc n} f over out b = b n refl

-- a node's own instructions, which may write the store
pub own : {A : Type 0} {t : Terms} {code input : List ℕ} {store store1 : Store} {from to n n1 : ℕ}
    {ends : A → ℕ} {s : State} {W : A → State → Type 0} (v : A) (k : ℕ) (s2 : State) → n ≡ suc n1
    → 0 < k → k + t.slack ≤ 256 → Comes code input k s s2 → s2.pc ≡ address_of (ends v)
    → Agrees store1 s2 → store1.sp ≡ store.sp → store1.live ≡ store.live
    → Keeps store from to s.memory s2.memory → W v s2
    → Follows code input t store from to n ends s W (Goes v store1 n1)
own v k s2 e pos small comes pc agrees same live keeps w =
    record {
      by = (
        k,
        s2,
        record {
          comes = comes;
          pc = pc;
          agrees = agrees;
          same_sp = same;
          same_live = live;
          keeps = keeps;
          least = omega arith;
          most = omega arith;
        },
        w,
      );
    }

-- a few instructions before, that write no memory
pub few_before : {A : Type 0} {t t' : Terms} {code input : List ℕ} {store : Store} {from to n : ℕ}
    {ends : A → ℕ} {s s1 : State} {V : A → State → Type 0} (r : Ended A) (k : ℕ)
    → k + t'.slack + t.credit ≤ t.slack + t'.credit → k + t'.over + t.credit ≤ t.over + t'.credit
    → Comes code input k s s1 → s1.memory ≡ s.memory
    → Follows code input t store from to n ends s1 V r
    → Follows code input t' store from to n ends s V r
few_before {code = code} {input = input} {store = store} {from = from} {to = to} {n = n} {s = s}
    {s1 = s1} r k slack over c m f =
    after_leads r (record { slack = omega arith; over = omega arith }) (omega arith)
    (omega arith) leads f
  where
    leads : Leads 0 k code input store from to n s store n k s1
    leads = record {
      comes = c;
      same_sp = refl;
      same_live = refl;
      keeps = record { by = λ at ge dead off. ap (λ l. byte_at l at) m };
      least = omega arith;
      most = omega arith;
    }

-- a few instructions after a value, which may write slots
pub few_after : {A B : Type 0} {t t' : Terms} {code input : List ℕ} {store : Store}
    {from to n : ℕ} {mids : A → ℕ} {ends : B → ℕ} {s : State} {V : A → State → Type 0}
    {W : B → State → Type 0} (r : Ended A) (g : A → B) → t.credit + t'.over ≤ t'.credit + t.over
    → Follows code input t store from to n mids s V r
    → ((v : A) (store1 : Store) (n1 j1 : ℕ) (s1 : State)
    → Landed code input t store from to n (mids v) s store1 n1 j1 s1 → V v s1
    → (k : ℕ) × (s2 : State) × (k + t'.slack + t.credit ≤ t.slack + t'.credit)
    × Comes code input k s1 s2 × (s2.pc ≡ address_of (ends (g v))) × Agrees store1 s2
    × Keeps store1 from to s1.memory s2.memory × W (g v) s2)
    → Follows code input t' store from to n ends s W (then_run r (λ v. pure (g v)))
few_after {code = code} {input = input} {store = store} {from = from} {to = to} {s = s}
    (Goes v store1 n1) g over f b =
    let a = f.by in
    let l = a.2 in
    let c = b v store1 n1 a.0 a.1 a.2 a.3 in
    record {
      by = (
        a.0 + c.0,
        c.1,
        record {
          comes = then_comes code input a.0 c.0 s a.1 c.1 l.comes c.3;
          pc = c.4;
          agrees = c.5;
          same_sp = l.same_sp;
          same_live = l.same_live;
          keeps = then_keeps store store1 from to from to s.memory a.1.memory c.1.memory l.same_sp
              l.same_live (omega arith) (omega arith) l.keeps c.6;
          least = omega (arith, l.least);
          most = omega (arith, l.most, c.2);
        },
        c.7,
      );
    }
few_after (StackFull output) g over f b = let a =
    f.by in record { by = (a.0, a.1, omega (arith, a.2), a.3, a.4) }
few_after (More output) g over f b = let a =
    f.by in record { by = (a.0, a.1, a.2, omega (arith, a.3), a.4, a.5) }
few_after (Undef output act at) g over f b = record { by = tt }

-- what keeps all from the stack pointer on keeps the rest
pub all_follows : {A : Type 0} {t : Terms} {code input : List ℕ} {store : Store} (from to : ℕ)
    {n : ℕ} {ends : A → ℕ} {s : State} {V : A → State → Type 0} (r : Ended A)
    → Follows code input t store 0 0 n ends s V r → Follows code input t store from to n ends s V r
all_follows from to (Goes v store1 n1) f =
    let a = f.by in
    let l = a.2 in
    record {
      by = (
        a.0,
        a.1,
        record {
          comes = l.comes;
          pc = l.pc;
          agrees = l.agrees;
          same_sp = l.same_sp;
          same_live = l.same_live;
          keeps = record { by = λ at ge dead off. l.keeps.by at ge dead (inr (omega arith)) };
          least = l.least;
          most = l.most;
        },
        a.3,
      );
    }
all_follows from to (StackFull output) f = record { by = f.by }
all_follows from to (More output) f = record { by = f.by }
all_follows from to (Undef output act at) f = record { by = tt }
