-- Parts of statements one after the other.
use Rattle.std.proofs.Common.{◌≡◌, ℕ, suc, ◌+◌, ◌<◌, ◌≤◌, List, length, refl, sym, ap, ◌∙◌, subst, arith, ◌⊎◌, ⊎_elim}
use Rattle.bop_bits.specs.declared.map.TheConstants.{CODE_WORDS}
use Rattle.bop_bits.specs.MemoryNumbers.{byte_at}
use Rattle.rv_code.specs.State.{State}
use Rattle.rv_code.specs.Step.{address_of}
use Rattle.c_semantics.specs.Run.{Store, Run, Ended, Goes, StackFull, More, Undef, then_run, count, ◌>>=◌, ◌>>◌}
use Rattle.low_labels.specs.Placed.{HasWord, HasJump}
use Rattle.low_expr.specs.CodePieces.{nothing}
use Rattle.low_expr.specs.Agreement.{Agrees, Framed, Keeps}
use Rattle.low_expr.specs.Following.{Terms, Comes, Follows, for_expression}
use Rattle.low_expr.specs.ExprSimulation.{IsFollowed}
use Rattle.low_expr.proofs.PlainCode.{stays, then_comes}
use Rattle.low_expr.proofs.Composing.{Allows, Leads, after_leads, landed_leads, then_count, framed_then, wider}
use Rattle.low_expr.proofs.BranchLemmas.{moved, moved_same, agrees_moved, nothing_goes, jump_goes}
use Rattle.low_stmt.specs.StmtSimulation.{IsDone, for_statement}

-- terms with so many instructions more
abbrev pub with_credit : ℕ → Terms
with_credit c = record { slack = 0; over = 0; credit = c }

-- what leaves more, ends at the same places and keeps more says the same
pub weaker : {A : Type 0} {t t' : Terms} {code input : List ℕ} {store : Store}
    {from from0 to to0 n : ℕ} {ends ends' : A → ℕ} {s : State} {V V' : A → State → Type 0}
    (r : Ended A) → from ≤ from0 → to0 ≤ to → t'.slack + t.credit ≤ t.slack + t'.credit
    → t'.over + t.credit ≤ t.over + t'.credit → ((v : A) → ends v ≡ ends' v)
    → ((v : A) (s' : State) → V v s' → V' v s')
    → Follows code input t store from0 to0 n ends s V r
    → Follows code input t' store from to n ends' s V' r
weaker {store = store} {from = from} {from0 = from0} {to = to} {to0 = to0} {s = s}
    (Goes v store1 n1) le ge slack over at shows f =
    let g = f.by in
    let l = g.2 in
    record {
      by = (
        g.0,
        g.1,
        record {
          comes = l.comes;
          pc = l.pc ∙ ap address_of (at v);
          agrees = l.agrees;
          same_sp = l.same_sp;
          same_live = l.same_live;
          keeps = wider store from0 to0 from to s.memory g.1.memory le ge l.keeps;
          least = l.least;
          most = omega (arith, l.most);
        },
        shows v g.1 g.3,
      );
    }
weaker (StackFull output) le ge slack over at shows f =
    let g = f.by in record { by = (g.0, g.1, omega (arith, g.2), g.3, g.4) }
weaker (More output) le ge slack over at shows f =
    let g = f.by in record { by = (g.0, g.1, g.2, omega (arith, g.3), g.4, g.5) }
weaker (Undef output act at) le ge slack over ends shows f = record { by = tt }

module _ (code input : List ℕ) (short : length code ≤ CODE_WORDS) (labels : ℕ → ℕ)
    (frame room top m : ℕ) where
  -- what the code does from a place on
  abbrev pub Does : {A : Type 0} → Terms → (from : ℕ) → (A → ℕ) → (A → State → Type 0) → Run A
      → Type 0
  Does t from ends V r = IsDone t code input frame room top m from ends V r

  -- a value and nothing more
  pub pure_follows : {A : Type 0} {t : Terms} {n : ℕ} {ends : A → ℕ} {V : A → State → Type 0}
      (v : A) (store : Store) (s : State) → t.slack ≤ t.credit → s.pc ≡ address_of (ends v)
      → Agrees store s → V v s
      → Follows code input t store 0 top n ends s V (Goes v store n)
  pure_follows v store s few pc a w =
      record {
        by = (
          0,
          s,
          record {
            comes = stays code input s;
            pc = pc;
            agrees = a;
            same_sp = refl;
            same_live = refl;
            keeps = record { by = λ at ge dead off. refl };
            least = omega arith;
            most = omega arith;
          },
          w,
        );
      }

  -- an expression
  pub expression_done : {A : Type 0} {V : A → State → Type 0} {r : Run A} (i end : ℕ) → room ≤ top
      → IsFollowed code input frame room 0 m i end V r → Does for_expression i (λ v. end) V r
  expression_done i end le f store n s few pc a fr =
      weaker _ (omega arith) le (omega arith) (omega arith) (λ v. refl) (λ v s1 h. h)
      (f store n s few pc a fr)

  -- what is done after a part, whatever it gave
  abbrev pub Goes_on : {A B : Type 0} → (p t : Terms) → (A → ℕ) → (A → State → Type 0) → (B → ℕ)
      → (B → State → Type 0) → (A → Run B) → Type 0
  Goes_on {A} p t mids V ends W f =
      (v : A) (store : Store) (n : ℕ) (s : State) → n ≤ m → s.pc ≡ address_of (mids v)
      → Agrees store s → Framed frame room store → V v s
      → (u : Terms) × (k : ℕ) × (s1 : State) × Allows p.slack (p.credit + k) u t
      × Comes code input k s s1 × (s1.memory ≡ s.memory)
      × Follows code input u store 0 top n ends s1 W (f v store n)

  -- one part and then another
  pub then_does : {A B : Type 0} {p t : Terms} {mids : A → ℕ} {V : A → State → Type 0}
      {ends : B → ℕ}
      {W : B → State → Type 0} (i : ℕ) (r : Run A) (f : A → Run B)
      → p.credit + t.over ≤ t.credit + p.over → p.credit ≤ p.slack + 255
      → Does p i mids V r → Goes_on p t mids V ends W f → Does t i ends W (r >>= f)
  then_does {A = A} {p = p} {t = t} {mids = mids} {V = V} {ends = ends} {W = W} i r f over few a b
      store n s le pc ag fr =
      by_end (r store n) (a store n s le pc ag fr)
    where
      by_end : (e : Ended A) → Follows code input p store 0 top n mids s V e
          → Follows code input t store 0 top n ends s W (then_run e f)
      by_end (Goes v store1 n1) g =
          let l = g.by in
          let q = l.2 in
          let c = b v store1 n1 l.1 (omega (arith, q.most, few)) q.pc q.agrees (framed_then frame room store store1 q.same_sp q.same_live fr) l.3 in
          after_leads (f v store1 n1) c.3 (omega arith) (omega arith)
          (landed_leads p code input store 0 0 top top n (mids v) s store1 n1 l.0 l.1 (omega arith)
          (omega arith) q c.1 c.2 c.4 c.5) c.6
      by_end (StackFull output) g = let h = g.by in record { by = (h.0, h.1, omega (arith, h.2), h.3, h.4) }
      by_end (More output) g = let h = g.by in record { by = (h.0, h.1, h.2, omega (arith, h.3), h.4, h.5) }
      by_end (Undef output act at) g = record { by = tt }

  -- the same without an instruction between
  pub then_directly : {A B : Type 0} {p t : Terms} {mids : A → ℕ} {V : A → State → Type 0}
      {ends : B → ℕ} {W : B → State → Type 0} (u : Terms) (i : ℕ) (r : Run A) (f : A → Run B)
      → p.credit + t.over ≤ t.credit + p.over → p.credit ≤ p.slack + 255
      → Allows p.slack p.credit u t → Does p i mids V r
      → ((v : A) (store : Store) (n : ℕ) (s : State) → n ≤ m → s.pc ≡ address_of (mids v)
      → Agrees store s → Framed frame room store → V v s
      → Follows code input u store 0 top n ends s W (f v store n))
      → Does t i ends W (r >>= f)
  then_directly u i r f over few allows a b =
      then_does i r f over few a
      (λ v store n s le pc ag fr w.
      (u, 0, s, record { slack = omega (arith, allows.slack); over = omega (arith, allows.over) }, stays code input s, refl, b v store n s le pc ag fr w))

  -- a step that is counted, with its instruction: the rest begins with fewer steps, and may take 255
  -- instructions more
  pub counted_below : {B : Type 0} {ends : B → ℕ} {W : B → State → Type 0} (i : ℕ) (r : Run B)
      → HasWord code labels i nothing
      → ((b : ℕ) → b < m → IsDone (with_credit 255) code input frame room top b (i + 1) ends W r)
      → Does for_statement i ends W (count >> r)
  counted_below i r has a store n s le pc ag fr =
      then_count (λ u. r) (omega arith) ag.output
      (λ n1 en.
      let q = moved_same s (address_of (i + 1)) 1 in
      let s1 = moved s (address_of (i + 1)) 1 in
      after_leads (r store n1) (record { slack = omega arith; over = omega arith }) (omega arith)
      (omega arith) (leads store n n1 s en pc)
      (a n1 (omega (arith, en, le)) store n1 s1 (omega arith) q.1
      (agrees_moved store s (address_of (i + 1)) 1 ag) fr))
    where
      leads : (store : Store) (n n1 : ℕ) (s : State) → n ≡ suc n1 → s.pc ≡ address_of i
          → Leads 255 0 code input store 0 top n s store n1 1 (moved s (address_of (i + 1)) 1)
      leads store n n1 s en pc = record {
        comes = nothing_goes code input short labels i s pc has;
        same_sp = refl;
        same_live = refl;
        keeps = record {
          by = λ at ge dead off. ap (λ l. byte_at l at) (moved_same s (address_of (i + 1)) 1).0;
        };
        least = omega arith;
        most = omega arith;
      }

  pub counted_does : {B : Type 0} {ends : B → ℕ} {W : B → State → Type 0} (i : ℕ) (r : Run B)
      → HasWord code labels i nothing → Does (with_credit 255) (i + 1) ends W r
      → Does for_statement i ends W (count >> r)
  counted_does i r has a =
      counted_below i r has (λ b lt store n s le pc ag fr. a store n s (omega arith) pc ag fr)

  -- a jump at the end, where the part ends so; what is said of the value has to stay
  pub jump_does : {A : Type 0} {ends ends' : A → ℕ} {V : A → State → Type 0} (c i at label : ℕ)
      (r : Run A) → HasJump code labels at 0 label
      → ((v : A) → (ends v ≡ ends' v) ⊎ ((ends v ≡ at) × (labels label ≡ ends' v)))
      → ((v : A) (s : State) (pc k : ℕ) → V v s → V v (moved s pc k))
      → Does (with_credit c) i ends V r → Does (with_credit (c + 1)) i ends' V r
  jump_does {A = A} {ends = ends} {ends' = ends'} {V = V} c i at label r has where_to stay a store n s
      le pc ag fr =
      by_end (r store n) (a store n s le pc ag fr)
    where
      by_end : (e : Ended A) → Follows code input (with_credit c) store 0 top n ends s V e
          → Follows code input (with_credit (c + 1)) store 0 top n ends' s V e
      by_end (Goes v store1 n1) g =
          ⊎_elim (λ same. let l = g.by in let q = l.2 in record { by = (l.0, l.1, record { comes = q.comes; pc = q.pc ∙ ap address_of same; agrees = q.agrees; same_sp = q.same_sp; same_live = q.same_live; keeps = q.keeps; least = q.least; most = omega (arith, q.most) }, l.3) })
          (λ jumps.
          let l = g.by in
          let q = l.2 in
          let s2 = moved l.1 (address_of (labels label)) 1 in
          let same = moved_same l.1 (address_of (labels label)) 1 in
          record {
            by = (
              l.0 + 1,
              s2,
              record {
                comes = then_comes code input l.0 1 s l.1 s2 q.comes (jump_goes code input short labels at label l.1 (q.pc ∙ ap address_of jumps.0) has);
                pc = same.1 ∙ ap address_of jumps.1;
                agrees = agrees_moved store1 l.1 (address_of (labels label)) 1 q.agrees;
                same_sp = q.same_sp;
                same_live = q.same_live;
                keeps = subst (λ z. Keeps store 0 top s.memory z) (sym same.0) q.keeps;
                least = omega (arith, q.least);
                most = omega (arith, q.most);
              },
              stay v l.1 (address_of (labels label)) 1 l.3,
            );
          })
          (where_to v)
      by_end (StackFull output) g = let h = g.by in record { by = (h.0, h.1, omega (arith, h.2), h.3, h.4) }
      by_end (More output) g = let h = g.by in record { by = (h.0, h.1, h.2, omega (arith, h.3), h.4, h.5) }
      by_end (Undef output act at) g = record { by = tt }
