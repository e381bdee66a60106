-- Arguments: each into its slot, and then all into registers. And what a call does with them.
use Rattle.std.proofs.Common.{◌≡◌, ℕ, suc, ◌+◌, ◌<◌, ◌≤◌, List, [], ◌∷◌, length, refl, ap, ◌∙◌, arith, Option, Some, None}
use Rattle.bop_bits.specs.declared.map.TheConstants.{CODE_WORDS}
use Rattle.rv_code.specs.State.{State}
use Rattle.rv_code.specs.Step.{address_of}
use Rattle.c_tree.specs.declared.place.Place.{Place}
use Rattle.c_tree.specs.declared.undefined.Undefined.TheVariants.{NoValue}
use Rattle.c_semantics.specs.Run.{Store, Run, Ended, Goes, StackFull, More, Undef, then_run, pure, count, given_or, ◌>>=◌, ◌>>◌}
use Rattle.c_semantics.specs.Eval.{call}
use Rattle.low_expr.specs.CodePieces.{take_slot}
use Rattle.low_expr.specs.ExprCode.{arguments_into}
use Rattle.low_expr.specs.Agreement.{Agrees, Framed, InSlot, InSlots}
use Rattle.low_expr.specs.Following.{Follows, for_expression, for_arguments}
use Rattle.low_expr.specs.ExprSimulation.{IsFollowed, Unused}
use Rattle.low_expr.proofs.PlainCode.{Env, with_env, stays, below_apart}
use Rattle.low_expr.proofs.CodePiecesLemmas.{Takes, takes_append, takes_none, with_same, with_other}
use Rattle.low_expr.proofs.Composing.{then_follows, then_count, framed_then}
use Rattle.low_expr.proofs.ValueNodes.{Part, still_in, slot_taken}

-- what the registers have once the arguments are loaded
abbrev pub with_all : (r : ℕ) → List ℕ → Env → Env
with_all r [] env = env
with_all r (v ∷ vs) env = with_all (r + 1) vs (with_env r v env)

pub with_all_other : (r q : ℕ) (vs : List ℕ) (env : Env) → q < r → with_all r vs env q ≡ env q
with_all_other r q [] env lt = refl
with_all_other r q (v ∷ vs) env lt =
    with_all_other (r + 1) q vs (with_env r v env) (omega arith)
    ∙ with_other r v q env (below_apart q r lt)

-- the values in registers, as a function
abbrev pub PassedIn : (r : ℕ) → List ℕ → Env → Type 0
PassedIn r [] env = Unit {0}
PassedIn r (v ∷ vs) env = (env r ≡ v) × PassedIn (r + 1) vs env

pub all_passed : (r : ℕ) (vs : List ℕ) (env : Env) → PassedIn r vs (with_all r vs env)
all_passed r [] env = tt
all_passed r (v ∷ vs) env = (
  with_all_other (r + 1) r vs (with_env r v env) (omega arith) ∙ with_same r v env,
  all_passed (r + 1) vs (with_env r v env),
)

-- the value of a call, where it has one, is in a slot
abbrev pub KeptIn : (frame slot : ℕ) → Option ℕ → State → Type 0
KeptIn frame slot None s = Unit {0}
KeptIn frame slot (Some v) s = InSlot frame slot v s

-- a call's value that is used
pub given_follows : {code input : List ℕ} {store : Store} {slots n end : ℕ} {s : State}
    (frame slot : ℕ) (at : Place) (e : Ended (Option ℕ))
    → Follows code input for_expression store slot slots n (λ v. end) s (KeptIn frame slot) e
    → Follows code input for_expression store slot slots n (λ v. end) s (InSlot frame slot)
    (then_run e (given_or NoValue at))
given_follows frame slot at (Goes None store1 n1) f = record { by = tt }
given_follows frame slot at (Goes (Some v) store1 n1) f = record { by = f.by }
given_follows frame slot at (StackFull output) f = record { by = f.by }
given_follows frame slot at (More output) f = record { by = f.by }
given_follows frame slot at (Undef output act place) f = record { by = tt }

-- and one that isn't
pub unused_follows : {A : Type 0} {code input : List ℕ} {store : Store} {slot slots n end : ℕ}
    {s : State} {V : A → State → Type 0} (e : Ended A)
    → Follows code input for_expression store slot slots n (λ v. end) s V e
    → Follows code input for_expression store slot slots n (λ v. end) s Unused
    (then_run e (λ v. pure tt))
unused_follows (Goes v store1 n1) f = let g = f.by in record { by = (g.0, g.1, g.2, tt) }
unused_follows (StackFull output) f = record { by = f.by }
unused_follows (More output) f = record { by = f.by }
unused_follows (Undef output act at) f = record { by = tt }

module _ (code input : List ℕ) (short : length code ≤ CODE_WORDS) (labels : ℕ → ℕ)
    (frame slots : ℕ) where
  pub arguments_take : (vs : List ℕ) (r slot i : ℕ) (s : State) (store : Store) (env : Env)
      → 10 ≤ r → r + length vs ≤ 18 → slot + length vs ≤ slots → Framed frame slots store
      → env 2 ≡ frame → InSlots frame slot vs s
      → Takes s.memory i (arguments_into (length vs) r slot) env (with_all r vs env)
  arguments_take [] r slot i s store env r10 few within f is all = takes_none s.memory i env
  arguments_take (v ∷ vs) r slot i s store env r10 few within f is all =
      takes_append s.memory (take_slot r slot)
      (arguments_into (length vs) (r + 1) (slot + 1)) i env (with_env r v env)
      (with_all (r + 1) vs (with_env r v env))
      (slot_taken code input short labels frame slots r slot i v s store env f (omega arith)
      (omega arith) (omega arith) is all.0)
      (arguments_take vs (r + 1) (slot + 1) (i + length (take_slot r slot)) s store
      (with_env r v env) (omega arith) (omega arith) (omega arith) f
      (with_other r v 2 env (below_apart 2 r (omega arith)) ∙ is) all.1)

  -- what the code of arguments does
  abbrev pub ArgumentsPart : (slot m i end k : ℕ) → Run (List ℕ) → Type 0
  ArgumentsPart slot m i end k r =
      (store : Store) (n : ℕ) (s : State) → n ≤ m → s.pc ≡ address_of i → Agrees store s
      → Framed frame slots store
      → Follows code input for_arguments store slot slots n (λ vs. end) s
      (λ vs s1. InSlots frame slot vs s1 × (length vs ≡ k)) (r store n)

  pub no_arguments : (slot m i : ℕ) → ArgumentsPart slot m i i 0 (pure [])
  no_arguments slot m i store n s le pc a f =
      record {
        by = (
          0,
          s,
          record {
            comes = stays code input s;
            pc = pc;
            agrees = a;
            same_sp = refl;
            same_live = refl;
            keeps = record { by = λ at ge dead off. refl };
            least = omega arith;
            most = omega arith;
          },
          (tt, refl),
        );
      }

  pub more_arguments : (slot m i mid end k : ℕ) (e : Run ℕ) (rest : Run (List ℕ)) → slot < slots
      → Part code input short labels frame slots slot m i mid e
      → ArgumentsPart (slot + 1) m mid end k rest
      → ArgumentsPart slot m i end (suc k) (e >>= λ v. rest >>= λ vs. pure (v ∷ vs))
  more_arguments slot m i mid end k e rest lt fe fr store n s le pc a f =
      then_follows for_expression for_arguments code input store slot slot slots slot n (λ v. mid)
      (λ vs. end) s (InSlot frame slot) (λ vs s1. InSlots frame slot vs s1 × (length vs ≡ suc k))
      (e store n)
      (λ v. rest >>= λ vs. pure (v ∷ vs)) (omega arith) (omega arith) (omega arith) (omega arith)
      (fe store n s le pc a f)
      (λ v store1 n1 j1 s1 l1 v1.
      let f1 = framed_then frame slots store store1 l1.same_sp l1.same_live f in
      then_follows for_arguments for_arguments code input store1 slot (slot + 1) slots slot n1
      (λ vs. end) (λ vs. end) s1 (λ vs s2. InSlots frame (slot + 1) vs s2 × (length vs ≡ k))
      (λ vs s2. InSlots frame slot vs s2 × (length vs ≡ suc k)) (rest store1 n1)
      (λ vs. pure (v ∷ vs))
      (omega arith) (omega arith) (omega arith) (omega arith)
      (fr store1 n1 s1 (omega (arith, l1.most)) l1.pc l1.agrees f1)
      (λ vs store2 n2 j2 s2 l2 v2.
      let is = still_in frame slots slot (slot + 1) store1 v s1 s2 (omega arith) (omega arith) f1 l2.keeps v1 in
      record {
        by = (
          0,
          s2,
          record {
            comes = stays code input s2;
            pc = l2.pc;
            agrees = l2.agrees;
            same_sp = refl;
            same_live = refl;
            keeps = record { by = λ at ge dead off. refl };
            least = omega arith;
            most = omega arith;
          },
          ((is, v2.0), ap suc v2.1),
        );
      }))

  -- what the code of a call does, whose value may be used or not
  abbrev pub CallPart : (slot m i end : ℕ) → Run (Option ℕ) → Type 0
  CallPart slot m i end r = IsFollowed code input frame slots slot m i end (KeptIn frame slot) r

  -- what a call does once its arguments are in their slots
  abbrev pub CallAct : (slot m i end k : ℕ) → (List ℕ → Run (Option ℕ)) → Type 0
  CallAct slot m i end k function =
      (vs : List ℕ) (store : Store) (n n1 : ℕ) (s : State) → length vs ≡ k → n ≡ suc n1 → n ≤ m
      → s.pc ≡ address_of i → Agrees store s → Framed frame slots store → InSlots frame slot vs s
      → Follows code input for_expression store slot slots n (λ v. end) s (KeptIn frame slot)
      (function vs store n1)

  pub call_follows : (slot m i mid end k : ℕ) (all : Run (List ℕ))
      (function : List ℕ → Run (Option ℕ))
      → ArgumentsPart slot m i mid k all → CallAct slot m mid end k function
      → CallPart slot m i end (call all function)
  call_follows slot m i mid end k all function fr fact store n s le pc a f =
      then_follows for_arguments for_expression code input store slot slot slots slot n (λ vs. mid)
      (λ v. end) s (λ vs s1. InSlots frame slot vs s1 × (length vs ≡ k)) (KeptIn frame slot)
      (all store n)
      (λ vs. count >> function vs) (omega arith) (omega arith) (omega arith) (omega arith)
      (fr store n s le pc a f)
      (λ vs store1 n1 j1 s1 l1 v1.
      let f1 = framed_then frame slots store store1 l1.same_sp l1.same_live f in
      then_count (λ u. function vs) (omega arith) l1.agrees.output
      (λ n2 en. fact vs store1 n1 n2 s1 v1.1 en (omega (arith, l1.most)) l1.pc l1.agrees f1 v1.0))
