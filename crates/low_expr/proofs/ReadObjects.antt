-- What an object holds is decided, and it is read.
use Rattle.std.proofs.Common.{◌≡◌, ℕ, [], ◌∷◌, sym, ◌+◌, ◌-◌, ◌%◌, ◌^◌, ◌<◌, ◌≤◌, refl, ap, ◌∙◌, subst, arith, Option, Some, None, inl, inr}
use Rattle.std.specs.Prelude.{Bool, true, false, ◌==◌, if◌then◌else◌, pos}
use Rattle.std.specs.List.{list_any}
use Rattle.std.proofs.lemmas.Bool.{and_parts, eqb-true}
use Rattle.bop_bits.specs.declared.map.TheConstants.{DATA_FROM, STACK_TO}
use Rattle.bop_bits.specs.MemoryNumbers.{number_at}
use Rattle.rv_code.specs.declared.instr.Instr.{Instr}
use Rattle.rv_code.specs.declared.instr.Instr.TheVariants as instr
use Rattle.rv_code.specs.State.{State}
use Rattle.rv_code.specs.Word.{sum as sum_of, word}
use Rattle.c_tree.specs.declared.place.Place.{Place}
use Rattle.c_tree.specs.declared.undefined.Undefined.TheVariants.{Access, Indeterminate}
use Rattle.c_semantics.specs.declared.kind.Held.{Held}
use Rattle.c_semantics.specs.declared.kind.Held.TheVariants.{Byte, Word, Array}
use Rattle.c_semantics.specs.Run.{Store, undefined, given_or}
use Rattle.c_semantics.specs.Memory.{holds, is_fine, number, range, value_at, read}
use Rattle.low_expr.specs.CodePieces.{read_by}
use Rattle.low_expr.specs.Agreement.{Agrees, Framed, Lives}
use Rattle.low_expr.proofs.MemoryNumbersLemmas.{word_fits, byte_fits}
use Rattle.low_expr.proofs.StoredBytes.{read_matches, lives_in, held_inside}
use Rattle.rv_code.specs.declared.effect.Effect.TheVariants.{Loads}
use Rattle.rv_code.specs.Step.{address_of}
use Rattle.low_expr.proofs.PlainCode.{effect_in, after, IsPlain, with_env, Env}
use Rattle.low_expr.proofs.OperatorsLemmas.{single}
use Rattle.low_expr.proofs.Deciding.{Decided, Computes}

-- an object that is read
record Read (s : State) (size at v : ℕ) : Type 0 where
  pub aligned : at % size ≡ 0
  pub low : DATA_FROM ≤ at
  pub high : at + size ≤ STACK_TO
  pub is : number_at s.memory at size ≡ v

read_of : (frame slots : ℕ) (store : Store) (s : State) (size at v : ℕ) → Agrees store s
    → Framed frame slots store → is_fine at size store.live ≡ true
    → number (range at size store.bytes) ≡ Some v → Read s size at v
read_of frame slots store s size at v a f fine is =
    let p = and_parts (list_any (holds at size) store.live) (at % size == 0) fine in
    let inside = held_inside store.live at size f.inside p.0 in
    record {
      aligned = eqb-true (at % size) 0 p.1;
      low = inside.0;
      high = inside.1;
      is = read_matches size at v store.bytes s.memory inside.0
          (omega (arith, a.cells, inside.0, inside.1))
          (λ b w ge lt h.
          let live = lives_in store.live at size (b - at) (omega arith) p.0 in
          let e : at + (b - at) ≡ b = omega arith in
          a.bytes b w (subst (Lives store) e live) h) is;
    }

-- an instruction that loads so many bytes at the address in a register into register 5
abbrev IsLoad : Instr → (r size : ℕ) → Type 0
IsLoad x r size =
    (env : Env) (pc : ℕ)
    → effect_in x env pc ≡ Loads 5 (sum_of (env r) (word (pos 0))) size false

number_decided : (x : Instr) (size r i at : ℕ) (place : Place) (env : Env) (frame slots : ℕ)
    (s : State) (store : Store) → IsLoad x r size → 0 < size
    → ((v : ℕ) → number_at s.memory at size ≡ v → v < 2 ^ 32) → Agrees store s
    → Framed frame slots store → at < 2 ^ 32 → env r ≡ at
    → Decided (read size at place) store (Computes s.memory i (x ∷ []) env)
number_decided x size r i at place env frame slots s store loads positive small a f fits is =
    decided (is_fine at size store.live) refl (number (range at size store.bytes)) refl
  where
    decided : (b : Bool) → is_fine at size store.live ≡ b → (o : Option ℕ)
        → number (range at size store.bytes) ≡ o
        → Decided (λ z n. (if b then given_or Indeterminate place o else undefined Access place) z n)
        store (Computes s.memory i (x ∷ []) env)
    decided false eb o eo = inl (λ n. tt)
    decided true eb None eo = inl (λ n. tt)
    decided true eb (Some v) eo =
        let g = read_of frame slots store s size at v a f eb eo in
        let to : sum_of (env r) (word (pos 0)) ≡ at = ap (λ z. sum_of z (word (pos 0))) is ∙ omega arith in
        let e : effect_in x env (address_of i) ≡ Loads 5 at size false = loads env (address_of i) ∙ ap (λ z. Loads 5 z size false) to in
        let plain : IsPlain (Loads 5 at size false) = (omega arith, omega arith, g.aligned, g.low, omega (arith, g.high)) in
        inr (
          v,
          (λ n. refl),
          single s.memory i env x v v (small v g.is) (
            (subst IsPlain (sym e) plain, tt),
            ap (λ z. after s.memory z env) e ∙ ap (λ z. with_env 5 z env) g.is,
          ) refl,
        )

-- what the object at the address in a register holds
pub read_decided : (h : Held) (r i x : ℕ) (at : Place) (env : Env) (frame slots : ℕ) (s : State)
    (store : Store) → Agrees store s → Framed frame slots store → x < 2 ^ 32 → env r ≡ x
    → Decided (value_at h x at) store (Computes s.memory i (read_by h r) env)
read_decided Array r i x at env frame slots s store a f fits is =
    let e : sum_of (env r) (word (pos 0)) ≡ x = ap (λ z. sum_of z (word (pos 0))) is ∙ omega arith in
    inr (x, (λ n. refl), single s.memory i env _ x _ fits (((omega arith, omega arith), tt), refl) e)
read_decided Byte r i x at env frame slots s store a f fits is =
    number_decided (instr.Lbu 5 r (pos 0)) 1 r i x at env frame slots s store (λ e pc. refl)
    (omega arith) (λ v e. omega (arith, e, byte_fits s.memory x a.small)) a f fits is
read_decided Word r i x at env frame slots s store a f fits is =
    number_decided (instr.Lw 5 r (pos 0)) 4 r i x at env frame slots s store (λ e pc. refl)
    (omega arith) (λ v e. omega (arith, e, word_fits s.memory x a.small)) a f fits is
