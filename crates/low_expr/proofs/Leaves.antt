-- Constants and names.
use Rattle.std.proofs.Common.{◌≡◌, ℕ, ◌+◌, ◌^◌, ◌<◌, ◌≤◌, List, ◌++◌, length, refl, arith, inr, length-append}
use Rattle.bop_bits.specs.declared.map.TheConstants.{CODE_WORDS, STACK_TO}
use Rattle.rv_code.specs.State.{State, register}
use Rattle.c_tree.specs.declared.place.Place.{Place}
use Rattle.c_semantics.specs.declared.home.Home.{Home}
use Rattle.c_semantics.specs.declared.home.Home.TheVariants.{Fixed, InFrame, Nowhere}
use Rattle.c_semantics.specs.declared.kind.Held.{Held}
use Rattle.c_semantics.specs.Run.{Store, pure, count, ◌>>=◌, ◌>>◌}
use Rattle.c_semantics.specs.Memory.{value_at}
use Rattle.c_semantics.specs.Names.{address_of}
use Rattle.low_labels.specs.Operation.{width_of}
use Rattle.low_labels.specs.Placed.{HasAt}
use Rattle.low_expr.specs.CodePieces.{constant, home_address, read_by, keep}
use Rattle.low_expr.specs.Agreement.{Agrees, Framed}
use Rattle.low_expr.specs.Readiness.{HomeFits}
use Rattle.low_expr.proofs.PlainCode.{Env, with_env, above_apart}
use Rattle.low_expr.proofs.CodePiecesLemmas.{constant_takes, frame_takes}
use Rattle.low_expr.proofs.Deciding.{Decided, Computes, computes_append, then_decided}
use Rattle.low_expr.proofs.ReadObjects.{read_decided}
use Rattle.low_expr.proofs.CodeLengths.{number_length, home_length, read_length}
use Rattle.low_expr.proofs.ValueNodes.{Part, leaf_follows, decided_map}

constant_computes : (m : List ℕ) (i v : ℕ) (env : Env) → env 0 ≡ 0 → v < 2 ^ 32
    → Computes m i (constant 5 v) env v
constant_computes m i v env zero fits = record {
  left = with_env 5 v env;
  takes = constant_takes m i 5 v env zero (omega arith) (omega arith) fits;
  value = refl;
  fits = fits;
  zero_still = refl;
  stack_still = refl;
  address_still = refl;
  old_still = refl;
}

frame_computes : (m : List ℕ) (i offset frame : ℕ) (env : Env) → env 2 ≡ frame → offset ≤ 2 ^ 16
    → frame ≤ STACK_TO → Computes m i (home_address (InFrame offset)) env (frame + offset)
frame_computes m i offset frame env is fits within =
    record {
      left = with_env 5 (frame + offset) env;
      takes = frame_takes m i 5 offset frame env is (omega arith) (omega arith)
          (above_apart 5 2 (omega arith)) (omega arith);
      value = refl;
      fits = omega arith;
      zero_still = refl;
      stack_still = refl;
      address_still = refl;
      old_still = refl;
    }

module _ (frame slots : ℕ) where
  home_decided : (h : Home) (i : ℕ) (store : Store) (s : State) → HomeFits h → Agrees store s
      → Framed frame slots store
      → Decided (address_of h) store (Computes s.memory i (home_address h) (register s.registers))
  home_decided (Fixed address) i store s fits a f =
      inr (
        address,
        (λ n. refl),
        constant_computes s.memory i address
            (register s.registers) refl fits,
      )
  home_decided (InFrame offset) i store s fits a f =
      let e = f.is in
      let within = f.within in
      inr (
        store.sp + offset,
        (λ n. refl),
        frame_computes s.memory i offset store.sp
            (register s.registers) a.stack fits (omega arith),
      )
  home_decided Nowhere i store s fits a f =
      inr (0, (λ n. refl), constant_computes s.memory i 0 (register s.registers) refl (omega arith))

  object_decided : (h : Home) (d : Held) (at : Place) (i : ℕ) (store : Store) (s : State)
      → HomeFits h
      → Agrees store s → Framed frame slots store
      → Decided (address_of h >>= λ x. value_at d x at) store
      (Computes s.memory i (home_address h ++ read_by d 5) (register s.registers))
  object_decided h d at i store s fits a f =
      let env = register s.registers in
      then_decided (address_of h) (λ x. value_at d x at) store
      (Computes s.memory i (home_address h) env)
      (Computes s.memory i (home_address h ++ read_by d 5) env) (home_decided h i store s fits a f)
      (λ x c.
      let k = i + length (home_address h) in
      decided_map (value_at d x at) store (Computes s.memory k (read_by d 5) c.left)
      (Computes s.memory i (home_address h ++ read_by d 5) env)
      (λ v q. computes_append s.memory i (home_address h) (read_by d 5) env x v c q)
      (read_decided d 5 k x at c.left frame slots s store a f c.fits c.value))

module _ (code input : List ℕ) (short : length code ≤ CODE_WORDS) (labels : ℕ → ℕ)
    (frame slots : ℕ) where
  pub constant_follows : (slot m i v : ℕ) → slot < slots → v < 2 ^ 32
      → HasAt code labels i (keep (constant 5 v) 5 slot)
      → Part code input short labels frame slots slot m i
      (i + width_of (keep (constant 5 v) 5 slot)) (count >> pure v)
  constant_follows slot m i v lt fits has =
      let l = number_length 5 v in
      leaf_follows code input short labels frame slots (constant 5 v) slot m i (pure v)
      (omega (arith, l)) lt has
      (λ store s a f. inr (
        v,
        (λ n. refl),
        constant_computes s.memory i v
            (register s.registers) refl fits,
      ))

  pub address_follows : (slot m i : ℕ) (h : Home) → slot < slots → HomeFits h
      → HasAt code labels i (keep (home_address h) 5 slot)
      → Part code input short labels frame slots slot m i
      (i + width_of (keep (home_address h) 5 slot)) (count >> address_of h)
  address_follows slot m i h lt fits has =
      let l = home_length h in
      leaf_follows code input short labels frame slots (home_address h) slot m i (address_of h)
      (omega (arith, l)) lt has
      (λ store s a f. home_decided frame slots h i store s fits a f)

  pub name_follows : (slot m i : ℕ) (h : Home) (d : Held) (at : Place) → slot < slots → HomeFits h
      → HasAt code labels i (keep (home_address h ++ read_by d 5) 5 slot)
      → Part code input short labels frame slots slot m i
      (i + width_of (keep (home_address h ++ read_by d 5) 5 slot))
      (count >> (address_of h >>= λ x. value_at d x at))
  name_follows slot m i h d at lt fits has =
      let l = home_length h in
      let k = read_length d 5 in
      leaf_follows code input short labels frame slots (home_address h ++ read_by d 5) slot m i
      (address_of h >>= λ x. value_at d x at)
      (omega (arith, l, k, length-append (home_address h) (read_by d 5))) lt has
      (λ store s a f. object_decided frame slots h d at i store s fits a f)
