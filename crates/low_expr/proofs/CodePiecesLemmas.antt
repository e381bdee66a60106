-- What the pieces of code leave: constants, addresses of the frame, and slots in registers.
use Rattle.std.proofs.Common.{◌≡◌, ◌≢◌, ℕ, ◌+◌, ◌*◌, ◌%◌, ◌^◌, ◌<◌, ◌≤◌, List, [], ◌∷◌, ◌++◌, length, refl, sym, ap, ◌∙◌, subst, arith}
use Rattle.std.specs.Prelude.{Bool, true, false, ◌==◌, if◌then◌else◌, pos}
use Rattle.std.proofs.lemmas.Grind.{common_steps}
use Rattle.std.proofs.lemmas.Int.{ints}
use Rattle.std.proofs.lemmas.Bool.Decides.{nat_tests}
use Rattle.bop_bits.specs.declared.map.TheConstants.{STACK_FROM, STACK_TO}
use Rattle.bop_bits.specs.MemoryNumbers.{number_at}
use Rattle.rv_code.specs.declared.instr.Instr.{Instr}
use Rattle.rv_code.specs.Word.{sum, word}
use Rattle.rv_code.specs.Step.{address_of}
use Rattle.c_semantics.specs.Run.{Store}
use Rattle.low_expr.specs.CodePieces.{upper, lower, is_immediate, is_near, constant_by, constant, frame_address_by, frame_address, take_by, take_slot}
use Rattle.low_expr.specs.Agreement.{Framed}
use Rattle.low_expr.proofs.PlainCode.{Env, with_env, effect_in, after, leaves, ArePlain, eq_true, eq_false}

-- instructions that take registers to other ones
abbrev pub Takes : List ℕ → (i : ℕ) → List Instr → (env env' : Env) → Type 0
Takes m i xs env env' = ArePlain m i xs env × (leaves m i xs env ≡ env')

pub takes_append : (m : List ℕ) (xs ys : List Instr) (i : ℕ) (env env1 env2 : Env)
    → Takes m i xs env env1 → Takes m (i + length xs) ys env1 env2 → Takes m i (xs ++ ys) env env2
takes_append m [] ys i env env1 env2 h g =
    let e : i + 0 ≡ i = omega arith in
    subst (λ k. Takes m k ys env env2) e
    (subst (λ v. Takes m (i + 0) ys v env2) (sym h.1) g)
takes_append m (x ∷ xs) ys i env env1 env2 h g =
    let e : i + length (x ∷ xs) ≡ i + 1 + length xs = omega arith in
    let rest = takes_append m xs ys (i + 1) (after m (effect_in x env (address_of i)) env) env1 env2 (h.0.1, h.1) (subst (λ k. Takes m k ys env1 env2) e g) in
    ((h.0.0, rest.0), rest.1)

pub takes_none : (m : List ℕ) (i : ℕ) (env : Env) → Takes m i [] env env
takes_none m i env = (tt, refl)

pub with_same : (rd v : ℕ) (env : Env) → with_env rd v env rd ≡ v
with_same rd v env = ap (λ b. if b then v else env rd) (eq_true rd rd refl)

pub with_other : (rd v q : ℕ) (env : Env) → q ≢ rd → with_env rd v env q ≡ env q
with_other rd v q env ne = ap (λ b. if b then v else env q) (eq_false q rd ne)

twice : (b : Bool) (u v w : ℕ)
    → (if b then v else (if b then u else w)) ≡ (if b then v else w)
twice true u v w = refl
twice false u v w = refl

pub with_twice : (rd u v : ℕ) (env : Env)
    → with_env rd v (with_env rd u env) ≡ with_env rd v env
with_twice rd u v env = λ i q. twice (q == rd) u v (env q) i

-- the two parts of a number make it
pub parts_sum : (v : ℕ) → v < 2 ^ 32 → sum (upper v * 2 ^ 12) (word (lower v)) ≡ v
parts_sum v h = grind (arith, common_steps, ints)

-- the lower part alone makes a number that an immediate gives
pub immediate_sum : (v : ℕ) → v < 2 ^ 32 → is_immediate v ≡ true → sum 0 (word (lower v)) ≡ v
immediate_sum v h e = grind (arith, nat_tests, common_steps, ints, e)

pub parts_sum_from : (v b : ℕ) → v + b < 2 ^ 32
    → sum (sum (upper v * 2 ^ 12) b) (word (lower v)) ≡ v + b
parts_sum_from v b h =
    let e = parts_sum v (omega arith) in
    omega (arith, e)

pub constant_length : (b : Bool) (rd v : ℕ) → length (constant_by b rd v) ≤ 2
constant_length true rd v = omega arith
constant_length false rd v = omega arith

pub take_length : (b : Bool) (rd v : ℕ) → length (take_by b rd v) ≤ 3
take_length true rd v = omega arith
take_length false rd v = omega arith

pub frame_length : (b : Bool) (rd v : ℕ) → length (frame_address_by b rd v) ≤ 3
frame_length true rd v = omega arith
frame_length false rd v = omega arith

module _ (m : List ℕ) where
  constant_takes_by : (b : Bool) (i rd v : ℕ) (env : Env) → is_immediate v ≡ b → env 0 ≡ 0
      → 0 < rd → rd < 32 → v < 2 ^ 32 → Takes m i (constant_by b rd v) env (with_env rd v env)
  constant_takes_by true i rd v env near z pos_rd lt fits =
      let e : sum (env 0) (word (lower v)) ≡ v = ap (λ a. sum a (word (lower v))) z ∙ immediate_sum v fits near in
      (((pos_rd, lt), tt), ap (λ a. with_env rd a env) e)
  constant_takes_by false i rd v env near z pos_rd lt fits =
      let u = upper v * 2 ^ 12 in
      let e : sum (with_env rd u env rd) (word (lower v)) ≡ v =
      ap (λ a. sum a (word (lower v))) (with_same rd u env) ∙ parts_sum v fits in (
        ((pos_rd, lt), ((pos_rd, lt), tt)),
        ap (λ a. with_env rd a (with_env rd u env)) e
            ∙ with_twice rd u v env,
      )

  pub constant_takes : (i rd v : ℕ) (env : Env) → env 0 ≡ 0 → 0 < rd → rd < 32 → v < 2 ^ 32
      → Takes m i (constant rd v) env (with_env rd v env)
  constant_takes i rd v env z p lt fits = constant_takes_by (is_immediate v) i rd v env refl z p lt fits

  -- the upper part and the stack pointer, and then the lower part
  far_sum : (rd offset frame : ℕ) (env : Env) → rd ≢ 2 → env 2 ≡ frame → offset + frame < 2 ^ 32
      → (let env1 = with_env rd (upper offset * 2 ^ 12) env in
      sum (with_env rd (sum (env1 rd) (env1 2)) env1 rd) (word (lower offset)) ≡ frame + offset)
  far_sum rd offset frame env ne is fits =
      let u = upper offset * 2 ^ 12 in
      let ne2 : 2 ≢ rd = λ e. ne (sym e) in
      let env1 = with_env rd u env in
      let a : sum (env1 rd) (env1 2) ≡ sum u frame = ap (λ x. sum x (env1 2)) (with_same rd u env) ∙ ap (sum u) (with_other rd u 2 env ne2 ∙ is) in
      let swap : offset + frame ≡ frame + offset = omega arith in
      ap (λ x. sum x (word (lower offset))) (with_same rd (sum (env1 rd) (env1 2)) env1 ∙ a)
      ∙ parts_sum_from offset frame fits ∙ swap

  frame_takes_by : (b : Bool) (i rd offset frame : ℕ) (env : Env) → is_near offset ≡ b
      → env 2 ≡ frame → 0 < rd → rd < 32 → rd ≢ 2 → offset + frame < 2 ^ 32
      → Takes m i (frame_address_by b rd offset) env (with_env rd (frame + offset) env)
  frame_takes_by true i rd offset frame env near is pos_rd lt ne fits =
      let e : sum (env 2) (word (pos offset)) ≡ frame + offset = ap (λ a. sum a (word (pos offset))) is ∙ omega arith in
      (((pos_rd, lt), tt), ap (λ a. with_env rd a env) e)
  frame_takes_by false i rd offset frame env near is pos_rd lt ne fits =
      let u = upper offset * 2 ^ 12 in
      let env1 = with_env rd u env in
      let w = sum (env1 rd) (env1 2) in (
        ((pos_rd, lt), ((pos_rd, lt), ((pos_rd, lt), tt))),
        ap (λ a. with_env rd a (with_env rd w env1)) (far_sum rd offset frame env ne is fits)
            ∙ with_twice rd w (frame + offset) env1 ∙ with_twice rd u (frame + offset) env,
      )

  pub frame_takes : (i rd offset frame : ℕ) (env : Env) → env 2 ≡ frame → 0 < rd → rd < 32
      → rd ≢ 2 → offset + frame < 2 ^ 32
      → Takes m i (frame_address rd offset) env (with_env rd (frame + offset) env)
  frame_takes i rd offset frame env is p lt ne fits =
      frame_takes_by (is_near offset) i rd offset frame env refl is p lt ne fits

  take_takes_by : (b : Bool) (i rd offset frame : ℕ) (env : Env) → is_near offset ≡ b
      → env 2 ≡ frame → 0 < rd → rd < 32 → rd ≢ 2 → (frame + offset) % 4 ≡ 0
      → STACK_FROM ≤ frame → frame + offset + 4 ≤ STACK_TO
      → Takes m i (take_by b rd offset) env (with_env rd (number_at m (frame + offset) 4) env)
  take_takes_by true i rd offset frame env near is pos_rd lt ne al above within =
      let e : sum (env 2) (word (pos offset)) ≡ frame + offset =
      ap (λ a. sum a (word (pos offset))) is ∙ omega arith in (
        ((pos_rd, lt, ap (λ a. a % 4) e ∙ al, omega (arith, e), omega (arith, e)), tt),
        ap (λ a. with_env rd (number_at m a 4) env) e,
      )
  take_takes_by false i rd offset frame env near is pos_rd lt ne al above within =
      let u = upper offset * 2 ^ 12 in
      let env1 = with_env rd u env in
      let w = sum (env1 rd) (env1 2) in
      let v = number_at m (frame + offset) 4 in
      let e = far_sum rd offset frame env ne is (omega arith) in (
        (
          (pos_rd, lt),
          (
            (pos_rd, lt),
            (
              (
                pos_rd,
                lt,
                ap (λ a. a % 4) e ∙ al,
                omega (arith, e),
                omega (arith, e),
              ),
              tt,
            ),
          ),
        ),
        ap (λ a. with_env rd (number_at m a 4) (with_env rd w env1)) e ∙ with_twice rd w v env1
            ∙ with_twice rd u v env,
      )

  -- a slot is taken
  pub slot_takes : (frame slots i rd slot : ℕ) (store : Store) (env : Env)
      → Framed frame slots store → slot < slots → env 2 ≡ frame → 0 < rd → rd < 32 → rd ≢ 2
      → Takes m i (take_slot rd slot) env
      (with_env rd (number_at m (frame + 4 * slot) 4) env)
  slot_takes frame slots i rd slot store env f lt is p small ne =
      let w = f.within in
      take_takes_by (is_near (4 * slot)) i rd (4 * slot) frame env refl is p small ne
      (omega (arith, f.aligned)) f.above (omega arith)
