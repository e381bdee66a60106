-- A value is written into an object, with a few instructions that no step of their own pays for.
use Rattle.std.proofs.Common.{◌≡◌, ◌≢◌, ℕ, ◌+◌, ◌%◌, ◌^◌, ◌<◌, ◌≤◌, List, [], ◌∷◌, ◌++◌, length, refl, sym, ap, ◌∙◌, subst, arith, length-append}
use Rattle.std.specs.Prelude.{Bool, true, false, bit_and, ◌==◌, if◌then◌else◌, pos}
use Rattle.std.specs.List.{list_any}
use Rattle.std.proofs.lemmas.Bool.{and_parts, eqb-true}
use Rattle.std.proofs.lemmas.Nat.{and_mask}
use Rattle.bop_bits.specs.declared.map.TheConstants.{CODE_WORDS}
use Rattle.bop_bits.specs.MemoryNumbers.{byte_at}
use Rattle.rv_code.specs.declared.effect.Effect.TheVariants.{Stores}
use Rattle.rv_code.specs.declared.instr.Instr.{Instr}
use Rattle.rv_code.specs.declared.instr.Instr.TheVariants as instr
use Rattle.rv_code.specs.Word.{sum, word}
use Rattle.rv_code.specs.State.{State, register}
use Rattle.rv_code.specs.Step.{address_of}
use Rattle.c_tree.specs.declared.place.Place.{Place}
use Rattle.c_tree.specs.declared.undefined.Undefined.TheVariants.{Access}
use Rattle.c_semantics.specs.declared.kind.Held.{Held}
use Rattle.c_semantics.specs.declared.kind.Held.TheVariants.{Byte, Word, Array}
use Rattle.c_semantics.specs.Run.{Store, pure, ◌>>◌, change, undefined, then_run}
use Rattle.c_semantics.specs.Memory.{holds, is_fine, write, store_at}
use Rattle.low_labels.specs.Operation.{Operation, width_of}
use Rattle.low_labels.specs.Operation as op
use Rattle.low_labels.specs.Placed.{HasAt}
use Rattle.low_expr.specs.CodePieces.{narrow_by, all_do}
use Rattle.low_expr.specs.Agreement.{Agrees, Framed, Keeps}
use Rattle.low_expr.specs.Following.{Follows}
use Rattle.low_expr.proofs.StoredBytes.{held_inside}
use Rattle.low_expr.proofs.PlainCode.{Env, with_env, effect_in, then_comes, is_place_of}
use Rattle.low_expr.proofs.CodePiecesLemmas.{Takes, takes_append, takes_none, with_other}
use Rattle.low_expr.proofs.KeptValues.{all_width, width-append, reached, stored_state, comes_stored, next_place}
use Rattle.low_expr.proofs.WrittenObjects.{with_object, stored_agrees, stored_keeps, stored_fields}
use Rattle.low_stmt.specs.StmtCode.{write_code}
use Rattle.low_stmt.proofs.StatementParts.{with_credit}

-- the other registers have what they had
abbrev pub HasRegisters : Env → Unit {0} → State → Type 0
HasRegisters env u s = (q : ℕ) → q ≢ 5 → register s.registers q ≡ env q

module _ (code input : List ℕ) (short : length code ≤ CODE_WORDS) (labels : ℕ → ℕ)
    (frame room top : ℕ) where
  -- an instruction that stores register 5 at the address in register 7
  abbrev IsStore : Instr → (size : ℕ) → Type 0
  IsStore x size =
      (s : State) → effect_in x (register s.registers) s.pc
      ≡ Stores (sum (register s.registers 7) (word (pos 0))) size (register s.registers 5)

  object_written : (x : Instr) (c size i at v n : ℕ) (place : Place) (xs : List Instr)
      (env env0 : Env)
      (s : State) (store : Store) → IsStore x size → 0 < size → length xs + 1 ≤ c → Agrees store s
      → Framed frame room store → s.pc ≡ address_of i → HasAt code labels i (all_do xs ++ op.Do x ∷ [])
      → Takes s.memory i xs (register s.registers) env → env 2 ≡ frame → env 5 ≡ v → env 7 ≡ at
      → ((q : ℕ) → q ≢ 5 → env q ≡ env0 q)
      → Follows code input (with_credit c) store 0 top n
      (λ u. i + width_of (all_do xs ++ op.Do x ∷ [])) s (HasRegisters env0)
      (then_run (write size at v place store n) (λ w. pure tt))
  object_written x c size i at v n place xs env env0 s store is_store positive few a f pc has
      t sp is to others =
      decided (is_fine at size store.live) refl
    where
      last : List Operation
      last = op.Do x ∷ []

      decided : (b : Bool) → is_fine at size store.live ≡ b
          → Follows code input (with_credit c) store 0 top n
          (λ u. i + width_of (all_do xs ++ last)) s (HasRegisters env0)
          (then_run ((if b then change (with_object store size at v) >> pure v
          else undefined Access place) store n) (λ w. pure tt))
      decided false e = record { by = tt }
      decided true e =
          let p = and_parts (list_any (holds at size) store.live) (at % size == 0) e in
          let al = eqb-true (at % size) 0 p.1 in
          let inside = held_inside store.live at size f.inside p.0 in
          let r = reached code input short labels i xs last env store s a pc has t (sp ∙ sym f.is) in
          let s1 = r.state in
          let w1 = r.went in
          let k = i + length xs in
          let back = r.next in
          let to1 : sum (register s1.registers 7) (word (pos 0)) ≡ at = ap (λ z. sum z (word (pos 0))) (ap (λ e. e 7) w1.is ∙ to) ∙ omega (arith, inside.1) in
          let v1 : register s1.registers 5 ≡ v = ap (λ e. e 5) w1.is ∙ is in
          let what : effect_in x (register s1.registers) s1.pc ≡ Stores at size v = is_store s1 ∙ ap (λ z. Stores z size (register s1.registers 5)) to1 ∙ ap (Stores at size) v1 in
          let s2 = stored_state s1 at size v in
          let c2 = comes_stored code input labels s1 k x at size v w1.pc back.0 what al inside.0 (omega (arith, inside.1, positive)) in
          let place_k = is_place_of code k _ back.0.1 in
          let fields = stored_fields s1 at size v in
          let pc2 : s2.pc ≡ address_of (k + 1) = fields.0 ∙ next_place k s1.pc (omega (arith, place_k, short)) w1.pc in
          let ends_at : k + 1 ≡ i + width_of (all_do xs ++ last) = omega (arith, width-append (all_do xs) last, all_width xs) in
          record {
            by = (
              length xs + 1,
              s2,
              record {
                comes = then_comes code input (length xs) 1 s s1 s2 w1.comes c2;
                pc = pc2 ∙ ap address_of ends_at;
                agrees = stored_agrees store s1 size at v r.agrees inside.0 inside.1;
                same_sp = refl;
                same_live = refl;
                keeps = subst (λ l. Keeps store 0 top l s2.memory) w1.memory
                    (stored_keeps frame room store s1 size at v 0 top f p.0 inside.0);
                least = omega arith;
                most = omega arith;
              },
              λ q ne. ap (λ z. register z q) fields.1 ∙ ap (λ e. e q) w1.is ∙ others q ne,
            );
          }

  -- a value in register 5 is stored as the object's type, at the address in register 7
  pub write_follows : (h : Held) (c i at v n : ℕ) (place : Place) (xs : List Instr) (env : Env)
      (s : State) (store : Store) → length xs + 2 ≤ c → Agrees store s → Framed frame room store
      → s.pc ≡ address_of i → HasAt code labels i (write_code xs h)
      → Takes s.memory i xs (register s.registers) env → env 2 ≡ frame → env 5 ≡ v → v < 2 ^ 32
      → env 7 ≡ at
      → Follows code input (with_credit c) store 0 top n (λ u. i + width_of (write_code xs h)) s
      (HasRegisters env) (then_run (store_at h at v place store n) (λ w. pure tt))
  write_follows Byte c i at v n place xs env s store few a f pc has t sp is fits to =
      let low : List Instr = narrow_by Byte in
      let env1 = with_env 5 (bit_and (env 5) 255) env in
      let same : bit_and (env 5) 255 ≡ v % 2 ^ 8 = ap (λ z. bit_and z 255) is ∙ and_mask v 8 in
      let t1 : Takes s.memory (i + length xs) low env env1 = (((omega arith, omega arith), tt), refl) in
      object_written (instr.Sb 7 5 (pos 0)) c 1 i at (v % 2 ^ 8) n place (xs ++ low) env1 env s store
      (λ s. refl) (omega arith) (omega (arith, length-append xs low)) a f pc has
      (takes_append s.memory xs low i (register s.registers) env env1 t t1) sp same to
      (λ q ne. with_other 5 (bit_and (env 5) 255) q env ne)
  write_follows Word c i at v n place xs env s store few a f pc has t sp is fits to =
      let same : v ≡ v % 2 ^ 32 = omega (arith, fits) in
      object_written (instr.Sw 7 5 (pos 0)) c 4 i at (v % 2 ^ 32) n place (xs ++ []) env env s store
      (λ s. refl) (omega arith) (omega (arith, length-append xs [])) a f pc has
      (takes_append s.memory xs [] i (register s.registers) env env t
      (takes_none s.memory (i + length xs) env)) sp (is ∙ same) to (λ q ne. refl)
  write_follows Array c i at v n place xs env s store few a f pc has t sp is fits to =
      let xs1 = xs ++ [] in
      let t1 = takes_append s.memory xs [] i (register s.registers) env env t (takes_none s.memory (i + length xs) env) in
      let r = reached code input short labels i xs1 [] env store s a pc has t1 (sp ∙ sym f.is) in
      let w1 = r.went in
      let ends_at : i + length xs1 ≡ i + width_of (all_do xs1 ++ []) = omega (arith, width-append (all_do xs1) [], all_width xs1) in
      record {
        by = (
          length xs1,
          r.state,
          record {
            comes = w1.comes;
            pc = w1.pc ∙ ap address_of ends_at;
            agrees = r.agrees;
            same_sp = refl;
            same_live = refl;
            keeps = record { by = λ b ge dead off. ap (λ l. byte_at l b) w1.memory };
            least = omega arith;
            most = omega (arith, length-append xs []);
          },
          λ q ne. ap (λ e. e q) w1.is,
        );
      }
