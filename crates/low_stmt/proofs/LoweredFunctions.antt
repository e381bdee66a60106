-- Functions that are added part by part.
use Rattle.std.proofs.Common.{◌≡◌, ℕ, ◌+◌, ◌*◌, ◌<◌, ◌≤◌, ◌⊎◌, ⊎_elim, List, [], ◌∷◌, ◌++◌, length, refl, ap, ◌∙◌, arith, append-nil}
use Rattle.std.specs.Prelude.{bytes_eq, pos}
use Rattle.bop_bits.specs.declared.map.TheConstants.{STACK_FROM}
use Rattle.rv_code.specs.declared.instr.Instr.TheVariants as instr
use Rattle.c_tree.specs.Accepted.{result_shape}
use Rattle.c_tree.specs.Declarators.{parameter_shape}
use Rattle.c_tree.specs.Fun.{Fun, Param}
use Rattle.c_tree.specs.Stmt.{Stmts}
use Rattle.c_layout.specs.Frames.{Planned}
use Rattle.c_semantics.specs.Meaning.{main_name}
use Rattle.c_semantics.specs.Names.{held}
use Rattle.low_labels.specs.declared.test.Test.TheVariants as test
use Rattle.low_labels.specs.Closed.{IsUnplaced}
use Rattle.low_labels.specs.Emission.{Emission, emit_all}
use Rattle.low_labels.specs.Operation.{Operation, Branch, Do, Mark}
use Rattle.low_expr.specs.CodePieces.{all_do, constant, frame_address, take_slot}
use Rattle.low_expr.specs.ExprCode.{machine_call}
use Rattle.low_expr.specs.Lowering.{fresh_by}
use Rattle.low_expr.proofs.MarkLemmas.{fresh_length}
use Rattle.low_stmt.specs.FunCode.{end_code, enter_code, last_word, leave_code, pass_code, targets_from}
use Rattle.low_stmt.specs.StmtCode.{labels_in_stmts, write_code}
use Rattle.low_stmt.specs.private.Parts.{joined, labels_alone, operations, Writes}
use Rattle.low_stmt.specs.private.StmtParts.{Scopes, end_fun_code, fun_part, inner_scope, own_places, stmts_part}
use Rattle.low_stmt.proofs.CodeIsPlain.{plain_write}
use Rattle.low_stmt.proofs.LoweredStatements.{step_as, step_closed, step_next, step_operations, step_own, step_plain}
use Rattle.low_stmt.proofs.PartLemmas.{added_length}
use Rattle.low_stmt.proofs.UnplacedLabels.{ArePlain, plain_append, plain_do, plain_unplaced, unplaced_append}

pub plain_pass : (r : ℕ) (places : List ℕ) (ps : List Param) → ArePlain (pass_code r places ps)
plain_pass r [] ps = tt
plain_pass r (place ∷ places) [] = tt
plain_pass r (place ∷ places) (p ∷ ps) =
    let xs = instr.Addi 5 r (pos 0) ∷ frame_address 7 place in
    plain_append (write_code xs (held (parameter_shape p))) (pass_code (r + 1) places ps) (plain_write xs (held (parameter_shape p))) (plain_pass (r + 1) places ps)

enter_unplaced : (size n k : ℕ) → (k < n) ⊎ (n + 3 ≤ k) → IsUnplaced k (enter_code size n)
enter_unplaced size n k out =
    let made = constant 5 size ++ instr.Sub 2 2 5 ∷ frame_address 7 (4 * last_word size) in
    let last : List Operation = all_do made ++ Do (instr.Sw 7 1 (pos 0)) ∷ [] in
    let plain = plain_unplaced last k (plain_append (all_do made) (Do (instr.Sw 7 1 (pos 0)) ∷ []) (plain_do made) tt) in
    let middle : List Operation = Branch test.GeU 2 5 n ∷ (machine_call 7 ++ Mark n ∷ last) in
    unplaced_append k (all_do (constant 5 (STACK_FROM + size))) middle
    (plain_unplaced (all_do (constant 5 (STACK_FROM + size))) k (plain_do (constant 5 (STACK_FROM + size))))
    ((λ e. ⊎_elim (λ x. let no : ⊥ = omega arith in no) (λ x. let no : ⊥ = omega arith in no) out, plain))

module _ (functions : List ℕ → ℕ) (scope : Scopes) (f : Fun) (frame : Planned) where
  end_unplaced : (n k : ℕ) → (k < n) ⊎ (n + 3 ≤ k)
      → IsUnplaced k (end_fun_code functions scope f frame n)
  end_unplaced n k out =
      let value = end_code (bytes_eq f.name main_name) in
      let left = take_slot 1 (last_word frame.size) ++ (constant 5 frame.size ++ instr.Add 2 2 5 ∷ []) in
      let last : List Operation = Mark (n + 2) ∷ leave_code frame.size in (
        λ e. ⊎_elim (λ x. let no : ⊥ = omega arith in no) (λ x. let no : ⊥ = omega arith in no) out,
        unplaced_append k (all_do value) last (plain_unplaced (all_do value) k (plain_do value))
            (λ e. ⊎_elim (λ x. let no : ⊥ = omega arith in no) (λ x. let no : ⊥ = omega arith in no) out, plain_unplaced (leave_code frame.size) k (plain_append (all_do left) (Do (instr.Jalr 0 1 (pos 0)) ∷ []) (plain_do left) tt)),
      )

  pub fun_step : (body : Stmts) (old m0 m1 m2 m3 new : Emission) (e0 e1 : List ℕ)
      → m0 ≡ fresh_by 3 old → m1 ≡ emit_all (enter_code frame.size (length old.places)) m0
      → m2 ≡ emit_all (pass_code 10 frame.places f.parameters) m1
      → Writes (stmts_part functions (inner_scope functions scope f frame) (result_shape f) (own_places functions scope f frame)
      (targets_from (length old.places)) body) m2 m3 e0 e1
      → new ≡ emit_all (end_fun_code functions scope f frame (length old.places)) m3
      → Writes (fun_part functions scope f frame body) old new e0 e1
  fun_step body old m0 m1 m2 m3 new e0 e1 made entered passed inner last =
      let n = length old.places in
      let low = n + 3 in
      let o1 = enter_code frame.size n in
      let o2 = pass_code 10 frame.places f.parameters in
      let o4 = end_fun_code functions scope f frame n in
      let inside = stmts_part functions (inner_scope functions scope f frame) (result_shape f) (own_places functions scope f frame) (targets_from n) body in
      let l0 : length m0.places ≡ low = ap (λ (e : Emission). length e.places) made ∙ fresh_length 3 old in
      let s1 = step_operations n low o1 m0 m1 e0 (omega arith) entered (enter_unplaced frame.size n) in
      let l1 = added_length n low (operations o1) m0 m1 s1.added in
      let s2 = step_plain n low o2 m1 m2 e0 (omega arith) passed (plain_pass 10 frame.places f.parameters) in
      let l2 = added_length n low (operations o2) m1 m2 s2.added in
      let s3 = step_own n low inside low m2 m3 e0 e1 (omega arith) (omega arith) (omega arith) inner in
      let l3 = added_length n low (inside low) m2 m3 s3.added in
      let s4 = step_operations n low o4 m3 new e1 (omega arith) last (end_unplaced n) in
      let b3 = step_next n low (inside low) (operations o4) m2 m3 new e0 e1 e1 (omega arith) s3 s4 in
      let p3 = joined (inside low) (operations o4) in
      let b2 = step_next n low (operations o2) p3 m1 m2 new e0 e0 e1 (omega arith) s2 b3 in
      let p2 = joined (operations o2) p3 in
      let b1 = step_next n low (operations o1) p2 m0 m1 new e0 e0 e1 (omega arith) s1 b2 in
      let whole = step_closed 3 (joined (operations o1) p2) old m0 new e0 e1 made b1 in
      let labels : 3 + (0 + (0 + (labels_in_stmts body + 0))) ≡ 3 + labels_in_stmts body = omega arith in
      step_as n n (joined (labels_alone 3) (joined (operations o1) p2)) (fun_part functions scope f frame body n)
      old new e0 e1 labels (λ ds. refl) (append-nil (inside low).ends) whole
