-- Operations behind operations, and words of code.
use Rattle.std.proofs.Common.{◌≡◌, ℕ, zero, suc, ◌+◌, ◌-◌, ◌<◌, List, [], ◌∷◌, ◌++◌, length, take, get_or, Result, Ok, Err, ap, subst, ◌∙◌, refl, arith}
use Rattle.std.specs.Result.{IfErr}
use Rattle.std.proofs.lemmas.List.{map-append, map_more, length-take-le}
use Rattle.rv_code.specs.declared.instr.Instr.{Instr}
use Rattle.low_labels.specs.declared.fault.AsmFault.{AsmFault}
use Rattle.low_labels.specs.declared.fault.AsmFault.TheVariants.{CodeTooLong}
use Rattle.low_labels.specs.Emission.{Emission, emit, emit_all, IsTooLong}
use Rattle.low_labels.specs.Operation.{Operation, width, width_of}
use Rattle.low_labels.specs.Operation as op
use Rattle.low_labels.proofs.EmissionLemmas.{length-lines, length-placed}
use Rattle.low_expr.specs.CodePieces.{all_do, take_slot}
use Rattle.low_expr.specs.ExprCode.{arguments_into}
use Rattle.low_expr.proofs.KeptValues.{all_width, width-append}

pub emit_append : (xs ys : List Operation) (e : Emission)
    → emit_all (xs ++ ys) e ≡ emit_all ys (emit_all xs e)
emit_append [] ys e = refl
emit_append (x ∷ xs) ys e = emit_append xs ys (emit x e)

pub do_append : (xs ys : List Instr) → all_do (xs ++ ys) ≡ all_do xs ++ all_do ys
do_append xs ys = map-append op.Do xs ys

pub lines_more : (os : List Operation) (e : Emission)
    → length (emit_all os e).lines ≡ length e.lines + width_of os
lines_more [] e = omega arith
lines_more (o ∷ os) e =
    let rest = lines_more os (emit o e) in
    let len = length-lines o e.lines in
    omega arith

-- what is too long behind operations is too long with them
pub too_long_behind : (xs : List Operation) (n : ℕ) (e : Emission) → IsTooLong n (emit_all xs e)
    → IsTooLong (width_of xs + n) e
too_long_behind xs n e h =
    let len = lines_more xs e in
    omega arith

pub do_more : (xs : List Instr) (i : ℕ) (d : Instr) (e : Emission) → i < length xs
    → emit_all (all_do (take (i + 1) xs)) e
    ≡ emit (op.Do (get_or xs i d)) (emit_all (all_do (take i xs)) e)
do_more xs i d e h =
    ap (λ os. emit_all os e) (map_more op.Do xs i d h)
    ∙ emit_append (all_do (take i xs)) (op.Do (get_or xs i d) ∷ []) e

-- one word more than some of the instructions
pub some_too_long : (xs : List Instr) (i : ℕ) (e : Emission) → i < length xs
    → IsTooLong 1 (emit_all (all_do (take i xs)) e) → IsTooLong (width_of (all_do xs)) e
some_too_long xs i e h long =
    let behind = too_long_behind (all_do (take i xs)) 1 e long in
    let some = all_width (take i xs) in
    let all = all_width xs in
    let len = length-take-le i xs (omega arith) in
    omega arith

-- as many labels as before
pub labels_same : (os : List Operation) (e : Emission)
    → length (emit_all os e).places ≡ length e.places
labels_same [] e = refl
labels_same (o ∷ os) e = labels_same os (emit o e) ∙ length-placed o (length e.lines) e.places

pub ruleset sequences = (do_append, emit_append, width-append, lines_more, labels_same)

-- what is too long behind operations, with them
pub refused_behind : {A : Type 0} (r : Result A AsmFault) (xs ys all : List Operation)
    (e mid : Emission) → mid ≡ emit_all xs e → all ≡ xs ++ ys
    → IfErr r (λ fault. fault ≡ CodeTooLong → IsTooLong (width_of ys) mid)
    → IfErr r (λ fault. fault ≡ CodeTooLong → IsTooLong (width_of all) e)
refused_behind (Ok x) xs ys all e mid here whole refused = tt
refused_behind (Err fault) xs ys all e mid here whole refused = λ said.
    let long = too_long_behind xs (width_of ys) e (subst (IsTooLong (width_of ys)) here (refused said)) in
    let len = width-append xs ys in
    let same = ap width_of whole in
    omega arith

pub argument_first : (n rd slot : ℕ) → 0 < n
    → arguments_into n rd slot ≡ take_slot rd slot ++ arguments_into (n - 1) (rd + 1) (slot + 1)
argument_first zero rd slot h = let no : ⊥ = omega arith in absurd no
argument_first (suc n) rd slot h =
    let same : n ≡ suc n - 1 = omega arith in
    ap (λ k. take_slot rd slot ++ arguments_into k (rd + 1) (slot + 1)) same
