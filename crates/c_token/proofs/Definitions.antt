-- What a line defines.
use Rattle.std.proofs.Common.{List, None, Option, Some, ap, arith, cond, drop, eqb-true, false, inl, inr, length, nat_cmp, refl, subst, sym, take, true, ℕ, ⊎_elim, ◌<◌, ◌∙◌, ◌≡◌, ◌≤◌}
use Rattle.std.proofs.lemmas.Bool.{and_parts, not-false}
use Rattle.std.proofs.lemmas.List.Sums.{prefix_len-le-length}
use Rattle.std.proofs.lemmas.Map.Text.{is_eq-slice_cmp}
use Rattle.std.specs.BTreeMap.{BTreeMap, UpdatesBy}
use Rattle.std.specs.Borrow.{Bor}
use Rattle.std.specs.Cmp.Lexicographic.{slice_cmp}
use Rattle.std.specs.List.{list_all, prefix_len}
use Rattle.std.specs.Option.{is_some}
use Rattle.std.specs.Prelude.{nat_eq, ◌&&◌}
use Rattle.c_token.specs.Bytes.{first}
use Rattle.c_token.specs.Comments.{EndsLine, is_in_line}
use Rattle.c_token.specs.Directives.{IsDirective, begins_directive}
use Rattle.c_token.specs.Pieces.{IsNew, IsPiece, found_by, with_name}
use Rattle.c_token.specs.private.Readers.{names_of}
use Rattle.c_token.specs.declared.number.Number.{Number}
use Rattle.c_token.specs.declared.reader.Reader.{Reader}
use Rattle.c_token.proofs.TokenLists.{false_true, first_take}
use Rattle.c_token.proofs.ByteRuns.{run_all, run_ends, some_len}
use Rattle.c_token.specs.Pieces.IsPiece.{directive}

pub names_defined : (old new : BTreeMap (Bor (List ℕ)) Number) (key : Bor (List ℕ)) (n : Number)
    → UpdatesBy (λ x y. slice_cmp nat_cmp x.now y.now)
    (λ k. slice_cmp nat_cmp key.now k.now) old new (Some n)
    → names_of new ≡ with_name key.now n (names_of old)
names_defined old new key n u = λ i name. (u.0 (record { ref_ptr = key.ref_ptr; now = name }) ∙ ap (λ b. cond b (Some n) (names_of old name)) (is_eq-slice_cmp key.now name)) i

pub directive_piece : (r : Reader) (n : ℕ) (said : Option (List ℕ × Number))
    → begins_directive r.spot r.rest.now ≡ true → n ≡ prefix_len is_in_line r.rest.now
    → IsDirective (take n r.rest.now) said → IsNew (names_of r.defines) said
    → (0 < n) × (n ≤ length r.rest.now) × IsPiece r.spot (names_of r.defines) (take n r.rest.now) (drop n r.rest.now) (found_by said)
directive_piece r n said begins len is new =
    let rest : List ℕ = r.rest.now in
    let head : first rest ≡ 35 = eqb-true (first rest) 35 (and_parts r.spot.fresh (nat_eq (first rest) 35) begins).1 in
    let some : 0 < n = omega (arith, len, some_len rest head) in (
      some,
      omega (arith, len, prefix_len-le-length is_in_line rest),
      directive said
          (ap (λ b. r.spot.fresh && nat_eq b 35) (first_take n rest some) ∙ begins)
          (subst (λ m. list_all is_in_line (take m rest) ≡ true) (sym len) (run_all is_in_line rest))
          (subst (λ m. EndsLine (drop m rest)) (sym len) (⊎_elim (λ e. inl e) (λ e. inr (eqb-true _ 10 (not-false _ e))) (run_ends is_in_line rest)))
          is new,
    )

pub is_new : (o : Option Number) → false ≡ is_some o → o ≡ None
is_new None h = refl
is_new (Some x) h = false_true h
