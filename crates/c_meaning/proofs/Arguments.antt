-- Arguments on their way into a call.
use Rattle.std.proofs.Common.{◌≡◌, ◌∙◌, ◌+◌, ◌-◌, ◌≤◌, ◌<◌, ℕ, suc, List, [], ◌∷◌, ◌++◌, Option, Some, None, length, take, drop, reverse, refl, sym, ap, inl, inr, arith}
use Rattle.std.specs.Prelude.{map, slice_get, slice_index_or}
use Rattle.std.proofs.Math.Seq.{take-append_seam, drop-append_seam}
use Rattle.std.proofs.lemmas.Bool.{cases_lt}
use Rattle.std.proofs.lemmas.List.{drop_all, drop_more, length-drop, length-map, length-reverse, reverse-append, reverse-reverse, take_all, take-append-drop}
use Rattle.c_semantics.specs.declared.flow.Flow.TheVariants.{AtReturn}
use Rattle.c_resolve.specs.declared.node.Node.{Node}
use Rattle.c_resolve.specs.declared.node.Target.{Target}
use Rattle.c_resolve.specs.declared.routine.Parameter.{Parameter}
use Rattle.c_resolve.specs.Actions.{arguments_run}
use Rattle.c_meaning.specs.private.Called.{passing_one}
use Rattle.c_semantics.specs.Memory.{store_at}
use Rattle.c_semantics.specs.Run.{Store, Run, Goes, then_run, pure, ◌>>=◌, ◌>>◌, count}
use Rattle.c_resolve.specs.Nodes.{Runs, all_values, call_of, runs, target_run}
use Rattle.c_meaning.specs.private.Pending.{context_at, Program, Rest}
use Rattle.c_semantics.proofs.RunLemmas.{assoc, assoc_two, then_assoc}
use Rattle.c_resolve.specs.Context.{Context}

-- expressions give as many values as they are
pub all_values_then : {B : Type 0} (rs : List Runs) (f g : List ℕ → Run B)
    → ((xs : List ℕ) → length xs ≡ length rs → f xs ≡ g xs)
    → all_values rs >>= f ≡ all_values rs >>= g
all_values_then [] f g h = h [] refl
all_values_then (r ∷ rs) f g h =
    assoc_two (all_values rs) (λ v vs. pure (v ∷ vs)) f r.value
    ∙ (λ i. r.value >>= λ v. all_values_then rs (λ vs. f (v ∷ vs)) (λ vs. g (v ∷ vs)) (λ vs l. h (v ∷ vs) (ap suc l)) i)
    ∙ sym (assoc_two (all_values rs) (λ v vs. pure (v ∷ vs)) g r.value)

-- the topmost values are the arguments, and those below stay
pub taken : (xs vs : List ℕ) (n : ℕ) → length xs ≡ n → reverse (take n (reverse xs ++ vs)) ≡ xs
taken xs vs n h =
    ap (λ k. reverse (take k (reverse xs ++ vs))) (sym (length-reverse xs ∙ h))
    ∙ ap reverse (take-append_seam (reverse xs) vs) ∙ reverse-reverse xs

pub kept : (xs vs : List ℕ) (n : ℕ) → length xs ≡ n → drop n (reverse xs ++ vs) ≡ vs
kept xs vs n h = ap (λ k. drop k (reverse xs ++ vs)) (sym (length-reverse xs ∙ h)) ∙ drop-append_seam (reverse xs) vs

some_is_not_none : (v : ℕ) → Some v ≡ None → ⊥
some_is_not_none v is = cc

-- the last of some values are the first of them turned round, as often as there are so many
module _ (l : List ℕ) (n : ℕ) where
  both_ends : (length (drop (length l - n) l) ≡ n
      → (drop (length l - n) l ≡ reverse (take n (reverse l)))
      × (reverse (take (length l - n) l) ≡ drop n (reverse l)))
  both_ends len =
      let last = drop (length l - n) l in
      let first = reverse (take (length l - n) l) in
      let whole : reverse l ≡ reverse last ++ first = ap reverse (sym (take-append-drop (length l - n) l)) ∙ reverse-append (take (length l - n) l) last in
      (sym (ap (λ r. reverse (take n r)) whole ∙ taken last first n len), sym (ap (drop n) whole ∙ kept last first n len))

  pub ends : (drop (length l - n) l ≡ reverse (take n (reverse l)))
      × (reverse (take (length l - n) l) ≡ drop n (reverse l))
  ends =
      elim (cases_lt (length l) n) [
        | inl few ↦
            let none : length l - n ≡ 0 = omega arith in
            let all : length (reverse l) ≤ n = omega (arith, length-reverse l) in
            (ap (λ k. drop k l) none ∙ sym (ap reverse (take_all n (reverse l) all) ∙ reverse-reverse l), ap (λ k. reverse (take k l)) none ∙ sym (drop_all n (reverse l) all))
        | inr enough ↦ both_ends (length-drop (length l - n) l ∙ omega arith)
      ]

module _ (program : Program) (depth : ℕ) where
  -- a call behind its arguments, as the topmost values
  pub called_then : (t : Target) (all : List Node) (n : ℕ) (rest : Rest) (vs : List ℕ)
      → length all ≡ n
      → (call_of (context_at program depth) t all >>= λ v. rest (AtReturn v) vs)
      ≡ (all_values (map (runs (context_at program depth)) all)
      >>= λ xs. count >> (target_run (context_at program depth) t (reverse (take n (reverse xs ++ vs))) >>= λ v. rest (AtReturn v) (drop n (reverse xs ++ vs))))
  called_then t all n rest vs h =
      let context = context_at program depth in
      let values = all_values (map (runs context) all) in
      let go : List ℕ → Run (Option ℕ) = target_run context t in
      assoc values (λ xs. count >> go xs) (λ v. rest (AtReturn v) vs)
      ∙ all_values_then (map (runs context) all)
      (λ xs. (count >> go xs) >>= λ v. rest (AtReturn v) vs)
      (λ xs. count >> (go (reverse (take n (reverse xs ++ vs))) >>= λ v. rest (AtReturn v) (drop n (reverse xs ++ vs))))
      (λ xs l.
      assoc count (λ _. go xs) (λ v. rest (AtReturn v) vs)
      ∙ (λ i. count >> (go (sym (taken xs vs n (l ∙ length-map all (runs context) ∙ h)) i) >>= λ v. rest (AtReturn v) (sym (kept xs vs n (l ∙ length-map all (runs context) ∙ h)) i))))

module _ (context : Context) where
  -- the first argument, and then the others
  pub arguments_then : (p : Parameter) (ps : List Parameter) (v : ℕ) (vs : List ℕ) (store : Store)
      (left : ℕ)
      → arguments_run context (p ∷ ps) (v ∷ vs) store left ≡ then_run (passing_one p v store left) (λ _. arguments_run context ps vs)
  arguments_then p ps v vs store left = sym (then_assoc (store_at p.held (store.sp + p.offset) v p.place store left) (λ _. pure tt) (λ _. arguments_run context ps vs))

  arguments_first : (p : Parameter) (ps : List Parameter) (v : ℕ) (vs : List ℕ)
      → Some v ≡ slice_get vs 0 → (store : Store) (left : ℕ)
      → arguments_run context (p ∷ ps) vs store left ≡ then_run (passing_one p v store left) (λ _. arguments_run context ps (drop 1 vs))
  arguments_first p ps v [] is store left = absurd (some_is_not_none v is)
  arguments_first p ps v (w ∷ ws) is store left =
      let same : v ≡ w = cc in
      arguments_then p ps w ws store left ∙ ap (λ x. then_run (passing_one p x store left) (λ _. arguments_run context ps ws)) (sym same)

  -- an argument that is at hand, and then the others
  pub arguments_at : (ps : List Parameter) (i : ℕ) (d : Parameter) (v : ℕ) (vs : List ℕ)
      → i < length ps → Some v ≡ slice_get vs 0 → (store : Store) (left : ℕ)
      → arguments_run context (drop i ps) vs store left ≡ then_run (passing_one (slice_index_or ps i d) v store left) (λ _. arguments_run context (drop (i + 1) ps) (drop 1 vs))
  arguments_at ps i d v vs below is store left =
      ap (λ (qs : List Parameter). arguments_run context qs vs store left) (drop_more ps i d below)
      ∙ arguments_first (slice_index_or ps i d) (drop (i + 1) ps) v vs is store left

  -- no argument is left, or no parameter
  pub arguments_none : (ps : List Parameter) (vs : List ℕ) → None ≡ slice_get vs 0
      → (store : Store) (left : ℕ)
      → arguments_run context ps vs store left ≡ Goes tt store left
  arguments_none [] vs is store left = refl
  arguments_none (p ∷ ps) [] is store left = refl
  arguments_none (p ∷ ps) (v ∷ vs) is store left = absurd (some_is_not_none v (sym is))
