-- The numbers of the blocks that declare a name: when a block is opened, closed or declares one name more, and which is the innermost.
use Rattle.std.proofs.Common.{◌≡◌, ℕ, ◌+◌, ◌-◌, ◌<◌, zero, suc, Bool, true, false, cond, List, [], ◌∷◌, ◌++◌, length, get_or, Option, Some, None, is_some, true≢false, refl, ap, sym, subst, ◌∙◌, arith}
use mathlib.Core.Logic.{◌⊎◌, inl, inr, ⊎_elim}
use Rattle.std.specs.Cmp.Lexicographic.{bytes_decides}
use Rattle.std.specs.Prelude.{bytes_eq, slice_get}
use Rattle.std.proofs.lemmas.Bool.{cases_Bool, cond-true, cond-false}
use Rattle.std.proofs.lemmas.Grind.{common_steps}
use Rattle.std.proofs.lemmas.List.{append-nil, append_assoc}
use Rattle.c_tree.specs.Blocks.{Frame, no_names, bound, otherwise, look_outer}
use Rattle.c_scope.specs.BlockNames.{frame_of, frames_of}
use Rattle.c_scope.specs.declared.block.Block.{Block}
use Rattle.c_scope.specs.private.Index.{number_if, without_last_if, declaring, unbound}

-- one block within the others
declaring_push : {A : Type 0} → (n : ℕ) (fs : List (Frame A)) (f : Frame A) (name : List ℕ)
    → declaring n (fs ++ f ∷ []) name
    ≡ declaring n fs name ++ number_if (is_some (f name)) (n + length fs)
declaring_push n [] f name = append-nil _ ∙ ap (number_if (is_some (f name))) (omega arith)
declaring_push n (g ∷ fs) f name =
    ap (λ ns. number_if (is_some (g name)) n ++ ns)
    (declaring_push (suc n) fs f name ∙ ap (λ m. declaring (suc n) fs name ++ number_if (is_some (f name)) m) (omega arith))
    ∙ sym (append_assoc (number_if (is_some (g name)) n) (declaring (suc n) fs name) _)

without_last_pushed : (b : Bool) (xs : List ℕ) (n : ℕ)
    → without_last_if b (xs ++ number_if b n) ≡ xs
without_last_pushed true xs n = grind (arith, common_steps)
without_last_pushed false xs n = append-nil xs

-- a new block declares nothing
pub opened : {A : Type 0} → (fs : List (Frame A)) (f fresh : Frame A) (name : List ℕ) → fresh ≡ no_names
    → declaring 0 ((fs ++ f ∷ []) ++ fresh ∷ []) name ≡ declaring 0 (fs ++ f ∷ []) name
opened fs f fresh name empty =
    declaring_push 0 (fs ++ f ∷ []) fresh name
    ∙ (ap (λ (g : Frame _). declaring 0 (fs ++ f ∷ []) name ++ number_if (is_some (g name)) (0 + length (fs ++ f ∷ []))) empty ∙ append-nil _)

-- the innermost block is taken out
pub closed : {A : Type 0} → (fs : List (Frame A)) (f : Frame A) (name : List ℕ)
    → without_last_if (is_some (f name)) (declaring 0 (fs ++ f ∷ []) name) ≡ declaring 0 fs name
closed fs f name = ap (without_last_if (is_some (f name))) (declaring_push 0 fs f name) ∙ without_last_pushed (is_some (f name)) (declaring 0 fs name) (0 + length fs)

-- only whether a block declares the name counts
declaring_alike : {A : Type 0} → (fs : List (Frame A)) (f g : Frame A) (name : List ℕ)
    → is_some (f name) ≡ is_some (g name)
    → declaring 0 (fs ++ f ∷ []) name ≡ declaring 0 (fs ++ g ∷ []) name
declaring_alike fs f g name same =
    declaring_push 0 fs f name ∙ (ap (λ b. declaring 0 fs name ++ number_if b (0 + length fs)) same ∙ sym (declaring_push 0 fs g name))

-- a name that the block had
bound_again : {A : Type 0} → (name : List ℕ) (entry : A) (f : Frame A) → is_some (f name) ≡ true
    → (other : List ℕ) → is_some (f other) ≡ is_some (bound name entry f other)
bound_again name entry f here other =
    ⊎_elim
    (λ y. subst (λ n. is_some (f n) ≡ true) ((bytes_decides name other).0 y) here ∙ sym (ap is_some (cond-true (bytes_eq name other) (Some entry) (f other) y)))
    (λ n. sym (ap is_some (cond-false (bytes_eq name other) (Some entry) (f other) n)))
    (cases_Bool (bytes_eq name other))

-- a name that the block did not have
bound_newly : {A : Type 0} → (name : List ℕ) (entry : A) (f : Frame A) → is_some (f name) ≡ false
    → (n : ℕ) (other : List ℕ) → number_if (is_some (f other)) n ++ number_if (bytes_eq name other) n ≡ number_if (is_some (bound name entry f other)) n
bound_newly name entry f absent n other =
    ⊎_elim
    (λ y.
    let none : is_some (f other) ≡ false = subst (λ m. is_some (f m) ≡ false) ((bytes_decides name other).0 y) absent in
    ap (λ b. number_if b n ++ number_if (bytes_eq name other) n) none
    ∙ (ap (λ b. number_if b n) y ∙ sym (ap (λ o. number_if (is_some o) n) (cond-true (bytes_eq name other) (Some entry) (f other) y))))
    (λ e.
    ap (λ b. number_if (is_some (f other)) n ++ number_if b n) e
    ∙ (append-nil _ ∙ sym (ap (λ o. number_if (is_some o) n) (cond-false (bytes_eq name other) (Some entry) (f other) e))))
    (cases_Bool (bytes_eq name other))

pub declared_again : {A : Type 0} → (fs : List (Frame A)) (f new : Frame A) (name : List ℕ) (entry : A)
    → new ≡ bound name entry f → is_some (f name) ≡ true
    → (other : List ℕ) → declaring 0 (fs ++ f ∷ []) other ≡ declaring 0 (fs ++ new ∷ []) other
declared_again fs f new name entry is here other =
    declaring_alike fs f new other (bound_again name entry f here other ∙ ap (λ (g : Frame _). is_some (g other)) (sym is))

pub declared_newly : {A : Type 0} → (fs : List (Frame A)) (f new : Frame A) (name : List ℕ) (entry : A)
    → new ≡ bound name entry f → is_some (f name) ≡ false
    → (other : List ℕ) → declaring 0 (fs ++ f ∷ []) other ++ number_if (bytes_eq name other) (0 + length fs) ≡ declaring 0 (fs ++ new ∷ []) other
declared_newly fs f new name entry is absent other =
    let n = 0 + length fs in
    ap (λ ns. ns ++ number_if (bytes_eq name other) n) (declaring_push 0 fs f other)
    ∙ (append_assoc (declaring 0 fs other) _ _
    ∙ (ap (λ ns. declaring 0 fs other ++ ns) (bound_newly name entry f absent n other ∙ ap (λ (g : Frame _). number_if (is_some (g other)) n) (sym is))
    ∙ sym (declaring_push 0 fs new other)))

none_from : {A : Type 0} (o : Option A) → is_some o ≡ false → None ≡ o
none_from None h = refl
none_from (Some x) h = absurd (true≢false h)

unbound_at : {A : Type 0} → (b : Bool) (entry : A) (o : Option A) → (b ≡ true → None ≡ o)
    → cond b None (cond b (Some entry) o) ≡ o
unbound_at true entry o h = h refl
unbound_at false entry o h = refl

-- a new name is taken back
pub taken_back : {A : Type 0} → (name : List ℕ) (entry : A) (f with_it without_it : Frame A)
    → with_it ≡ bound name entry f → without_it ≡ unbound name with_it → is_some (f name) ≡ false
    → without_it ≡ f
taken_back name entry f with_it without_it put taken absent =
    taken
    ∙ (ap (unbound name) put
    ∙ (λ i other. unbound_at (bytes_eq name other) entry (f other) (λ y. none_from (f other) (subst (λ n. is_some (f n) ≡ false) ((bytes_decides name other).0 y) absent)) i))

-- the last number, counted from n, is that of the block where the name is found
record Found {A : Type 0} (n : ℕ) (fs : List (Frame A)) (name : List ℕ) : Type 0 where
  at : ℕ
  last : slice_get (declaring n fs name) (length (declaring n fs name) - 1) ≡ Some (n + at)
  inside : at < length fs
  same : look_outer fs name ≡ get_or fs at no_names name
  there : is_some (look_outer fs name) ≡ true

last_behind : (b : Bool) (n : ℕ) (ns : List ℕ) (k : ℕ) → slice_get ns (length ns - 1) ≡ Some k
    → slice_get (number_if b n ++ ns) (length (number_if b n ++ ns) - 1) ≡ Some k
last_behind false n ns k h = h
last_behind true n [] k h = grind (arith, common_steps, h)
last_behind true n (m ∷ ms) k h =
    let before : length (n ∷ m ∷ ms) - 1 ≡ suc (length ms) = omega arith in
    let behind : length ms ≡ length (m ∷ ms) - 1 = omega arith in
    ap (slice_get (n ∷ m ∷ ms)) before ∙ (ap (slice_get (m ∷ ms)) behind ∙ h)

first_some : {A : Type 0} → (x y : Option A) → is_some x ≡ true → otherwise x y ≡ x
first_some (Some x) y h = refl
first_some None y h = absurd (true≢false (sym h))

find : {A : Type 0} → (n : ℕ) (fs : List (Frame A)) (name : List ℕ)
    → ((declaring n fs name ≡ []) × (look_outer fs name ≡ None)) ⊎ Found n fs name
find n [] name = inl (refl, refl)
find n (f ∷ fs) name =
    ⊎_elim
    (λ h. ⊎_elim
    (λ y. inr (record {
      at = 0;
      last = ap (λ ns. slice_get ns (length ns - 1)) (ap (λ b. number_if b n ++ declaring (suc n) fs name) y ∙ ap (λ ns. n ∷ ns) h.0) ∙ ap Some (omega arith);
      inside = omega arith;
      same = ap (λ o. otherwise o (f name)) h.1;
      there = ap (λ o. is_some (otherwise o (f name))) h.1 ∙ y;
    }))
    (λ e. inl (ap (λ b. number_if b n ++ declaring (suc n) fs name) e ∙ h.0, ap (λ o. otherwise o (f name)) h.1 ∙ sym (none_from (f name) e)))
    (cases_Bool (is_some (f name))))
    (λ r. inr (record {
      at = suc r.at;
      last = last_behind (is_some (f name)) n (declaring (suc n) fs name) (n + suc r.at) (r.last ∙ ap Some (omega arith));
      inside = omega (arith, r.inside);
      same = first_some (look_outer fs name) (f name) r.there ∙ r.same;
      there = ap is_some (first_some (look_outer fs name) (f name) r.there) ∙ r.there;
    }))
    (find (suc n) fs name)

pub found_none : {A : Type 0} → (fs : List (Frame A)) (name : List ℕ)
    → slice_get (declaring 0 fs name) (length (declaring 0 fs name) - 1) ≡ None
    → look_outer fs name ≡ None
found_none fs name h = ⊎_elim (λ none. none.1) (λ r. grind (arith, h, r.last)) (find 0 fs name)

pub found_some : {A : Type 0} → (fs : List (Frame A)) (name : List ℕ) (number : ℕ)
    → slice_get (declaring 0 fs name) (length (declaring 0 fs name) - 1) ≡ Some number
    → (number < length fs) × (look_outer fs name ≡ get_or fs number no_names name)
found_some fs name number h =
    ⊎_elim
    (λ none. grind (arith, common_steps, h, none.0))
    (λ r.
    let same : r.at ≡ number = grind (arith, h, r.last) in
    (subst (λ k. k < length fs) same r.inside, r.same ∙ ap (λ k. get_or fs k no_names name) same))
    (find 0 fs name)

-- the block of a number, where the innermost comes last
pub frame_at : {A : Type 0} → (bs : List (Block A)) (b : Block A) (i : ℕ) → i < length (frames_of bs ++ frame_of b ∷ [])
    → get_or (frames_of bs ++ frame_of b ∷ []) i no_names ≡ frame_of (get_or bs i b)
frame_at [] b zero h = refl
frame_at [] b (suc i) h = absurd (omega (arith, h))
frame_at (x ∷ bs) b zero h = refl
frame_at (x ∷ bs) b (suc i) h = frame_at bs b i (omega (arith, h))
