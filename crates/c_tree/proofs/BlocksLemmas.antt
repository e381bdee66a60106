-- Blocks that are entered and left, and blocks whose names stand for something else.
use Rattle.std.proofs.Common.{◌≡◌, ℕ, ◌<◌, Bool, true, false, cond, length, List, [], ◌∷◌, ◌++◌, Option, Some, None, is_some, map, refl, ap, subst, sym, ◌∙◌, arith}
use Rattle.std.specs.Prelude.{option_map, bytes_eq}
use Rattle.std.proofs.lemmas.List.{map-append, length-map, length-append, same_from_push}
use Rattle.c_tree.specs.Blocks.{Frame, Blocks, bound, otherwise, look_outer, look, declared, entered, mapped_frame, mapped}

module _ {A : Type 0} where
  none_behind : (x : Option A) → x ≡ otherwise x None
  none_behind (Some x) = refl
  none_behind None = refl

  otherwise_assoc : (x y z : Option A) → otherwise (otherwise x y) z ≡ otherwise x (otherwise y z)
  otherwise_assoc (Some x) y z = refl
  otherwise_assoc None y z = refl

  -- the innermost block as the last of all
  pub look_all : (fs : List (Frame A)) (f : Frame A) (name : List ℕ)
      → look_outer (fs ++ f ∷ []) name ≡ otherwise (f name) (look_outer fs name)
  look_all [] f name = none_behind (f name)
  look_all (g ∷ fs) f name =
      ap (λ o. otherwise o (g name)) (look_all fs f name) ∙ otherwise_assoc (f name) (look_outer fs name) (g name)

  -- a new block hides no name
  pub look_entered : (blocks : Blocks A) (name : List ℕ) → look (entered blocks) name ≡ look blocks name
  look_entered blocks name = look_all blocks.outer blocks.inner name

  -- blocks of which one was entered and left are as they were
  pub left_is : (old between new : Blocks A) → between.outer ≡ (entered old).outer
      → between.outer ≡ new.outer ++ new.inner ∷ [] → new ≡ old
  left_is old between new a b =
      let both = same_from_push old.outer new.outer old.inner new.inner (sym a ∙ b) in
      λ i. record { outer = sym both.0 i; inner = sym both.1 i }

  pub entered_long : (old between : Blocks A) → between.outer ≡ (entered old).outer
      → 0 < length between.outer
  entered_long old between a = omega (arith, ap length a, length-append old.outer (old.inner ∷ []))

  -- the end of a way on from an entered block on which no block was opened or closed
  pub from_entered : (old opened end : Blocks A) → opened ≡ entered old → end.outer ≡ opened.outer
      → end.outer ≡ (entered old).outer
  from_entered old opened end a b = b ∙ ap (λ (x : Blocks A). x.outer) a

module _ {A B : Type 0} (f : A → B) where
  some_mapped : (o : Option A) → is_some (option_map f o) ≡ is_some o
  some_mapped None = refl
  some_mapped (Some x) = refl

  mapped_if : (b : Bool) (x y : Option A)
      → option_map f (cond b x y) ≡ cond b (option_map f x) (option_map f y)
  mapped_if true x y = refl
  mapped_if false x y = refl

  mapped_bound : (name : List ℕ) (x : A) (frame : Frame A)
      → mapped_frame f (bound name x frame) ≡ bound name (f x) (mapped_frame f frame)
  mapped_bound name x frame = λ i other. mapped_if (bytes_eq name other) (Some x) (frame other) i

  -- one name more
  pub mapped_declared : (name : List ℕ) (x : A) (blocks : Blocks A)
      → mapped f (declared name x blocks) ≡ declared name (f x) (mapped f blocks)
  mapped_declared name x blocks =
      ap (λ inner. record { outer = map (mapped_frame f) blocks.outer; inner = inner }) (mapped_bound name x blocks.inner)

  -- a block is opened
  pub mapped_entered : (blocks : Blocks A) → mapped f (entered blocks) ≡ entered (mapped f blocks)
  mapped_entered blocks =
      ap (λ outer. record { outer = outer; inner = λ name. None }) (map-append (mapped_frame f) blocks.outer (blocks.inner ∷ []))

  -- a block is closed
  pub mapped_left : (old new : Blocks A) → old.outer ≡ new.outer ++ new.inner ∷ []
      → (mapped f old).outer ≡ (mapped f new).outer ++ (mapped f new).inner ∷ []
  mapped_left old new h = ap (map (mapped_frame f)) h ∙ map-append (mapped_frame f) new.outer (new.inner ∷ [])

  pub as_many : (blocks : Blocks A) → 0 < length (mapped f blocks).outer → 0 < length blocks.outer
  as_many blocks h = subst (λ n. 0 < n) (length-map blocks.outer (mapped_frame f)) h

  otherwise_mapped : (x y : Option A)
      → option_map f (otherwise x y) ≡ otherwise (option_map f x) (option_map f y)
  otherwise_mapped (Some x) y = refl
  otherwise_mapped None y = refl

  outer_mapped : (frames : List (Frame A)) (name : List ℕ)
      → option_map f (look_outer frames name) ≡ look_outer (map (mapped_frame f) frames) name
  outer_mapped [] name = refl
  outer_mapped (frame ∷ frames) name =
      otherwise_mapped (look_outer frames name) (frame name) ∙ ap (λ o. otherwise o (option_map f (frame name))) (outer_mapped frames name)

  -- what a name stands for
  pub look_mapped : (blocks : Blocks A) (name : List ℕ)
      → option_map f (look blocks name) ≡ look (mapped f blocks) name
  look_mapped blocks name =
      otherwise_mapped (blocks.inner name) (look_outer blocks.outer name) ∙ ap (otherwise (option_map f (blocks.inner name))) (outer_mapped blocks.outer name)

  pub is_mapped : (o : Option A) (b : Bool) → b ≡ is_some o → b ≡ is_some (option_map f o)
  is_mapped o b h = h ∙ sym (some_mapped o)
