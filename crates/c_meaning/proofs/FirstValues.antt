-- Globals that have started, one behind the other.
use Rattle.std.proofs.Common.{◌≡◌, ℕ, List, [], ◌∷◌, ◌++◌, refl, sym, ◌∙◌, append_assoc, append-nil}
use Rattle.c_tree.specs.Var.{Var}
use Rattle.c_semantics.specs.Contents.{Contents}
use Rattle.c_semantics.specs.Meaning.{with_first_bytes, global_objects}
use Rattle.c_meaning.specs.private.Started.{started_one, started}

-- where no global is left
pub none_started : (addresses : List ℕ) (c : Contents) → started addresses [] c ≡ c
none_started [] c = refl
none_started (address ∷ rest) c = refl

-- bytes and objects by themselves
pub started_is : (addresses : List ℕ) (ds : List Var) (c : Contents)
    → started addresses ds c
    ≡ record {
      bytes = with_first_bytes addresses ds c.bytes;
      live = c.live ++ global_objects addresses ds;
    }
started_is [] ds c = λ i. record { bytes = c.bytes; live = sym (append-nil c.live) i }
started_is (address ∷ rest) [] c = λ i. record { bytes = c.bytes; live = sym (append-nil c.live) i }
started_is (address ∷ rest) (d ∷ ds) c =
    started_is rest ds (started_one address d c)
    ∙ (λ i. record { bytes = with_first_bytes (address ∷ rest) (d ∷ ds) c.bytes; live = append_assoc c.live (global_objects (address ∷ []) (d ∷ [])) (global_objects rest ds) i })
