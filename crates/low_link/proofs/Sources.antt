-- Texts with few parts, and with many.
use Rattle.std.proofs.Common.{◌≡◌, ◌<◌, ◌≤◌, ℕ, List, Bool, false, ⊎_elim}
use Rattle.std.specs.Prelude.{IsTrue}
use Rattle.std.proofs.lemmas.Bool.{cases_lt}
use Rattle.c_layout.specs.declared.layout.Layout.{Layout}
use Rattle.c_tree.specs.declared.checked.Checked.{Checked}
use Rattle.c_tree.specs.View.{items_of}
use Rattle.c_tree.proofs.Acceptance.{faultless}
use Rattle.low_stmt.specs.declared.count.TheConstants.{MOST_PARTS}
use Rattle.low_stmt.specs.CodeBound.{count_text}
use Rattle.low_link.specs.Front.{IsFront, IsFrontOfSource, IsSource, Refuses}
use Rattle.low_link.specs.declared.refused.Refused.TheVariants.{CodeTooLong}

many : (b : Bool) (n : ℕ) → b ≡ false → (n ≤ MOST_PARTS → IsTrue b) → MOST_PARTS < n
many b n off few = ⊎_elim (λ h. h) (λ h. let yes = few h in cc) (cases_lt MOST_PARTS n)

pub long_text : (text : List ℕ) (checked : Checked) (laid : Layout) → IsFront text checked laid
    → (few : Bool) → few ≡ false → (count_text (items_of checked.tree) ≤ MOST_PARTS → IsTrue few)
    → Refuses text CodeTooLong
long_text text checked laid h few off counted =
    (items_of checked.tree, record { spells = h.spells; faultless = faultless checked.tree checked.accepted }, h.fits, many few (count_text (items_of checked.tree)) off counted)

pub source_of : (text : List ℕ) (checked : Checked) (laid : Layout)
    → IsFrontOfSource text checked laid → IsSource text (items_of checked.tree)
source_of text checked laid h = record {
  accepted = record {
    spells = h.front.spells;
    faultless = faultless checked.tree checked.accepted;
  };
  fits = h.front.fits;
  few = h.few;
}
