-- The room of a log whose sets have the room that they had.
use Rattle.std.proofs.Common.{◌≡◌, Bool, ap, ◌∙◌}
use Rattle.std.specs.Prelude.{◌&&◌, ◌||◌}

pub same-room : (shared : Bool) {first first' wrote wrote' after after' : Bool}
    → first' ≡ first → wrote' ≡ wrote → after' ≡ after
    → shared || (first' && (wrote' && after')) ≡ shared || (first && (wrote && after))
same-room shared {first} {first'} {wrote} {wrote'} {after} {after'} f w a =
    ap (λ r. shared || (r && (wrote' && after'))) f
    ∙ ap (λ r. shared || (first && (r && after'))) w
    ∙ ap (λ r. shared || (first && (wrote && r))) a
