use Rattle.std.proofs.Common.{refl, ◌∙◌, map}
use Rattle.std.proofs.lemmas.Result.{IfOk-weaker}
use Rattle.c_tree.specs.View.{item_of}
use Rattle.c_layout.specs.Globals.{globals}
use Rattle.c_layout.proofs.Placing.{near_starts}
use Rattle.c_layout.proofs.globals.addresses.Goals as goal

pub returns : goal.returns
returns c =
    IfOk-weaker c.place_items.result _ _ (λ out h. h ∙ near_starts (globals (map item_of c.args.items.now)) _ refl c.requires.checked_from c.requires.private_from) c.place_items.ensures
