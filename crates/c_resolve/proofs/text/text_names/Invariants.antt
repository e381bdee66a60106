use Rattle.std.proofs.Common.{◌≡◌, map, drop}
use Rattle.c_tree.specs.View.{item_of, items_of}
use Rattle.c_layout.specs.Globals.{globals, addresses}
use Rattle.c_semantics.specs.Meaning.{names_of}
use Rattle.c_semantics.specs.Names.{no_names}
use Rattle.c_resolve.specs.DeclaredNames.{names_in}
use Rattle.c_resolve.specs.Routines.{definitions_of}
use Rattle.c_resolve.proofs.text.text_names.Given as goal

abbrev pub invariant-loop-item : goal.invariant-loop-item
invariant-loop-item l =
    let text = items_of l.tree in
    names_of text l.rest (map item_of (drop l.item-index l.tree.items.items)) (names_in (definitions_of text) l.names) ≡ names_of text (addresses (globals text)) text no_names
