-- The layout of a text, and why it has none.
use Rattle.std.specs.Prelude.{ℕ, Bool, List, [], ◌∷◌, Option, Some, None, nat_lt, map, if◌then◌else◌}
use Rattle.bop_bits.specs.declared.class.Classes.{Classes}
use Rattle.bop_bits.specs.declared.map.TheConstants.{STACK_FROM}
use Rattle.c_tree.specs.declared.place.Place.{Place}
use Rattle.c_tree.specs.Item.{Item}
use Rattle.c_layout.specs.declared.limits.TheConstants.{FRAME_BYTES}
use Rattle.c_layout.specs.Globals.{globals, addresses, classes_of, private_to}
use Rattle.c_layout.specs.Frames.{Planned, Framed, frames}

-- where all objects of a text stand
pub record Plan : Type 0 where
  pub globals : List ℕ
  pub frames : List Planned
  pub classes : Classes

abbrev pub planned : Framed → Planned
planned f = f.frame

abbrev pub plan : List Item → Plan
plan ps = record {
  globals = addresses (globals ps);
  frames = map planned (frames ps);
  classes = classes_of (globals ps);
}

-- the private section doesn't end before the stack
abbrev pub is_data_too_large : List Item → Bool
is_data_too_large ps = nat_lt STACK_FROM (private_to (globals ps))

-- the name of the first function whose frame has more than 65,536 bytes
abbrev pub first_too_large : List Framed → Option Place
first_too_large [] = None
first_too_large (f ∷ fs) = if nat_lt FRAME_BYTES f.frame.size then Some f.place else first_too_large fs
