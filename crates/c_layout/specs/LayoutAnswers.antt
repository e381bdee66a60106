-- What a layout of the code is, and what a fault says.
use Rattle.std.specs.Prelude.{◌≡◌, true, false, List, Some, map}
use Rattle.c_tree.specs.Item.{Item}
use Rattle.c_layout.specs.declared.fault.LayoutFault.{LayoutFault}
use Rattle.c_layout.specs.declared.fault.LayoutFault.TheVariants.{DataTooLarge, FrameTooLarge, OutOfMemory}
use Rattle.c_layout.specs.declared.frame.Frame.{Frame}
use Rattle.c_layout.specs.declared.layout.Layout.{Layout}
use Rattle.c_layout.specs.Frames.{Planned, Framed, frames}
use Rattle.c_layout.specs.Laid.{Plan, is_data_too_large, first_too_large}

abbrev pub planned_of : Frame → Planned
planned_of f = record { size = f.size; slots = f.slots; places = f.places.items }

-- what a layout says
abbrev pub plan_of : Layout → Plan
plan_of layout = record {
  globals = layout.globals.items;
  frames = map planned_of layout.frames.items;
  classes = layout.classes;
}

-- why some frames are refused; want of memory is free
abbrev pub IsFrameFault : List Framed → LayoutFault → Type 0
IsFrameFault fs DataTooLarge = ⊥
IsFrameFault fs (FrameTooLarge at) = first_too_large fs ≡ Some at
IsFrameFault fs OutOfMemory = Unit {0}

-- why a text has no layout: the data come first
abbrev pub IsFault : List Item → LayoutFault → Type 0
IsFault ps DataTooLarge = is_data_too_large ps ≡ true
IsFault ps (FrameTooLarge at) =
    (is_data_too_large ps ≡ false) × (first_too_large (frames ps) ≡ Some at)
IsFault ps OutOfMemory = Unit {0}
