-- The region rule. At most one region is open: it is known by its number and by the stack pointer
-- with which it was begun.
use Rattle.std.specs.Prelude.{ℕ, ◌==◌, ◌&&◌, Bool, Option, Some, None, if◌then◌else◌}
use Rattle.ppr_regions.specs.declared.event.Event.{Event}
use Rattle.ppr_regions.specs.declared.event.Event.TheVariants.{Begin, End, Post, Wait}
use Rattle.ppr_regions.specs.declared.region.Met.{Met}
use Rattle.ppr_regions.specs.declared.region.Met.TheVariants.{Opens, Closes, Skips}
use Rattle.ppr_regions.specs.declared.region.Region.{Region}

-- what an event does, by the open region, the stack pointer, and whether the program goes on where
-- the region of an End's number ends: a Begin opens where no region is open, and an End closes the
-- open region where it is of its number and at its stack pointer
abbrev pub meet : (region : Option Region) → Event → (sp : ℕ) → (home : Bool) → Met
meet None (Begin id) sp home = Opens (record { id = id; sp = sp })
meet None (End id) sp home = Skips
meet (Some open_) (Begin id) sp home = Skips
meet (Some open_) (End id) sp home =
    if (open_.id == id) && ((open_.sp == sp) && home) then Closes else Skips
meet region (Post channel at len) sp home = Skips
meet region (Wait channel) sp home = Skips

-- the open region after the event
abbrev pub region_after : (region : Option Region) → Met → Option Region
region_after region (Opens opened) = Some opened
region_after region Closes = None
region_after region Skips = region
