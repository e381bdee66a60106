-- The things that a run first touches, and those that it writes.
use Rattle.std.specs.Prelude.{ℕ, zero, suc, ◌-◌, Bool, false, List, Option, Some, None}
use Rattle.access_log.specs.declared.spot.Spot.{Spot}
use Rattle.access_log.specs.Things.{first_after, wrote_after}
use Rattle.rv_code.specs.State.{Machine}
use Rattle.rv_code.specs.SequentialRun.{run}
use Rattle.rv_step.specs.Footprint.{step_reads, step_writes}

-- which pages are shared
module _ (shared : ℕ → Bool) where
  -- whether a spot's thing is written within some steps
  unfoldable pub wrote : (code input : List ℕ) → Machine → (steps : ℕ) → Spot → Bool
  wrote code input m zero x = false
  wrote code input m (suc k) x =
      wrote_after shared (wrote code input m k) (step_writes code (run code input k m)) x

  -- whether it is read before it is written, or is a shared page that is touched at all
  unfoldable pub first : (code input : List ℕ) → Machine → (steps : ℕ) → Spot → Bool
  first code input m zero x = false
  first code input m (suc k) x =
      first_after shared (first code input m k) (wrote code input m k)
      (step_reads code (run code input k m)) (step_writes code (run code input k m)) x

  -- whether it is written behind the first of the steps, up to the fork; without a fork nothing is
  abbrev pub wrote_from : Option ℕ → (code input : List ℕ) → Machine → (steps : ℕ) → Spot → Bool
  wrote_from None code input m steps x = false
  wrote_from (Some fork) code input m steps x =
      wrote code input (run code input fork m) (steps - fork) x
