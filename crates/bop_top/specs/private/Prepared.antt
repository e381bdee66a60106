-- The job of a text's program on an input.
use Rattle.std.specs.Prelude.{◌≡◌, ◌<◌, ◌^◌, ℕ, List, All}
use Rattle.c_tree.specs.Item.{Item}
use Rattle.low_stmt.specs.TextProgram.{program_of}
use Rattle.low_link.specs.Front.{IsSource}
use Rattle.rv_step.specs.declared.job.Job.{Job}

pub record IsJobOf (text taken : List ℕ) (budget : ℕ) (job : Job) : Type 0 where
  pub ps : List Item
  pub source : IsSource text ps
  pub program : job.program ≡ program_of ps
  pub input : job.input ≡ taken
  pub small : All (λ b. b < 2 ^ 8) taken
  pub budget_is : job.budget ≡ budget
