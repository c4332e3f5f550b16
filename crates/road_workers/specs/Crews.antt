-- What contracts see of a crew of threads, and which spans crews run.
use Rattle.std.specs.Prelude.{ℕ, ◌+◌, ◌-◌, ◌^◌, ◌<◌, min, Result}
use Rattle.std.specs.declared.result.Result.TheVariants.{Ok, Err}
use Rattle.road_cells.specs.Array.{Array}
use Rattle.road_ends.specs.Span.{Span}
use Rattle.road_columns.specs.UnderWay.{IsRunnable}
use Rattle.road_workers.specs.declared.faults.CrewFault.{CrewFault}
use Rattle.road_workers.specs.declared.faults.CrewFault.TheVariants.{WorkersGone, OutOfMemory}

-- a crew of threads: how many workers it has, and how often it has answered `WorkersGone`
pub record CrewOfThreads : Type 0 where
  pub workers : ℕ
  pub gone : ℕ

-- how often a crew has answered `WorkersGone` after one more answer: once more if that was the answer; the count stays
-- at 2^64 - 1 once it is there
abbrev pub gone_after : {A : Type 0} → Result A CrewFault → ℕ → ℕ
gone_after (Ok speeds) n = n
gone_after (Err WorkersGone) n = min (n + 1) (2 ^ 64 - 1)
gone_after (Err OutOfMemory) n = n

-- the steps of a span can be run from a road: the span has steps, and each car of the road can be held in a run
abbrev pub CanBeRun : Span → Array → Type 0
CanBeRun span a = (0 < span.steps) × IsRunnable 0 span.plan.cells span.plan a
