-- Whether a worker is lost, and what a call then answers.
use Rattle.std.specs.Prelude.{◌≡◌, ◌⊎◌, ℕ, Bool, true, false, List, Result}
use Rattle.std.specs.declared.result.Result.TheVariants.{Ok, Err}
use Rattle.road_workers.specs.Private.Jobs.{HasGone, Sends}
use Rattle.road_workers.specs.declared.faults.CrewFault.{CrewFault}
use Rattle.road_workers.specs.declared.faults.CrewFault.TheVariants.{WorkersGone, OutOfMemory}
use Rattle.road_workers.specs.declared.pool.Worker.{Worker}
use Rattle.road_workers.specs.declared.pool.spawning.StartFault.{StartFault}
use Rattle.road_workers.specs.declared.pool.spawning.StartFault.TheVariants as starts

-- the answer is `WorkersGone` exactly if a worker is lost
abbrev pub TellsLost : {A : Type 0} → Result A CrewFault → Bool → Type 0
TellsLost (Ok a) lost = lost ≡ false
TellsLost (Err WorkersGone) lost = lost ≡ true
TellsLost (Err OutOfMemory) lost = lost ≡ false

-- some worker is lost: one has said that it has gone, or all have, or a job was sent to one that has gone
abbrev pub IsLost : Sends → List Worker → Bool → Type 0
IsLost sends workers heard = (heard ≡ true) ⊎ ((w : ℕ) × HasGone sends workers w)

-- what a pool answers that cannot be started
abbrev pub fault_of_start : StartFault → CrewFault
fault_of_start (starts.NoThread refused) = WorkersGone
fault_of_start starts.OutOfMemory = OutOfMemory
