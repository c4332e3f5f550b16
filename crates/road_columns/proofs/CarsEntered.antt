-- The sites of inlets: they are the first ones, and before the exit.
use Rattle.std.specs.Prelude.{ℕ, ◌<◌, List, length, slice_index}
use Rattle.std.proofs.Common.{arith}
use Rattle.std.specs.List.{slice_index_or}
use Rattle.road_plan.specs.Plan.{Plan, IsWithinLimits, exit_start}
use Rattle.road_columns.specs.Private.Entering.{AreCellsOfInlets}
use Rattle.road_columns.specs.Private.Step.{AreSitesOf}
use Rattle.road_columns.specs.declared.regions.Region.{Region}

-- the first sites are the inlets' cells
pub inlets_first : (p : Plan) (regions : List Region) (sites : List ℕ) → AreSitesOf p regions sites → AreCellsOfInlets p sites
inlets_first p regions sites are = record { within = let many = are.as_many in omega arith; each = are.inlets }

-- all inlets are before the exit, since the plan is within the limits
pub inlets_before_exit : (p : Plan) (regions : List Region) (sites : List ℕ) → IsWithinLimits p → AreSitesOf p regions sites → (i : ℕ) → i < length p.inlets → slice_index sites i < exit_start p
inlets_before_exit p regions sites within are i below =
    let is = are.inlets i below in
    let before : (slice_index_or p.inlets i (0, 0)).0 < exit_start p = within.inlets_before_exit i (0, 0) below in omega arith
