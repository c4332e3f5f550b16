-- What is shown of the run of a plan's road under the settings that edits give.
use Rattle.std.specs.Prelude.{ℕ, suc, ◌-◌, List, map}
use Rattle.std.specs.List.{range_with_len}
use Rattle.road_plan.specs.Plan.{Plan}
use Rattle.road_cells.specs.Array.{Array}
use Rattle.road_ends.specs.Row.{row}
use Rattle.road_ends.specs.Run.{run}
use Rattle.road_scenario.specs.Edits.{Edits}
use Rattle.road_scenario.specs.Settings.{settings_of}
use Rattle.road_detector.specs.Passes.{total}
use Rattle.road_detector.specs.declared.counts.Totals.{Totals}

-- the road at a step of the run from step zero
abbrev pub run_at : Plan → Edits → ℕ → Array
run_at plan edits step = run plan (settings_of plan edits) step

-- the row of a step of that run, with the blocks of that step
unfoldable pub row_at : Plan → Edits → ℕ → List ℕ
row_at plan edits step = row plan (settings_of plan edits) step

-- the rows of the steps from one to another, both included
abbrev pub rows_at : Plan → Edits → ℕ → ℕ → List (List ℕ)
rows_at plan edits from to = map (row_at plan edits) (range_with_len from (suc to - from))

-- what a detector counts in the steps of that run from one to before another
abbrev pub total_at : Plan → Edits → ℕ → ℕ → ℕ → Totals
total_at plan edits detector from to = total plan (settings_of plan edits) detector from to
