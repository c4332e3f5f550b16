-- The road at a step as a row of text.
use Rattle.std.specs.Prelude.{ℕ, ◌+◌, Bool, true, false, List, map}
use Rattle.std.specs.List.{range_with_len}
use Rattle.std.specs.declared.option.Option.{Option}
use Rattle.std.specs.declared.option.Option.TheVariants.{None, Some}
use Rattle.road_plan.specs.Plan.{Plan}
use Rattle.road_cells.specs.Array.{Array, Vehicle, vehicle_at}
use Rattle.road_cells.specs.Gap.{is_blocked}
use Rattle.road_ends.specs.Run.{Course, run}
use Rattle.road_ends.specs.declared.letters.TheConstants.{STANDING, BLOCKED, EMPTY}

-- the letter of a cell: a car's speed as a digit, else the mark of a blocked cell, else the mark of an empty cell
abbrev pub letter : Bool → Option Vehicle → ℕ
letter blocked (Some car) = STANDING + car.speed
letter true None = BLOCKED
letter false None = EMPTY

-- one letter for each cell
abbrev pub row_of : ℕ → List ℕ → Array → List ℕ
row_of cells blocks a = map (λ c. letter (is_blocked blocks c) (vehicle_at a c)) (range_with_len 0 cells)

-- the row of a step, with the blocks of that step
abbrev pub row : Plan → Course → ℕ → List ℕ
row p course t = row_of p.cells (course t).blocks (run p course t)
