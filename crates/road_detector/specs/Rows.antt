-- Rows of text: the letters that overwrite others, and the condition on the cars.
use Rattle.std.specs.Prelude.{ℕ, ◌+◌, ◌≤◌, Bool, List, if◌then◌else◌}
use Rattle.std.specs.List.{All}
use Rattle.std.specs.declared.option.Option.{Option}
use Rattle.std.specs.declared.option.Option.TheVariants.{None, Some}
use Rattle.road_cells.specs.Array.{Vehicle}
use Rattle.road_cells.specs.declared.car.Car.{Car}
use Rattle.road_cells.specs.declared.car.TheConstants.{GREATEST_SPEED}
use Rattle.road_ends.specs.declared.letters.TheConstants.{STANDING, BLOCKED}

-- each car's speed is a digit
abbrev pub HaveDigits : List Car → Type 0
HaveDigits cars = All (λ car. car.speed ≤ GREATEST_SPEED) cars

-- a blocked cell is marked
abbrev pub blocked_letter : Bool → ℕ → ℕ
blocked_letter blocked letter = if blocked then BLOCKED else letter

-- a cell with a car has its digit
abbrev pub car_letter : Option Vehicle → ℕ → ℕ
car_letter (Some v) letter = STANDING + v.speed
car_letter None letter = letter
