-- The cars with which a run is started or restarted.
use Rattle.std.specs.Prelude.{◌<◌, ℕ, List}
use Rattle.std.specs.List.{All}
use Rattle.road_cells.specs.declared.car.Car.{Car}
use Rattle.road_columns.specs.UnderWay.{CanRun}

-- the cars that a run can hold are before the exit
pub all_before : (lo hi exit : ℕ) (cars : List Car) → All (CanRun lo hi exit) cars → All (λ car. car.cell < exit) cars
all_before lo hi exit cars all j d below = (all j d below).before_exit
