-- Laws of every step and of every run of a plan.
use Rattle.std.specs.Prelude.{◌≡◌, ℕ, ◌+◌, ◌-◌, ◌*◌, ◌^◌, ◌<◌, ◌≤◌, true, length}
use Rattle.std.specs.declared.option.Option.TheVariants.{Some}
use Rattle.road_plan.specs.Plan.{Plan, exit_start}
use Rattle.road_plan.specs.Settings.{Settings}
use Rattle.road_plan.specs.declared.limits.TheConstants.{GREATEST_HORIZON, MOST_INLETS}
use Rattle.road_cells.specs.Array.{Array, Vehicle, vehicle_at}
use Rattle.road_cells.specs.Gap.{is_blocked}
use Rattle.road_cells.specs.declared.car.TheConstants.{GREATEST_SPEED}
use Rattle.road_ends.specs.Speed.{speed}
use Rattle.road_ends.specs.Run.{Course, run, road_after_steps, road_before_motion}

-- a law of one step: a fact about a plan, the settings and the number of the step, and the array before the motion
abbrev pub StepLaw : Type 1
StepLaw = Plan → Settings → ℕ → Array → Type 0

-- a law holds in each step: from each array whose cars are on the road, and so in each step of every run
pub record HoldsInEachStep (law : StepLaw) (p : Plan) : Type 0 where
  pub on_arrays : (s : Settings) (t : ℕ) (a : Array) → length a ≤ p.cells → law p s t a
  pub in_runs : (course : Course) (t : ℕ) → law p (course t) t (road_before_motion p course t)

-- the cell to which the car of cell c drives
abbrev pub target : Plan → Settings → ℕ → Array → ℕ → Vehicle → ℕ
target p s t a c car = c + speed p s t a c car

-- no car is faster than the maximum speed
abbrev pub KeepBelowGreatestSpeed : StepLaw
KeepBelowGreatestSpeed p s t a = (c : ℕ) (car : Vehicle) → speed p s t a c car ≤ GREATEST_SPEED

-- a car stays behind the cell of the next one: no two cars share a cell, and no car passes through another
abbrev pub NeverCollide : StepLaw
NeverCollide p s t a = (c d : ℕ) (x y : Vehicle) → vehicle_at a c ≡ Some x → vehicle_at a d ≡ Some y → c < d
    → target p s t a c x < d

-- at most one car arrives at a cell
abbrev pub ArriveAlone : StepLaw
ArriveAlone p s t a = (c d : ℕ) (x y : Vehicle) → vehicle_at a c ≡ Some x → vehicle_at a d ≡ Some y
    → target p s t a c x ≡ target p s t a d y → c ≡ d

-- cars keep their order
abbrev pub KeepOrder : StepLaw
KeepOrder p s t a = (c d : ℕ) (x y : Vehicle) → vehicle_at a c ≡ Some x → vehicle_at a d ≡ Some y → c < d
    → target p s t a c x < target p s t a d y

-- no car drives onto a blocked cell of the road or past it
abbrev pub StopAtBlocks : StepLaw
StopAtBlocks p s t a = (c j : ℕ) (x : Vehicle) → vehicle_at a c ≡ Some x → j < p.cells → is_blocked s.blocks j ≡ true
    → c < j
    → target p s t a c x < j

-- no two cars on the road have the same number
abbrev pub HaveUniqueNumbers : Plan → Type 0
HaveUniqueNumbers p = (course : Course) (t c d : ℕ) (x y : Vehicle)
    → vehicle_at (run p course t) c ≡ Some x → vehicle_at (run p course t) d ≡ Some y
    → x.number ≡ y.number → c ≡ d

-- at step t each car is before the deleted zone, not too fast, and numbered in a step before t
pub record IsOnRoad (p : Plan) (t c : ℕ) (car : Vehicle) : Type 0 where
  pub before_exit : c < exit_start p
  pub slow_enough : car.speed ≤ GREATEST_SPEED
  pub has_entered : car.number < MOST_INLETS * t

-- each car of a run is on the road in the sense of IsOnRoad
abbrev pub StayOnRoad : Plan → Type 0
StayOnRoad p = (course : Course) (t c : ℕ) (car : Vehicle) → vehicle_at (run p course t) c ≡ Some car
    → IsOnRoad p t c car

-- up to the maximum horizon a car's number has 24 bits
abbrev pub HaveShortNumbers : Plan → Type 0
HaveShortNumbers p = (course : Course) (t c : ℕ) (car : Vehicle) → t ≤ GREATEST_HORIZON
    → vehicle_at (run p course t) c ≡ Some car
    → car.number < 2 ^ 24

-- locality: courses of settings that agree before step s give the same run up to s
abbrev pub DependOnEarlierSettings : Plan → Type 0
DependOnEarlierSettings p = (f g : Course) (s : ℕ) → ((u : ℕ) → u < s → f u ≡ g u) → (t : ℕ) → t ≤ s
    → run p f t ≡ run p g t

-- two roads have the same vehicle, or both have no vehicle, at each cell from a to before b
pub record AgreeBetween (a b : ℕ) (x y : Array) : Type 0 where
  pub same : (c : ℕ) → a ≤ c → c < b → vehicle_at x c ≡ vehicle_at y c

-- roads agree near a stretch: at all cells that can matter to it within k steps. These are the cells of the stretch
-- and, for each step, 9 cells behind it and 9 ahead of it
abbrev pub AgreeNear : ℕ → ℕ → ℕ → Array → Array → Type 0
AgreeNear k lo hi x y = AgreeBetween (lo - GREATEST_SPEED * k) (hi + GREATEST_SPEED * k) x y

-- locality in space: roads that agree near a stretch agree on the stretch after these steps, under the same settings
abbrev pub DependOnCellsNearby : Plan → Type 0
DependOnCellsNearby p = (course : Course) (t k lo hi : ℕ) (x y : Array)
    → AgreeNear k lo hi x y
    → AgreeBetween lo hi (road_after_steps p course t k x) (road_after_steps p course t k y)
