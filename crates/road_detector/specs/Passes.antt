-- The counts of detectors.
use Rattle.std.specs.Prelude.{ℕ, ◌+◌, ◌-◌, ◌&&◌, Bool, false, List, [], ◌∷◌, length, map, sum, nat_lt, nat_le}
use Rattle.std.specs.Prelude.{slice_index, if◌then◌else◌}
use Rattle.std.specs.List.{filter, slice_index_or, range_with_len}
use Rattle.road_plan.specs.Plan.{Plan}
use Rattle.road_plan.specs.Settings.{Settings}
use Rattle.road_cells.specs.Array.{Array}
use Rattle.road_cells.specs.Cars.{cars_of}
use Rattle.road_cells.specs.declared.car.Car.{Car}
use Rattle.road_ends.specs.Input.{StepInput, input_of, input_speeds}
use Rattle.road_ends.specs.Run.{Course, run, road_after_steps}
use Rattle.road_ends.specs.Span.{Span}
use Rattle.road_detector.specs.declared.counts.Totals.{Totals}

-- a car's cell before the motion, and its new speed
pub record Drive : Type 0 where
  pub cell : ℕ
  pub speed : ℕ

-- the drives of all cars, each at the speed of its place in the list
abbrev pub drives : List Car → List ℕ → List Drive
drives [] speeds = []
drives (car ∷ cars) [] = []
drives (car ∷ cars) (v ∷ speeds) = record { cell = car.cell; speed = v } ∷ drives cars speeds

-- whether a car passes a site: it is before the site, and arrives at it or past it
abbrev pub is_passing : ℕ → Drive → Bool
is_passing site x = nat_lt x.cell site && nat_le site (x.cell + x.speed)

-- the new speeds of the cars that pass a site
abbrev pub passing_speeds : ℕ → List Drive → List ℕ
passing_speeds site xs = map (λ x. x.speed) (filter (is_passing site) xs)

-- the cars that pass a site, and the sum of their new speeds
abbrev pub totals_of : ℕ → List Drive → Totals
totals_of site xs = record { cars = length (passing_speeds site xs); speeds = sum (passing_speeds site xs) }

-- totals of no cars: 0 cars, and a sum of speeds of 0
abbrev pub no_totals : Totals
no_totals = record { cars = 0; speeds = 0 }

-- the counts of a detector in a step at these speeds: nothing if it is off
abbrev pub passes_at : StepInput → List ℕ → ℕ → Totals
passes_at input speeds d =
    if slice_index_or input.settings.watched d false
    then totals_of (slice_index input.plan.detectors d) (drives (cars_of input.road) speeds) else no_totals

-- the counts of a detector in step t from an array
abbrev pub passes_from : Plan → Settings → ℕ → Array → ℕ → Totals
passes_from p s t a d = let input = input_of p s t a in passes_at input (input_speeds input) d

-- the counts of a detector in step t of a run
abbrev pub passes : Plan → Course → ℕ → ℕ → Totals
passes p course d t = passes_from p (course t) t (run p course t) d

-- the sum of two totals
abbrev pub plus : Totals → Totals → Totals
plus x y = record { cars = x.cars + y.cars; speeds = x.speeds + y.speeds }

-- the sum of a list of totals
abbrev pub sum_of_totals : List Totals → Totals
sum_of_totals [] = no_totals
sum_of_totals (x ∷ xs) = plus x (sum_of_totals xs)

-- the counts of a detector in the steps from a to b - 1 of a run
abbrev pub total : Plan → Course → ℕ → ℕ → ℕ → Totals
total p course d a b = sum_of_totals (map (passes p course d) (range_with_len a (b - a)))

-- the counts of a detector in k steps from an array, the first of them step t
abbrev pub total_from : Plan → Course → ℕ → ℕ → Array → ℕ → Totals
total_from p course t k a d = sum_of_totals
    (map (λ j. passes_from p (course (t + j)) (t + j) (road_after_steps p course t j a) d) (range_with_len 0 k))

-- the counts of each detector in the steps of a span, from the road before them
abbrev pub span_totals : Span → Array → List Totals
span_totals span a = map (total_from span.plan (λ _. span.settings) span.step span.steps a)
    (range_with_len 0 (length span.plan.detectors))
