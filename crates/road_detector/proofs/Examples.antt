-- Worked examples, computed from the definitions: the counts of a detector on a free road and while it is off.
use Rattle.std.specs.Prelude.{◌≡◌, ◌||◌, [], ◌∷◌, nat_lt, nat_le, refl}
use Rattle.road_plan.specs.Plan.{Plan}
use Rattle.road_plan.specs.Settings.{defaults}
use Rattle.road_plan.specs.declared.parts.WordKind.TheVariants.{Steady}
use Rattle.road_cells.specs.Gap.{free_before}
use Rattle.road_ends.specs.Run.{Course}
use Rattle.road_detector.specs.Passes.{total, no_totals}

-- a road of 12 cells with an inlet at its start that always lets in, limit 2, no slowing, and a detector at cell 5
abbrev free_road : Plan
free_road = record {
  cells = 12;
  exit = 1;
  width = 12;
  zones = (2, 0) ∷ [];
  inlets = (0, 65536) ∷ [];
  detectors = 5 ∷ [];
  words = Steady;
}

-- the plan's own settings at every step
abbrev quiet : Course
quiet step = defaults free_road

-- the first car comes from cell 3 to cell 5 in step 2
first_car : total free_road quiet 0 0 3 ≡ record { cars = 1; speeds = 2 }
unfolding free_before
first_car = refl

two_cars : total free_road quiet 0 0 6 ≡ record { cars = 2; speeds = 4 }
unfolding free_before
two_cars = refl

no_steps : total free_road quiet 0 2 2 ≡ no_totals
unfolding free_before
no_steps = refl

-- the detector is off in the steps 2 and 3: it misses the first car
abbrev switched_off : Course
switched_off step = record (defaults free_road) { watched = (nat_lt step 2 || nat_le 4 step) ∷ [] }

one_missed : total free_road switched_off 0 0 6 ≡ record { cars = 1; speeds = 2 }
unfolding free_before
one_missed = refl
