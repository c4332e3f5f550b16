-- Worked examples, as equations that the checker computes.
use Rattle.std.specs.Prelude.{◌≡◌, ℕ, ◌*◌, ◌+◌, true, false, [], ◌∷◌, refl}
use Rattle.road_cells.specs.Array.{Array}
use Rattle.road_cells.specs.Cars.{array_of, cars_of}
use Rattle.road_cells.specs.declared.car.Car.{Car}
use Rattle.road_rules.specs.Speeds.{wanted_speed, speed_after_acceleration, speed_after_braking, comes_about, slowed_speed}
use Rattle.road_rules.specs.Motion.{array_after_motion, array_after_motion_at, speed_at}

-- ---- rules 1 and 2

-- a free car grows faster by one, up to the limit
wanted_speed-faster : wanted_speed 1 5 9 ≡ 2
wanted_speed-faster = refl

wanted_speed-limit : wanted_speed 5 5 9 ≡ 5
wanted_speed-limit = refl

-- a car above a lowered limit drops to it immediately
wanted_speed-lowered : wanted_speed 5 2 9 ≡ 2
wanted_speed-lowered = refl

-- no car drives into what is in front of it
wanted_speed-gap : wanted_speed 5 5 3 ≡ 3
wanted_speed-gap = refl

wanted_speed-blocked : wanted_speed 5 5 0 ≡ 0
wanted_speed-blocked = refl

-- at speed 2 the next car must be more than three cells away
accelerated-free : speed_after_acceleration 2 5 4 ≡ 3
accelerated-free = refl

accelerated-near : speed_after_acceleration 2 5 3 ≡ 2
accelerated-near = refl

accelerated-greatest : speed_after_acceleration 5 5 9 ≡ 5
accelerated-greatest = refl

-- a car that would reach the next one brakes to the cell behind it
braked-at : speed_after_braking 3 3 ≡ 2
braked-at = refl

braked-near : speed_after_braking 5 1 ≡ 0
braked-near = refl

braked-free : speed_after_braking 3 4 ≡ 3
braked-free = refl

-- ---- rule 3

-- the upper 16 bits of the word must be below the chance
comes_about-below : comes_about (30011 * 65536) 30012 ≡ true
comes_about-below = refl

comes_about-equal : comes_about (30011 * 65536 + 65535) 30011 ≡ false
comes_about-equal = refl

-- chance 0 never, chance 65,536 always
comes_about-never : comes_about 0 0 ≡ false
comes_about-never = refl

comes_about-always : comes_about 4294967295 65536 ≡ true
comes_about-always = refl

slowed_speed-event : slowed_speed 3 true ≡ 2
slowed_speed-event = refl

slowed_speed-vehicle_among : slowed_speed 0 true ≡ 0
slowed_speed-vehicle_among = refl

slowed_speed-none : slowed_speed 3 false ≡ 3
slowed_speed-none = refl

-- ---- rule 4

car : ℕ → ℕ → ℕ → Car
car number cell speed = record { number = number; cell = cell; speed = speed }

-- `01...2......` at the speeds 0, 2 and 2 becomes `0..2...2....`
entered : Array
entered = array_of (car 48 0 0 ∷ car 16 1 1 ∷ car 0 5 2 ∷ [])

array_after_motion_at-road : array_after_motion_at (0 ∷ 2 ∷ 2 ∷ []) entered ≡ array_of (car 48 0 0 ∷ car 16 3 2 ∷ car 0 7 2 ∷ [])
unfolding entered car
array_after_motion_at-road = refl

-- the speed of the car at cell 5 is the third
speed_at-third : speed_at entered (0 ∷ 2 ∷ 1 ∷ []) 5 ≡ 1
unfolding entered car
speed_at-third = refl

-- the same motion, with speeds by a function of cell and vehicle
array_after_motion-road : array_after_motion (λ c v. wanted_speed v.speed 2 c) entered ≡ array_of (car 48 0 0 ∷ car 16 2 1 ∷ car 0 7 2 ∷ [])
unfolding entered car
array_after_motion-road = refl

-- cars keep their new speeds, even if they stay or drive the maximum distance
array_after_motion_at-far : array_after_motion_at (0 ∷ 9 ∷ []) (array_of (car 2 3 4 ∷ car 1 8 9 ∷ [])) ≡ array_of (car 2 3 0 ∷ car 1 17 9 ∷ [])
unfolding car
array_after_motion_at-far = refl

-- an empty road stays empty
array_after_motion_at-empty : array_after_motion_at [] [] ≡ []
array_after_motion_at-empty = refl

-- the list of the cars after motion, in order
cars_of-array_after_motion : cars_of (array_after_motion_at (0 ∷ 2 ∷ 2 ∷ []) entered) ≡ car 48 0 0 ∷ car 16 3 2 ∷ car 0 7 2 ∷ []
unfolding entered car
cars_of-array_after_motion = refl
