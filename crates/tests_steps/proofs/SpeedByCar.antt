-- The speeds of the plain program, car by car.
use Rattle.std.specs.Prelude.{◌≡◌, ℕ, suc, ◌+◌, ◌<◌, List, [], ◌∷◌, ◌++◌, length, map, take, refl}
use Rattle.std.proofs.Common.{sym, ap, ◌∙◌, arith}
use Rattle.std.proofs.Math.Seq.{take-suc}
use Rattle.std.proofs.lemmas.List.{get_or-map}
use Rattle.road_plan.specs.Plan.{Plan}
use Rattle.road_plan.specs.Settings.{Settings}
use Rattle.road_cells.specs.Array.{Array}
use Rattle.road_cells.specs.Cars.{cars_of, vehicle_of}
use Rattle.road_cells.specs.declared.car.Car.{Car}
use Rattle.road_ends.specs.Speed.{speed, speeds, nth_car}

-- the speeds listed so far, and the next one
pub one_speed_more : (p : Plan) (s : Settings) (t : ℕ) (a : Array) (done now : List ℕ) (k v : ℕ) → k < length (cars_of a) → done ≡ take k (speeds p s t a)
    → v ≡ speed p s t a (nth_car (cars_of a) k).cell (vehicle_of (nth_car (cars_of a) k)) → now ≡ done ++ v ∷ [] → now ≡ take (k + 1) (speeds p s t a)
one_speed_more p s t a done now k v below rest is new =
    let long = (may_move_lengths p s t a) in
    let at = get_or-map (λ car. speed p s t a car.cell (vehicle_of car)) (cars_of a) k (record { number = 0; cell = 0; speed = 0 }) 0 below in
    let next : suc k ≡ k + 1 = omega arith in
    new ∙ (λ i. rest i ++ (is ∙ sym at) i ∷ []) ∙ sym (take-suc (speeds p s t a) k 0 (omega arith)) ∙ ap (λ n. take n (speeds p s t a)) next
  where
    may_move_lengths : (p : Plan) (s : Settings) (t : ℕ) (a : Array) → length (speeds p s t a) ≡ length (cars_of a)
    may_move_lengths p s t a = each (cars_of a)
      where
        each : (cars : List Car) → length (map (λ car. speed p s t a car.cell (vehicle_of car)) cars) ≡ length cars
        each [] = refl
        each (car ∷ cars) = ap suc (each cars)
