-- The result of the pass over the cars.
use Rattle.std.specs.Prelude.{◌≡◌, ℕ, ◌+◌, ◌<◌, ◌≤◌, ◌-◌, List, length, slice_index, slice_range}
use Rattle.std.proofs.Common.{sym, ap, ◌∙◌, arith}
use Rattle.std.proofs.lemmas.List.{ext_get_or, get_or-map, length-map}
use Rattle.std.proofs.lemmas.List.Edits.{length-between, get_or-between}
use Rattle.road_plan.specs.Plan.{Plan, zone_of}
use Rattle.road_plan.specs.Settings.{Settings, Fits}
use Rattle.road_words.specs.Words.{word}
use Rattle.road_cells.specs.Array.{Array}
use Rattle.road_cells.specs.Cars.{cars_of, vehicle_of, cell_at}
use Rattle.road_cells.specs.Gap.{free_cells}
use Rattle.road_cells.specs.declared.car.Car.{Car}
use Rattle.road_rules.specs.Speeds.{wanted_speed, slowed_speed, comes_about}
use Rattle.road_ends.specs.Speed.{chance_at, gap, speed, speeds, nth_car}
use Rattle.road_ends.proofs.StepByCars.{gap-free_cells}

module _ (p : Plan) (s : Settings) (t : ℕ) (a : Array) where
  -- the speed by the limit, the free cells, the chance and the word that were read is the speed of the definition
  pub read_speed : (cars : List Car) (limits starts chances : List ℕ) (k zone free wished v : ℕ) → Fits p s → length a ≤ p.cells
      → cars ≡ cars_of a → limits ≡ s.limits → starts ≡ s.starts → chances ≡ s.chances → zone ≡ zone_of p (cell_at (cars_of a) k)
      → free ≡ free_cells s.blocks a (cell_at (cars_of a) k)
      → wished ≡ wanted_speed (nth_car cars k).speed (slice_index limits zone) free
      → v ≡ slowed_speed wished (comes_about (word p.words (nth_car cars k).number t) (chance_at (nth_car cars k).speed (slice_index starts zone) (slice_index chances zone)))
      → v ≡ speed p s t a (nth_car (cars_of a) k).cell (vehicle_of (nth_car (cars_of a) k))
  read_speed cars limits starts chances k zone free wished v fits long all limited started chanced in_zone clear wishes is =
      let cell = cell_at (cars_of a) k in
      let in_front : free ≡ gap p s a cell = clear ∙ gap-free_cells p s a cell fits long in
      let wish : wished ≡ wanted_speed (nth_car (cars_of a) k).speed (slice_index s.limits (zone_of p cell)) (gap p s a cell) =
      wishes ∙ (λ i. wanted_speed (nth_car (all i) k).speed (slice_index (limited i) (in_zone i)) (in_front i)) in
      is ∙ (λ i. slowed_speed (wish i) (comes_about (word p.words (nth_car (all i) k).number t) (chance_at (nth_car (all i) k).speed (slice_index (started i) (in_zone i)) (slice_index (chanced i) (in_zone i)))))

  -- one speed for each car
  pub speed_each : length (speeds p s t a) ≡ length (cars_of a)
  speed_each = length-map (cars_of a) (λ car. speed p s t a car.cell (vehicle_of car))

  -- the k-th of them
  pub speed_at : (k : ℕ) → k < length (cars_of a) → slice_index (speeds p s t a) k ≡ speed p s t a (nth_car (cars_of a) k).cell (vehicle_of (nth_car (cars_of a) k))
  speed_at k below = get_or-map (λ car. speed p s t a car.cell (vehicle_of car)) (cars_of a) k (record { number = 0; cell = 0; speed = 0 }) 0 below

  -- the speeds of a piece, read one by one
  pub speeds_of_piece : (new : List ℕ) (first end : ℕ) → first ≤ end → end ≤ length (cars_of a) → length new ≡ end - first
      → ((k : ℕ) → first ≤ k → k < end → slice_index new (k - first) ≡ slice_index (speeds p s t a) k)
      → new ≡ slice_range (speeds p s t a) first end
  speeds_of_piece new first end order within long are =
      let each = speed_each in
      let size = length-between (speeds p s t a) first end (omega arith) in
      ext_get_or 0 new (slice_range (speeds p s t a) first end) (omega arith)
      (λ i below. let back : (first + i) - first ≡ i = omega arith in
      ap (slice_index new) (sym back) ∙ are (first + i) (omega arith) (omega arith) ∙ sym (get_or-between (speeds p s t a) first end i 0 (omega arith)))
