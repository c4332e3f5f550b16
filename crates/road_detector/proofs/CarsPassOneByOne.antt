-- Cars pass a site one by one.
use Rattle.std.specs.Prelude.{◌≡◌, ℕ, zero, suc, ◌+◌, ◌*◌, ◌<◌, ◌≤◌, ◌&&◌, Bool, true, false, cond, List, [], ◌∷◌, length, map, sum, nat_lt, nat_le, slice_index, refl}
use Rattle.std.specs.List.{slice_index_or, filter, range_with_len}
use Rattle.std.specs.Option.{option_or}
use Rattle.std.specs.declared.option.Option.TheVariants.{Some}
use Rattle.std.proofs.Common.{sym, ap, ◌∙◌, arith}
use Rattle.std.proofs.lemmas.Bool.Decides.{nat_tests}
use Rattle.std.proofs.lemmas.List.{get_or_default}
use Rattle.std.proofs.lemmas.List.Sums.{sum_by-cons}
use Rattle.road_plan.specs.Plan.{Plan}
use Rattle.road_plan.specs.Settings.{Settings}
use Rattle.road_cells.specs.Array.{Array, vehicle_at}
use Rattle.road_cells.proofs.ArrayPlaces.{length-array}
use Rattle.road_cells.specs.Cars.{cars_of, vehicle_of, cell_at, vehicle_among}
use Rattle.road_cells.proofs.CarLists.{vehicle_among-cars_from, rise-cars_from}
use Rattle.road_cells.proofs.CarPlaces.{vehicle_among-at, rise-at}
use Rattle.road_cells.specs.declared.car.Car.{Car}
use Rattle.road_cells.specs.declared.car.TheConstants.{GREATEST_SPEED}
use Rattle.road_ends.specs.Speed.{speed}
use Rattle.road_ends.specs.Entries.{entry_at, road_with_entries}
use Rattle.road_ends.specs.Run.{Course, road_before_motion}
use Rattle.road_ends.specs.Laws.{HoldsInEachStep, KeepBelowGreatestSpeed, NeverCollide}
use Rattle.road_ends.proofs.NoCollision.{keep_below_greatest_speed, never_collide}
use Rattle.road_detector.specs.Passes.{Drive, drives, is_passing, passing_speeds, totals_of, no_totals, passes, passes_from, sum_of_totals}
use Rattle.road_detector.specs.declared.counts.Totals.{Totals}
use Rattle.road_detector.specs.Laws.{PassesOneByOne}

module _ (site : ℕ) (f : Car → ℕ) (most : (car : Car) → f car ≤ GREATEST_SPEED) where
  abbrev drives_of : List Car → List Drive
  drives_of cars = drives cars (map f cars)

  step : (b : Bool) (x : Drive) (xs : List Drive) → is_passing site x ≡ b → passing_speeds site (x ∷ xs) ≡ cond b (x.speed ∷ passing_speeds site xs) (passing_speeds site xs)
  step true x xs is = ap (λ b. map (λ (x : Drive). x.speed) (cond b (x ∷ filter (is_passing site) xs) (filter (is_passing site) xs))) is
  step false x xs is = ap (λ b. map (λ (x : Drive). x.speed) (cond b (x ∷ filter (is_passing site) xs) (filter (is_passing site) xs))) is

  -- no car past the site passes it
  none_passes : (cars : List Car) → ((k : ℕ) → k < length cars → site ≤ cell_at cars k) → passing_speeds site (drives_of cars) ≡ []
  none_passes [] ahead = refl
  none_passes (car ∷ cars) ahead =
      let first : site ≤ car.cell = ahead 0 (omega arith) in
      let apart : is_passing site (record { cell = car.cell; speed = f car }) ≡ false = in_front car.cell (f car) first in
      step false (record { cell = car.cell; speed = f car }) (drives_of cars) apart ∙ none_passes cars (λ k below. ahead (suc k) (omega arith))
    where
      in_front : (c v : ℕ) → site ≤ c → (nat_lt c site && nat_le site (c + v)) ≡ false
      in_front c v le = grind (arith, nat_tests)

  record IsAlone (cars : List Car) : Type 0 where
    one : length (passing_speeds site (drives_of cars)) ≤ 1
    slow : sum (passing_speeds site (drives_of cars)) ≤ GREATEST_SPEED

  -- if each car stops before the cells of those in front of it, at most one passes
  alone : (cars : List Car) → ((d : Car) (i j : ℕ) → i < j → j < length cars → cell_at cars i + f (slice_index_or cars i d) < cell_at cars j) → IsAlone cars
  alone [] apart = record { one = omega arith; slow = omega arith }
  alone (car ∷ cars) apart = elim (is_passing site (record { cell = car.cell; speed = f car })) as (λ b. is_passing site (record { cell = car.cell; speed = f car }) ≡ b → IsAlone (car ∷ cars)) [
    | true ↦ λ is.
        let reaches : site ≤ car.cell + f car = past car.cell (f car) is in
        let others = none_passes cars (λ k below. let far : car.cell + f car < cell_at cars k = apart car 0 (suc k) (omega arith) (omega arith) in omega arith) in
        let all : passing_speeds site (drives_of (car ∷ cars)) ≡ f car ∷ [] = step true (record { cell = car.cell; speed = f car }) (drives_of cars) is ∙ ap (λ vs. f car ∷ vs) others in
        let longer = ap length all in
        let more = ap sum all ∙ sum_by-cons (λ x. x) (f car) [] in
        let slow = most car in
        record { one = omega arith; slow = omega arith }
    | false ↦ λ is.
        let rest = alone cars (λ d i j lt below. apart d (suc i) (suc j) (omega arith) (omega arith)) in
        let all : passing_speeds site (drives_of (car ∷ cars)) ≡ passing_speeds site (drives_of cars) = step false (record { cell = car.cell; speed = f car }) (drives_of cars) is in
        let longer = ap length all in
        let more = ap sum all in
        let one = rest.one in
        let slow = rest.slow in
        record { one = omega arith; slow = omega arith }
  ] refl
    where
      past : (c v : ℕ) → (nat_lt c site && nat_le site (c + v)) ≡ true → site ≤ c + v
      past c v is = grind (arith, nat_tests)

-- the k-th car is at its cell
stands : (a : Array) (k : ℕ) (d : Car) → k < length (cars_of a) → vehicle_at a (cell_at (cars_of a) k) ≡ Some (vehicle_of (slice_index_or (cars_of a) k d))
stands a k d below =
    let zero_on : 0 + cell_at (cars_of a) k ≡ cell_at (cars_of a) k = omega arith in
    sym (vehicle_among-cars_from 0 (cell_at (cars_of a) k) a) ∙ ap (λ c. vehicle_among c (cars_of a)) zero_on ∙ vehicle_among-at 0 (cars_of a) k d (rise-cars_from 0 a) below

abbrev PassesCount : Totals → Type 0
PassesCount counts = (counts.cars ≤ 1) × (counts.speeds ≤ GREATEST_SPEED)

-- one step from an array of at most as many cells as the road has
module _ (p : Plan) (s : Settings) (t : ℕ) (a : Array) (behind : NeverCollide p s t a) (slow : KeepBelowGreatestSpeed p s t a) where
  abbrev new_speed : Car → ℕ
  new_speed car = speed p s t a car.cell (vehicle_of car)

  -- the cars of a step stop behind those in front of them
  apart : (d : Car) (i j : ℕ) → i < j → j < length (cars_of a) → cell_at (cars_of a) i + new_speed (slice_index_or (cars_of a) i d) < cell_at (cars_of a) j
  apart d i j lt below =
      let order = rise-at 0 (cars_of a) i j (rise-cars_from 0 a) lt below in
      let nobody : Car = record { number = 0; cell = 0; speed = 0 } in
      let same : slice_index_or (cars_of a) i d ≡ slice_index_or (cars_of a) i nobody = get_or_default (cars_of a) i d nobody (omega arith) in
      let free = behind (cell_at (cars_of a) i) (cell_at (cars_of a) j) (vehicle_of (slice_index_or (cars_of a) i nobody)) (vehicle_of (slice_index_or (cars_of a) j nobody)) (stands a i nobody (omega arith)) (stands a j nobody below) order in
      let speed = ap new_speed same in
      omega arith

  -- the counts of a detector, on or off
  counts_one : (b : Bool) (site : ℕ) → PassesCount (cond b (totals_of site (drives (cars_of a) (map new_speed (cars_of a)))) no_totals)
  counts_one true site = let is = alone site new_speed (λ car. slow car.cell (vehicle_of car)) (cars_of a) apart in (is.one, is.slow)
  counts_one false site = ((omega arith), (omega arith))

-- at most one car passes in a step from any array
pub one_from : (p : Plan) (s : Settings) (t : ℕ) (a : Array) (d : ℕ) → PassesCount (passes_from p s t a d)
one_from p s t a d =
    let entered = road_with_entries p s t a in
    let short = length-array p.cells (λ c. option_or (vehicle_at a c) (entry_at p s t c)) in
    counts_one p s t entered ((never_collide p).on_arrays s t entered short) ((keep_below_greatest_speed p).on_arrays s t entered short)
    (slice_index_or s.watched d false) (slice_index p.detectors d)

module _ (p : Plan) (behind : HoldsInEachStep NeverCollide p) (slow : HoldsInEachStep KeepBelowGreatestSpeed p) (course : Course) (d : ℕ) where
  pub one_by_one : (t : ℕ) → PassesOneByOne p course d t
  one_by_one t =
      let is = counts_one p (course t) t (road_before_motion p course t) (behind.in_runs course t) (slow.in_runs course t) (slice_index_or (course t).watched d false) (slice_index p.detectors d) in
      record { one = is.0; slow = is.1 }

  pub bounded : (n a : ℕ) → ((sum_of_totals (map (passes p course d) (range_with_len a n))).cars ≤ n) × ((sum_of_totals (map (passes p course d) (range_with_len a n))).speeds ≤ GREATEST_SPEED * n)
  bounded zero a = ((omega arith), (omega arith))
  bounded (suc n) a =
      let rest = bounded n (a + 1) in
      let first = one_by_one a in
      let one = first.one in
      let slow = first.slow in
      let few = rest.0 in
      let all = rest.1 in
      ((omega arith), (omega arith))
