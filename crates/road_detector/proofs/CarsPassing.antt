-- Counting the cars that pass a site.
use Rattle.std.specs.Prelude.{◌≡◌, ℕ, zero, suc, ◌+◌, ◌<◌, ◌≤◌, true, false, cond, List, [], ◌∷◌, length, map, drop, sum, slice_index, refl}
use Rattle.std.specs.List.{slice_index_or, filter}
use Rattle.std.proofs.Common.{ap, ◌∙◌, arith}
use Rattle.std.proofs.lemmas.List.Sums.{sum_by-cons}
use Rattle.std.proofs.lemmas.List.{drop_more, drop_all}
use Rattle.road_cells.specs.Cars.{cell_at}
use Rattle.road_cells.specs.declared.car.Car.{Car}
use Rattle.road_detector.specs.Passes.{Drive, drives, is_passing, passing_speeds}

-- a default for a drive that is not in the list
abbrev nowhere : Drive
nowhere = record { cell = 0; speed = 0 }

-- one drive for each car
pub length-drives : (cars : List Car) (speeds : List ℕ) → length speeds ≡ length cars → length (drives cars speeds) ≡ length cars
length-drives [] speeds one = refl
length-drives (car ∷ cars) [] one = absurd (omega arith)
length-drives (car ∷ cars) (v ∷ speeds) one = ap suc (length-drives cars speeds (omega arith))

-- the drive of the k-th car
pub drive_at : (cars : List Car) (speeds : List ℕ) (k : ℕ) → length speeds ≡ length cars → k < length cars
    → slice_index_or (drives cars speeds) k nowhere ≡ record { cell = cell_at cars k; speed = slice_index speeds k }
drive_at [] speeds k one below = absurd (omega arith)
drive_at (car ∷ cars) [] k one below = absurd (omega arith)
drive_at (car ∷ cars) (v ∷ speeds) zero one below = refl
drive_at (car ∷ cars) (v ∷ speeds) (suc k) one below = drive_at cars speeds k (omega arith) (omega arith)

module _ (site : ℕ) (cars : List Car) (speeds : List ℕ) (one : length speeds ≡ length cars) where
  next_drive : (k : ℕ) → k < length cars → drop k (drives cars speeds) ≡ record { cell = cell_at cars k; speed = slice_index speeds k } ∷ drop (k + 1) (drives cars speeds)
  next_drive k below =
      let each = length-drives cars speeds one in
      drop_more (drives cars speeds) k nowhere (omega arith) ∙ ap (λ x. x ∷ drop (k + 1) (drives cars speeds)) (drive_at cars speeds k one below)

  -- a car that does not pass is not counted
  pub one_stays : (k : ℕ) → k < length cars → is_passing site (record { cell = cell_at cars k; speed = slice_index speeds k }) ≡ false
      → passing_speeds site (drop k (drives cars speeds)) ≡ passing_speeds site (drop (k + 1) (drives cars speeds))
  one_stays k below out = ap (passing_speeds site) (next_drive k below)
      ∙ ap (λ b. map (λ (x : Drive). x.speed) (cond b (record { cell = cell_at cars k; speed = slice_index speeds k } ∷ filter (is_passing site) (drop (k + 1) (drives cars speeds))) (filter (is_passing site) (drop (k + 1) (drives cars speeds))))) out

  pub one_passes : (k : ℕ) → k < length cars → is_passing site (record { cell = cell_at cars k; speed = slice_index speeds k }) ≡ true
      → passing_speeds site (drop k (drives cars speeds)) ≡ slice_index speeds k ∷ passing_speeds site (drop (k + 1) (drives cars speeds))
  one_passes k below in_ = ap (passing_speeds site) (next_drive k below)
      ∙ ap (λ b. map (λ (x : Drive). x.speed) (cond b (record { cell = cell_at cars k; speed = slice_index speeds k } ∷ filter (is_passing site) (drop (k + 1) (drives cars speeds))) (filter (is_passing site) (drop (k + 1) (drives cars speeds))))) in_

  -- a car that passes increases both counts
  pub counts_one : (k : ℕ) → k < length cars → is_passing site (record { cell = cell_at cars k; speed = slice_index speeds k }) ≡ true
      → (length (passing_speeds site (drop k (drives cars speeds))) ≡ length (passing_speeds site (drop (k + 1) (drives cars speeds))) + 1)
      × (sum (passing_speeds site (drop k (drives cars speeds))) ≡ slice_index speeds k + sum (passing_speeds site (drop (k + 1) (drives cars speeds))))
  counts_one k below in_ =
      let rest = passing_speeds site (drop (k + 1) (drives cars speeds)) in
      let longer = ap length (one_passes k below in_) in
      let more = ap sum (one_passes k below in_) ∙ sum_by-cons (λ x. x) (slice_index speeds k) rest in
      ((omega arith), (omega arith))

  -- in the end no car is left
  pub nobody_left : (k : ℕ) → length cars ≤ k → passing_speeds site (drop k (drives cars speeds)) ≡ []
  nobody_left k past = ap (passing_speeds site) (drop_all k (drives cars speeds) (let each = length-drives cars speeds one in omega arith))
