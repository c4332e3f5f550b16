-- What the pass over the columns computes for a car, by the cells of the next car and of the next block.
use Rattle.std.specs.Prelude.{◌≡◌, ℕ, ◌+◌, ◌*◌, ◌/◌, ◌<◌, ◌≤◌, ◌-◌, min, List, length, is_some, slice_index}
use Rattle.std.proofs.Common.{sym, ap, ◌∙◌, arith, refl, inl, inr}
use Rattle.std.proofs.lemmas.Bool.{cases_lt}
use Rattle.std.specs.List.Sorted.{IsNonDecreasing}
use Rattle.std.proofs.Math.Nat.{div-lt_iff_lt-mul, div-mul-le_self}
use Rattle.road_plan.specs.Plan.{Plan, zone_of}
use Rattle.road_plan.specs.Settings.{Settings, Fits}
use Rattle.road_words.specs.Words.{word}
use Rattle.road_cells.specs.Array.{Array, vehicle_at}
use Rattle.road_cells.specs.Cars.{cars_of, vehicle_of, vehicle_among, cell_at}
use Rattle.road_cells.specs.Gap.{free_before, free_cells, is_blocked, ArePartedAt}
use Rattle.road_cells.proofs.CarLists.{rise-cars_from, vehicle_among-cars_from}
use Rattle.road_cells.proofs.CellsAhead.{free_to_next, free_to_none, free_to_point, free_to_end}
use Rattle.road_cells.proofs.FreeCells.{free_before-or, free_before-same}
use Rattle.road_cells.specs.declared.car.TheConstants.{GREATEST_SPEED}
use Rattle.road_rules.proofs.MotionOfCars.{cell_at-end}
use Rattle.road_rules.specs.Speeds.{wanted_speed, slowed_speed, comes_about}
use Rattle.road_ends.specs.Speed.{chance_at, speed, nth_car}
use Rattle.road_ends.proofs.PassOverCars.{read_speed}
use Rattle.road_columns.specs.Private.Regions.{AreOfZone}

-- the k-th of n cells, or a cell past all roads if k is n
pub record IsNthOrNowhere (n k kth c : ℕ) : Type 0 where
  pub here : k < n → c ≡ kth
  pub none : n ≤ k → c ≡ 4294967295

-- a cell that is not behind another one is not in a zone behind that one's zone
pub zone_up_to : (width c end : ℕ) → 0 < width → c ≤ end → c / width ≤ end / width
zone_up_to width c end wide to = elim (cases_lt (end / width) (c / width)) as (λ _. c / width ≤ end / width) [
  | inl less ↦
      let before : end < c / width * width = (div-lt_iff_lt-mul {k = width} {x = end} {y = c / width} wide).0 less in
      let most = div-mul-le_self c width in
      absurd (omega arith)
  | inr more ↦ more
]

-- the free cells in front of a car are those before the next car and the next block
pub free_ahead : (blocks : List ℕ) (a : Array) (k reached next block : ℕ) → length a ≤ 65536 → k < length (cars_of a) → IsNonDecreasing blocks → ArePartedAt blocks (cell_at (cars_of a) k) reached
    → IsNthOrNowhere (length (cars_of a)) (k + 1) (cell_at (cars_of a) (k + 1)) next → IsNthOrNowhere (length blocks) reached (slice_index blocks reached) block
    → min GREATEST_SPEED (min next block - (cell_at (cars_of a) k + 1)) ≡ free_cells blocks a (cell_at (cars_of a) k)
free_ahead blocks a k reached next block long below rising parted is_next is_block =
    let cars = cars_of a in
    let cell = cell_at cars k in
    let rise = rise-cars_from 0 a in
    let end = cell_at-end 0 a k below in
    let to_car : free_before (λ c. is_some (vehicle_among c cars)) (cell + 1) GREATEST_SPEED ≡ min GREATEST_SPEED (next - (cell + 1)) =
    elim (cases_lt (k + 1) (length cars)) as (λ _. free_before (λ c. is_some (vehicle_among c cars)) (cell + 1) GREATEST_SPEED ≡ min GREATEST_SPEED (next - (cell + 1))) [
      | inl more ↦ free_to_next cars k GREATEST_SPEED (record { number = 0; cell = 0; speed = 0 }) rise more ∙ ap (λ n. min GREATEST_SPEED (n - (cell + 1))) (sym (is_next.here more))
      | inr last ↦ let none = free_to_none cars k GREATEST_SPEED rise below last in let far = is_next.none last in omega arith
    ] in
    let to_block : free_before (is_blocked blocks) (cell + 1) GREATEST_SPEED ≡ min GREATEST_SPEED (block - (cell + 1)) =
    elim (cases_lt reached (length blocks)) as (λ _. free_before (is_blocked blocks) (cell + 1) GREATEST_SPEED ≡ min GREATEST_SPEED (block - (cell + 1))) [
      | inl more ↦ free_to_point blocks cell reached rising parted GREATEST_SPEED more ∙ ap (λ n. min GREATEST_SPEED (n - (cell + 1))) (sym (is_block.here more))
      | inr last ↦ let none = free_to_end blocks cell reached rising parted GREATEST_SPEED last in let far = is_block.none last in omega arith
    ] in
    let among : free_before (λ c. is_some (vehicle_among c cars)) (cell + 1) GREATEST_SPEED ≡ free_before (λ c. is_some (vehicle_at a c)) (cell + 1) GREATEST_SPEED =
    free_before-same (λ c. is_some (vehicle_among c cars)) (λ c. is_some (vehicle_at a c)) GREATEST_SPEED (cell + 1)
    (λ c le lt. let here : c ≡ 0 + c = omega arith in ap (λ j. is_some (vehicle_among j cars)) here ∙ ap is_some (vehicle_among-cars_from 0 c a)) in
    let both = free_before-or (λ c. is_some (vehicle_at a c)) (is_blocked blocks) GREATEST_SPEED (cell + 1) in
    least (next - (cell + 1)) (block - (cell + 1)) (min next block - (cell + 1)) (omega arith)
    ∙ (λ i. min (sym to_car i) (sym to_block i)) ∙ ap (λ n. min n (free_before (is_blocked blocks) (cell + 1) GREATEST_SPEED)) among ∙ sym both
  where
    least : (m n l : ℕ) → l ≡ min m n → min GREATEST_SPEED l ≡ min (min GREATEST_SPEED m) (min GREATEST_SPEED n)
    least m n l is = omega arith

-- the speed computed from these free cells is that of the definition
pub ahead_speed : (p : Plan) (s : Settings) (t : ℕ) (a : Array) (k reached next block limit standing moving v : ℕ) → Fits p s → length a ≤ p.cells → p.cells ≤ 65536 → IsNonDecreasing s.blocks
    → k < length (cars_of a) → ArePartedAt s.blocks (cell_at (cars_of a) k) reached
    → IsNthOrNowhere (length (cars_of a)) (k + 1) (cell_at (cars_of a) (k + 1)) next → IsNthOrNowhere (length s.blocks) reached (slice_index s.blocks reached) block
    → AreOfZone s.limits s.starts s.chances (zone_of p (cell_at (cars_of a) k)) limit standing moving
    → v ≡ slowed_speed (wanted_speed (nth_car (cars_of a) k).speed limit (min GREATEST_SPEED (min next block - (cell_at (cars_of a) k + 1)))) (comes_about (word p.words (nth_car (cars_of a) k).number t) (chance_at (nth_car (cars_of a) k).speed standing moving))
    → v ≡ speed p s t a (nth_car (cars_of a) k).cell (vehicle_of (nth_car (cars_of a) k))
ahead_speed p s t a k reached next block limit standing moving v fits long short rising below parted is_next is_block of_zone is =
    let car = nth_car (cars_of a) k in
    let free = min GREATEST_SPEED (min next block - (cell_at (cars_of a) k + 1)) in
    let wished = wanted_speed car.speed limit free in
    read_speed p s t a (cars_of a) s.limits s.starts s.chances k (zone_of p (cell_at (cars_of a) k)) free wished v fits long refl refl refl refl refl
    (free_ahead s.blocks a k reached next block (omega arith) below rising parted is_next is_block) (ap (λ l. wanted_speed car.speed l free) of_zone.limit_is)
    (is ∙ (λ i. slowed_speed wished (comes_about (word p.words car.number t) (chance_at car.speed (of_zone.standing_is i) (of_zone.moving_is i)))))
