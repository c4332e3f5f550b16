-- The count of the columns at a site is the count of its detector: at most one car passes, the first one before the
-- site.
use Rattle.std.specs.Prelude.{◌≡◌, ◌≢◌, ℕ, zero, suc, ◌+◌, ◌<◌, ◌≤◌, Bool, true, false, cond, List, [], ◌∷◌, length, map, slice_index}
use Rattle.std.proofs.Common.{sym, ap, ◌∙◌, arith, refl}
use Rattle.std.specs.List.{filter, slice_index_or}
use Rattle.road_plan.specs.Plan.{Plan}
use Rattle.road_plan.specs.Settings.{Settings}
use Rattle.road_cells.specs.Array.{Array}
use Rattle.road_cells.specs.Cars.{cars_of, cell_at}
use Rattle.road_cells.specs.declared.car.Car.{Car}
use Rattle.road_ends.specs.Speed.{speeds}
use Rattle.road_ends.proofs.StepByCars.{may_move}
use Rattle.road_detector.specs.Passes.{Drive, drives, is_passing, passing_speeds}
use Rattle.road_columns.specs.Columns.{AreColumnsOf, mirrored}
use Rattle.road_columns.specs.Private.Sites.{IsPlaceOf, is_past}
use Rattle.road_columns.proofs.KeptPlaces.{passes_nowhere_else, passes_at_place}

-- the drive of a car
pub drive_at : (cars : List Car) (vs : List ℕ) (k : ℕ) (d : Drive) → length vs ≡ length cars → k < length cars → slice_index_or (drives cars vs) k d ≡ record { cell = cell_at cars k; speed = slice_index vs k }
drive_at [] vs k d same below = absurd (omega arith)
drive_at (car ∷ cars) [] k d same below = absurd (omega arith)
drive_at (car ∷ cars) (v ∷ vs) zero d same below = refl
drive_at (car ∷ cars) (v ∷ vs) (suc k) d same below = drive_at cars vs k d (omega arith) (omega arith)

pub length-drives : (cars : List Car) (vs : List ℕ) → length vs ≡ length cars → length (drives cars vs) ≡ length cars
length-drives [] vs same = refl
length-drives (car ∷ cars) [] same = absurd (omega arith)
length-drives (car ∷ cars) (v ∷ vs) same = ap suc (length-drives cars vs (omega arith))

-- the speed of one car, if it passes
abbrev pub alone : Bool → ℕ → List ℕ
alone true v = v ∷ []
alone false v = []

module _ (site : ℕ) where
  none_pass : (xs : List Drive) → ((k : ℕ) (d : Drive) → k < length xs → is_passing site (slice_index_or xs k d) ≡ false) → passing_speeds site xs ≡ []
  none_pass [] none = refl
  none_pass (x ∷ xs) none =
      ap (λ b. map (λ (y : Drive). y.speed) (cond b (x ∷ filter (is_passing site) xs) (filter (is_passing site) xs))) (none 0 x (omega arith))
      ∙ none_pass xs (λ k d below. none (suc k) d (omega arith))

  one_passes : (xs : List Drive) (m : ℕ) (b : Bool) (v : ℕ) → m < length xs
      → ((d : Drive) → is_passing site (slice_index_or xs m d) ≡ b) → ((d : Drive) → (slice_index_or xs m d).speed ≡ v)
      → ((k : ℕ) (d : Drive) → k < length xs → k ≢ m → is_passing site (slice_index_or xs k d) ≡ false)
      → passing_speeds site xs ≡ alone b v
  one_passes [] m b v below at speed others = absurd (omega arith)
  one_passes (x ∷ xs) zero b v below at speed others =
      ap (λ c. map (λ (y : Drive). y.speed) (cond c (x ∷ filter (is_passing site) xs) (filter (is_passing site) xs))) (at x)
      ∙ by_test b ∙ ap (alone b) (speed x)
    where
      rest : passing_speeds site xs ≡ []
      rest = none_pass xs (λ k d inside. others (suc k) d (omega arith) (λ same. absurd (omega arith)))

      by_test : (c : Bool) → map (λ (y : Drive). y.speed) (cond c (x ∷ filter (is_passing site) xs) (filter (is_passing site) xs)) ≡ alone c x.speed
      by_test true = ap (λ l. x.speed ∷ l) rest
      by_test false = rest
  one_passes (x ∷ xs) (suc m) b v below at speed others =
      ap (λ c. map (λ (y : Drive). y.speed) (cond c (x ∷ filter (is_passing site) xs) (filter (is_passing site) xs))) (others 0 x (omega arith) (λ same. absurd (omega arith)))
      ∙ one_passes xs m b v (omega arith) at speed (λ k d inside other. others (suc k) d (omega arith) (λ same. other (omega arith)))

-- the detector's totals at a site are those of the one car at its place in the columns
pub counted_at_place : (p : Plan) (s : Settings) (t : ℕ) (a : Array) (cells old numbers new vs : List ℕ) (site place : ℕ) → length a ≤ p.cells
    → AreColumnsOf a cells old numbers → length new ≡ length cells
    → ((i : ℕ) → i < length cells → slice_index new i ≡ slice_index cells i + slice_index vs i)
    → ((i : ℕ) → i + 1 < length cells → slice_index new (i + 1) < slice_index cells i)
    → ((i : ℕ) → i < length cells → slice_index vs i ≡ slice_index (speeds p s t a) (mirrored (length cells) i))
    → IsPlaceOf cells site place → place < length cells
    → passing_speeds site (drives (cars_of a) (speeds p s t a)) ≡ alone (is_past new site place) (slice_index vs place)
counted_at_place p s t a cells old numbers new vs site place long columns as_many moved apart are is inside =
    let cars = cars_of a in
    let each = (may_move p s t a long).one_each in
    let many = columns.as_many in
    let lengths = length-drives (cars_of a) (speeds p s t a) each in
    one_passes site (drives (cars_of a) (speeds p s t a)) (mirrored (length cells) place) (is_past new site place) (slice_index vs place) (omega arith)
    (λ d. ap (is_passing site) (here place inside d) ∙ passes_at_place cells vs new site place inside moved is)
    (λ d. ap (λ (x : Drive). x.speed) (here place inside d))
    (λ k d below other.
    let mirror : mirrored (length cells) (mirrored (length cells) k) ≡ k = omega arith in
    let there : mirrored (length cells) k < length cells = omega arith in
    ap (λ n. is_passing site (slice_index_or (drives (cars_of a) (speeds p s t a)) n d)) (sym mirror)
    ∙ ap (is_passing site) (here (mirrored (length cells) k) there d)
    ∙ passes_nowhere_else cells vs new site place (mirrored (length cells) k) as_many moved apart is there (λ same. other (omega arith)))
  where
    here : (i : ℕ) → i < length cells → (d : Drive) → slice_index_or (drives (cars_of a) (speeds p s t a)) (mirrored (length cells) i) d ≡ record { cell = slice_index cells i; speed = slice_index vs i }
    here i below d =
        let many = columns.as_many in
        let each = (may_move p s t a long).one_each in
        drive_at (cars_of a) (speeds p s t a) (mirrored (length cells) i) d each (omega arith)
        ∙ (λ j. record { cell = sym (columns.cell_each i below) j; speed = sym (are i below) j })

-- if no car is before a site, no car is counted
pub counted_nowhere : (p : Plan) (s : Settings) (t : ℕ) (a : Array) (cells old numbers new vs : List ℕ) (site place : ℕ) → length a ≤ p.cells
    → AreColumnsOf a cells old numbers → length new ≡ length cells
    → ((i : ℕ) → i < length cells → slice_index new i ≡ slice_index cells i + slice_index vs i)
    → ((i : ℕ) → i + 1 < length cells → slice_index new (i + 1) < slice_index cells i)
    → ((i : ℕ) → i < length cells → slice_index vs i ≡ slice_index (speeds p s t a) (mirrored (length cells) i))
    → IsPlaceOf cells site place → length cells ≤ place
    → passing_speeds site (drives (cars_of a) (speeds p s t a)) ≡ []
counted_nowhere p s t a cells old numbers new vs site place long columns as_many moved apart are is outside =
    let each = (may_move p s t a long).one_each in
    let many = columns.as_many in
    let lengths = length-drives (cars_of a) (speeds p s t a) each in
    none_pass site (drives (cars_of a) (speeds p s t a))
    (λ k d below.
    let mirror : mirrored (length cells) (mirrored (length cells) k) ≡ k = omega arith in
    let there : mirrored (length cells) k < length cells = omega arith in
    ap (λ n. is_passing site (slice_index_or (drives (cars_of a) (speeds p s t a)) n d)) (sym mirror)
    ∙ ap (is_passing site) (here (mirrored (length cells) k) there d)
    ∙ passes_nowhere_else cells vs new site place (mirrored (length cells) k) as_many moved apart is there (λ same. absurd (omega arith)))
  where
    here : (i : ℕ) → i < length cells → (d : Drive) → slice_index_or (drives (cars_of a) (speeds p s t a)) (mirrored (length cells) i) d ≡ record { cell = slice_index cells i; speed = slice_index vs i }
    here i below d =
        let many = columns.as_many in
        let each = (may_move p s t a long).one_each in
        drive_at (cars_of a) (speeds p s t a) (mirrored (length cells) i) d each (omega arith)
        ∙ (λ j. record { cell = sym (columns.cell_each i below) j; speed = sym (are i below) j })
