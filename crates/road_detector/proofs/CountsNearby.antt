-- The counts of a detector depend only on the cells near its site.
use Rattle.std.specs.Prelude.{◌≡◌, ℕ, suc, ◌+◌, ◌-◌, ◌<◌, ◌≤◌, ◌&&◌, ◌++◌, Bool, true, false, cond, List, [], ◌∷◌, length, map, sum, nat_lt, nat_le, slice_index, refl}
use Rattle.std.specs.List.{filter, slice_index_or}
use Rattle.std.specs.declared.option.Option.{Option}
use Rattle.std.specs.declared.option.Option.TheVariants.{None, Some}
use Rattle.std.proofs.Common.{sym, ap, ◌∙◌, inl, inr, arith}
use Rattle.std.proofs.lemmas.Bool.{cases_lt}
use Rattle.std.proofs.lemmas.Bool.Decides.{nat_tests}
use Rattle.road_plan.specs.Plan.{Plan}
use Rattle.road_plan.specs.Settings.{Settings}
use Rattle.road_cells.specs.Array.{Array, Vehicle, vehicle_at}
use Rattle.road_cells.specs.Cars.{cars_of, cars_from, vehicle_of}
use Rattle.road_cells.specs.declared.car.TheConstants.{GREATEST_SPEED}
use Rattle.road_ends.specs.Entries.{road_with_entries}
use Rattle.road_ends.specs.Speed.{speed}
use Rattle.road_ends.specs.Input.{StepInput, input_speeds}
use Rattle.road_ends.specs.Laws.{AgreeBetween}
use Rattle.road_ends.proofs.NoCollision.{speed-most}
use Rattle.road_ends.proofs.CellsNearby.{entries-nearby, speed-ahead}
use Rattle.road_detector.specs.Laws.{CountCellsNearby}
use Rattle.road_detector.specs.Passes.{Drive, drives, is_passing, passing_speeds, no_totals, passes_at}

-- the values for the cells of an array, one after the other
abbrev walk : (ℕ → Option Vehicle → List ℕ) → Array → List ℕ
walk f [] = []
walk f (o ∷ places) = f 0 o ++ walk (λ c. f (suc c)) places

-- if the cells of two arrays have the same values, and empty cells have none, all values are the same
same_walk : (f g : ℕ → Option Vehicle → List ℕ) → ((c : ℕ) → f c None ≡ []) → ((c : ℕ) → g c None ≡ []) → (x y : Array)
    → ((c : ℕ) → f c (vehicle_at x c) ≡ g c (vehicle_at y c)) → walk f x ≡ walk g y
same_walk f g nothing_f nothing_g [] [] same = refl
same_walk f g nothing_f nothing_g [] (u ∷ y) same =
    (λ i. (sym (nothing_f 0) ∙ same 0) i ++ same_walk (λ c. f (suc c)) (λ c. g (suc c)) (λ c. nothing_f (suc c)) (λ c. nothing_g (suc c)) [] y (λ c. same (suc c)) i)
same_walk f g nothing_f nothing_g (o ∷ x) [] same =
    (λ i. (same 0 ∙ nothing_g 0) i ++ same_walk (λ c. f (suc c)) (λ c. g (suc c)) (λ c. nothing_f (suc c)) (λ c. nothing_g (suc c)) x [] (λ c. same (suc c)) i)
same_walk f g nothing_f nothing_g (o ∷ x) (u ∷ y) same =
    (λ i. same 0 i ++ same_walk (λ c. f (suc c)) (λ c. g (suc c)) (λ c. nothing_f (suc c)) (λ c. nothing_g (suc c)) x y (λ c. same (suc c)) i)

-- the speed of a car at a cell, if the car passes the site at it
abbrev passing : ℕ → ℕ → (Vehicle → ℕ) → Option Vehicle → List ℕ
passing site c drive None = []
passing site c drive (Some v) = cond (is_passing site (record { cell = c; speed = drive v })) (drive v ∷ []) []

-- the speeds of the cars that pass a site, cell by cell
passing_cars : (site : ℕ) (drive : ℕ → Vehicle → ℕ) (k : ℕ) (a : Array)
    → passing_speeds site (drives (cars_from k a) (map (λ car. drive car.cell (vehicle_of car)) (cars_from k a))) ≡ walk (λ c. passing site (k + c) (drive (k + c))) a
passing_cars site drive k [] = refl
passing_cars site drive k (None ∷ places) = passing_cars site drive (k + 1) places ∙ (λ i. walk (λ c. passing site (further k c i) (drive (further k c i))) places)
  where
    further : (k c : ℕ) → k + 1 + c ≡ k + suc c
    further k c = omega arith
passing_cars site drive k (Some v ∷ places) =
    front (drives (cars_from (k + 1) places) (map (λ car. drive car.cell (vehicle_of car)) (cars_from (k + 1) places))) (is_passing site (record { cell = k; speed = drive k v }))
    ∙ (λ i. passing site (here k i) (drive (here k i)) (Some v) ++ (passing_cars site drive (k + 1) places ∙ (λ j. walk (λ c. passing site (further k c j) (drive (further k c j))) places)) i)
  where
    further : (k c : ℕ) → k + 1 + c ≡ k + suc c
    further k c = omega arith

    here : (k : ℕ) → k ≡ k + 0
    here k = omega arith

    front : (rest : List Drive) (b : Bool) → map (λ (x : Drive). x.speed) (cond b (record { cell = k; speed = drive k v } ∷ filter (is_passing site) rest) (filter (is_passing site) rest))
        ≡ cond b (drive k v ∷ []) [] ++ passing_speeds site rest
    front rest true = refl
    front rest false = refl

-- the input of a step with this road before the motion
abbrev pub before_motion : Plan → Settings → ℕ → Array → StepInput
before_motion p s t a = record { plan = p; settings = s; step = t; road = a }

-- two roads before their motion
module _ (p : Plan) (s : Settings) (t site : ℕ) (x y : Array) (agree : AgreeBetween (site - GREATEST_SPEED) (site + GREATEST_SPEED) x y) where
  late : (c v : ℕ) → site ≤ c → is_passing site (record { cell = c; speed = v }) ≡ false
  late c v le = ap (λ b. b && nat_le site (c + v)) (behind c site le)
    where
      behind : (c site : ℕ) → site ≤ c → nat_lt c site ≡ false
      behind c site le = grind (arith, nat_tests)

  early : (c v : ℕ) → c + v < site → is_passing site (record { cell = c; speed = v }) ≡ false
  early c v lt = ap (λ b. nat_lt c site && b) (short (c + v) site lt) ∙ none (nat_lt c site)
    where
      short : (e site : ℕ) → e < site → nat_le site e ≡ false
      short e site lt = grind (arith, nat_tests)

      none : (b : Bool) → b && false ≡ false
      none true = refl
      none false = refl

  -- a cell from which no car passes
  nobody : (a : Array) (c : ℕ) (o : Option Vehicle) → ((v : ℕ) → v ≤ GREATEST_SPEED → is_passing site (record { cell = c; speed = v }) ≡ false) → passing site c (speed p s t a c) o ≡ []
  nobody a c None far = refl
  nobody a c (Some car) far = ap (λ b. cond b (speed p s t a c car ∷ []) []) (far (speed p s t a c car) (speed-most p s t a c car))

  -- the speeds of cars that pass from a cell
  abbrev from : Array → ℕ → Option Vehicle → List ℕ
  from a c = passing site c (speed p s t a c)

  near : (c : ℕ) → site - GREATEST_SPEED ≤ c → c < site → from x c (vehicle_at x c) ≡ from y c (vehicle_at y c)
  near c above below = λ i. passing site c
      (λ car. speed-ahead p s t x y c car (λ d over under. agree.same d (omega arith) (omega arith)) i)
      (agree.same c above (omega arith) i)

  same_from : (c : ℕ) → from x c (vehicle_at x c) ≡ from y c (vehicle_at y c)
  same_from c = elim (cases_lt c site) as (λ _. from x c (vehicle_at x c) ≡ from y c (vehicle_at y c)) [
    | inl before ↦ elim (cases_lt (c + GREATEST_SPEED) site) as (λ _. from x c (vehicle_at x c) ≡ from y c (vehicle_at y c)) [
      | inl out ↦
          let far : (v : ℕ) → v ≤ GREATEST_SPEED → is_passing site (record { cell = c; speed = v }) ≡ false = λ v le. early c v (omega arith) in
          nobody x c (vehicle_at x c) far ∙ sym (nobody y c (vehicle_at y c) far)
      | inr within ↦ near c (omega arith) before
    ]
    | inr past ↦
        let far : (v : ℕ) → v ≤ GREATEST_SPEED → is_passing site (record { cell = c; speed = v }) ≡ false = λ v le. late c v past in
        nobody x c (vehicle_at x c) far ∙ sym (nobody y c (vehicle_at y c) far)
  ]

  -- the speeds of the cars that pass
  abbrev passed : Array → List ℕ
  passed a = passing_speeds site (drives (cars_of a) (map (λ car. speed p s t a car.cell (vehicle_of car)) (cars_of a)))

  by_cells : (a : Array) → passed a ≡ walk (from a) a
  by_cells a = passing_cars site (speed p s t a) 0 a ∙ (λ i. walk (λ c. passing site (none c i) (speed p s t a (none c i))) a)
    where
      none : (c : ℕ) → 0 + c ≡ c
      none c = omega arith

  pub passed-nearby : passed x ≡ passed y
  passed-nearby = by_cells x ∙ same_walk (from x) (from y) (λ _. refl) (λ _. refl) x y same_from ∙ sym (by_cells y)

-- the totals of equal speeds are equal
pub passes-nearby : (p : Plan) (s : Settings) (t d : ℕ) (x y : Array) → AgreeBetween (slice_index p.detectors d - GREATEST_SPEED) (slice_index p.detectors d + GREATEST_SPEED) x y
    → passes_at (before_motion p s t x) (input_speeds (before_motion p s t x)) d ≡ passes_at (before_motion p s t y) (input_speeds (before_motion p s t y)) d
passes-nearby p s t d x y agree =
    ap (λ speeds. cond (slice_index_or s.watched d false) (record { cars = length speeds; speeds = sum speeds }) no_totals) (passed-nearby p s t (slice_index p.detectors d) x y agree)

-- the same for roads before their entries
pub count_cells_nearby : (p : Plan) → CountCellsNearby p
count_cells_nearby p s t d x y agree = passes-nearby p s t d (road_with_entries p s t x) (road_with_entries p s t y)
    (entries-nearby p s t (slice_index p.detectors d - GREATEST_SPEED) (slice_index p.detectors d + GREATEST_SPEED) x y agree)
