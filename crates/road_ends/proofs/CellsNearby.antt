-- A stretch of road depends only on the cells nearby: no car drives farther in a step than it looks.
use Rattle.std.specs.Prelude.{◌≡◌, ℕ, zero, suc, ◌+◌, ◌-◌, ◌<◌, ◌≤◌, ◌==◌, ◌&&◌, ◌||◌, false, cond, length, is_some, nat_lt, slice_index, refl}
use Rattle.std.specs.List.{range_with_len}
use Rattle.std.specs.Option.{option_or}
use Rattle.std.specs.declared.option.Option.{Option}
use Rattle.std.specs.declared.option.Option.TheVariants.{None, Some}
use Rattle.std.proofs.Common.{sym, ap, ◌∙◌, inl, inr, arith}
use Rattle.std.proofs.lemmas.Bool.{cases_lt}
use Rattle.std.proofs.lemmas.Bool.Decides.{nat_tests}
use Rattle.road_plan.specs.Plan.{Plan, exit_start, zone_of}
use Rattle.road_plan.specs.Settings.{Settings}
use Rattle.road_cells.specs.Array.{Array, Vehicle, vehicle_at, array}
use Rattle.road_cells.specs.Gap.{is_blocked}
use Rattle.road_cells.specs.declared.car.TheConstants.{GREATEST_SPEED}
use Rattle.road_cells.proofs.ArrayPlaces.{vehicle_at-array, past_array, past_end}
use Rattle.road_cells.proofs.FreeCells.{free_before-same}
use Rattle.road_rules.specs.Motion.{first_some, arrival_from, arrival_at}
use Rattle.road_rules.specs.Speeds.{wanted_speed, slowed_speed}
use Rattle.road_ends.specs.Entries.{entry_at, road_with_entries}
use Rattle.road_ends.specs.Speed.{is_taken_on_road, gap, speed, is_slowed}
use Rattle.road_ends.specs.Run.{road_after_motion, road_after_step, road_after_steps}
use Rattle.road_ends.specs.Laws.{AgreeBetween, DependOnCellsNearby}
use Rattle.road_ends.proofs.NoCollision.{speed-most}

-- arrays made by functions that agree at a place have the same vehicle there
same_place : (n : ℕ) (f g : ℕ → Option Vehicle) (c : ℕ) → f c ≡ g c → vehicle_at (array n f) c ≡ vehicle_at (array n g) c
same_place n f g c same = elim (cases_lt c n) as (λ _. vehicle_at (array n f) c ≡ vehicle_at (array n g) c) [
  | inl below ↦ vehicle_at-array n f c below ∙ same ∙ sym (vehicle_at-array n g c below)
  | inr past ↦ past_array n f c past ∙ sym (past_array n g c past)
]

-- the car that enters at a cell depends only on the vehicle there
pub entries-here : (p : Plan) (s : Settings) (t : ℕ) (x y : Array) (c : ℕ) → vehicle_at x c ≡ vehicle_at y c → vehicle_at (road_with_entries p s t x) c ≡ vehicle_at (road_with_entries p s t y) c
entries-here p s t x y c same = same_place p.cells _ _ c (ap (λ o. option_or o (entry_at p s t c)) same)

-- a gap depends only on the cells in front
gap-ahead : (p : Plan) (s : Settings) (x y : Array) (c : ℕ) → ((d : ℕ) → c < d → d ≤ c + GREATEST_SPEED → vehicle_at x d ≡ vehicle_at y d) → gap p s x c ≡ gap p s y c
gap-ahead p s x y c same = free_before-same (is_taken_on_road p s x) (is_taken_on_road p s y) GREATEST_SPEED (c + 1) (λ d from to i. nat_lt d p.cells && (is_some (same d (omega arith) (omega arith) i) || is_blocked s.blocks d))

-- the speed of a car depends only on the cells in front
pub speed-ahead : (p : Plan) (s : Settings) (t : ℕ) (x y : Array) (c : ℕ) (car : Vehicle) → ((d : ℕ) → c < d → d ≤ c + GREATEST_SPEED → vehicle_at x d ≡ vehicle_at y d) → speed p s t x c car ≡ speed p s t y c car
speed-ahead p s t x y c car same = ap (λ free. slowed_speed (wanted_speed car.speed (slice_index s.limits (zone_of p c)) free) (is_slowed p s t (zone_of p c) car)) (gap-ahead p s x y c same)

-- a car does not arrive at a cell to which its speed does not bring it
not_from : (j c : ℕ) (v : Vehicle → ℕ) (o : Option Vehicle) → ((car : Vehicle) → (c + v car == j) ≡ false) → arrival_from j c v o ≡ None
not_from j c v None never = refl
not_from j c v (Some car) never = ap (λ b. cond b (Some (record { number = car.number; speed = v car })) None) (never car)

-- a search finds nothing if the function has no value from a on
first-none : (f : ℕ → Option Vehicle) (a n : ℕ) → ((c : ℕ) → a ≤ c → f c ≡ None) → first_some f (range_with_len a n) ≡ None
first-none f a zero none = refl
first-none f a (suc n) none = ap (λ o. option_or o (first_some f (range_with_len (a + 1) n))) (none a (omega arith)) ∙ first-none f (a + 1) n (λ c le. none c (omega arith))

-- a longer search finds no more if the function has no value farther on
first-longer : (f : ℕ → Option Vehicle) (a n more : ℕ) → ((c : ℕ) → a + n ≤ c → f c ≡ None) → first_some f (range_with_len a (n + more)) ≡ first_some f (range_with_len a n)
first-longer f a zero more none =
    let many : 0 + more ≡ more = omega arith in
    ap (λ n. first_some f (range_with_len a n)) many ∙ first-none f a more (λ c le. none c (omega arith))
first-longer f a (suc n) more none =
    let many : suc n + more ≡ suc (n + more) = omega arith in
    ap (λ n. first_some f (range_with_len a n)) many ∙ ap (option_or (f a)) (first-longer f (a + 1) n more (λ c le. none c (omega arith)))

-- the vehicle that arrives at a cell, from any cell
module _ (p : Plan) (s : Settings) (t : ℕ) (x y : Array) (j : ℕ) (same : (c : ℕ) → j - GREATEST_SPEED ≤ c → c ≤ j + GREATEST_SPEED → vehicle_at x c ≡ vehicle_at y c) where
  abbrev from : Array → ℕ → Option Vehicle
  from a c = arrival_from j c (speed p s t a c) (vehicle_at a c)

  far_off : (a : Array) (c : ℕ) → ((v : ℕ) → v ≤ GREATEST_SPEED → (c + v == j) ≡ false) → from a c ≡ None
  far_off a c far = not_from j c (speed p s t a c) (vehicle_at a c) (λ car. far (speed p s t a c car) (speed-most p s t a c car))

  near : (c : ℕ) → j - GREATEST_SPEED ≤ c → c ≤ j → from x c ≡ from y c
  near c from_here to = λ i. arrival_from j c (λ car. speed-ahead p s t x y c car (λ d above below. same d (omega arith) (omega arith)) i) (same c from_here (omega arith) i)

  differs : (a b : ℕ) → a < b → (a == b) ≡ false
  differs a b lt = grind (arith, nat_tests)

  differs_back : (a b : ℕ) → b < a → (a == b) ≡ false
  differs_back a b lt = grind (arith, nat_tests)

  same_from : (c : ℕ) → from x c ≡ from y c
  same_from c = elim (cases_lt j c) as (λ _. from x c ≡ from y c) [
    | inl ahead ↦
        let far : (v : ℕ) → v ≤ GREATEST_SPEED → (c + v == j) ≡ false = λ v le. differs_back (c + v) j (omega arith) in
        far_off x c far ∙ sym (far_off y c far)
    | inr behind ↦ elim (cases_lt (c + GREATEST_SPEED) j) as (λ _. from x c ≡ from y c) [
      | inl out ↦
          let far : (v : ℕ) → v ≤ GREATEST_SPEED → (c + v == j) ≡ false = λ v le. differs (c + v) j (omega arith) in
          far_off x c far ∙ sym (far_off y c far)
      | inr within ↦ near c (omega arith) (omega arith)
    ]
  ]

  -- as far as the longer road reaches
  all_of : (a : Array) (more : ℕ) → arrival_at (speed p s t a) a j ≡ first_some (from a) (range_with_len 0 (length a + more))
  all_of a more = sym (first-longer (from a) 0 (length a) more (λ c past. ap (arrival_from j c (speed p s t a c)) (past_end a c (omega arith))))

  swapped : (a b : ℕ) → first_some (from y) (range_with_len 0 (a + b)) ≡ first_some (from y) (range_with_len 0 (b + a))
  swapped a b = ap (λ n. first_some (from y) (range_with_len 0 n)) (omega arith)

  pub arrival-nearby : arrival_at (speed p s t x) x j ≡ arrival_at (speed p s t y) y j
  arrival-nearby =
      all_of x (length y)
      ∙ (λ i. first_some (λ c. same_from c i) (range_with_len 0 (length x + length y)))
      ∙ swapped (length x) (length y)
      ∙ sym (all_of y (length x))

-- roads that agree before the entries agree after them
pub entries-nearby : (p : Plan) (s : Settings) (t lo hi : ℕ) (x y : Array) → AgreeBetween lo hi x y → AgreeBetween lo hi (road_with_entries p s t x) (road_with_entries p s t y)
entries-nearby p s t lo hi x y agree = record { same = λ c above below. entries-here p s t x y c (agree.same c above below) }

-- the motion of one step
pub motion-nearby : (p : Plan) (s : Settings) (t lo hi : ℕ) (x y : Array) → AgreeBetween (lo - GREATEST_SPEED) (hi + GREATEST_SPEED) x y → AgreeBetween lo hi (road_after_motion p s t x) (road_after_motion p s t y)
motion-nearby p s t lo hi x y agree = record {
  same = λ j from to. same_place (exit_start p) _ _ j (arrival-nearby p s t x y j (λ c above below. agree.same c (omega arith) (omega arith)));
}

-- one step
step-nearby : (p : Plan) (s : Settings) (t lo hi : ℕ) (x y : Array) → AgreeBetween (lo - GREATEST_SPEED) (hi + GREATEST_SPEED) x y → AgreeBetween lo hi (road_after_step p s t x) (road_after_step p s t y)
step-nearby p s t lo hi x y agree = motion-nearby p s t lo hi (road_with_entries p s t x) (road_with_entries p s t y) (entries-nearby p s t (lo - GREATEST_SPEED) (hi + GREATEST_SPEED) x y agree)

-- several steps
pub depend_on_cells_nearby : (p : Plan) → DependOnCellsNearby p
depend_on_cells_nearby p course t zero lo hi x y agree = record { same = λ c from to. agree.same c (omega arith) (omega arith) }
depend_on_cells_nearby p course t (suc k) lo hi x y agree =
    step-nearby p (course (t + k)) (t + k) lo hi (road_after_steps p course t k x) (road_after_steps p course t k y)
    (depend_on_cells_nearby p course t k (lo - GREATEST_SPEED) (hi + GREATEST_SPEED) x y (record { same = λ c from to. agree.same c (omega arith) (omega arith) }))
