-- A car stays behind the next taken cell.
use Rattle.std.specs.Prelude.{◌≡◌, ℕ, suc, ◌+◌, ◌-◌, ◌<◌, ◌≤◌, ◌&&◌, ◌||◌, Bool, true, false, List, [], ◌∷◌, length, is_some, nat_eq, slice_index, refl}
use Rattle.std.specs.List.{All}
use Rattle.std.specs.declared.option.Option.{Option}
use Rattle.std.specs.declared.option.Option.TheVariants.{None, Some}
use Rattle.std.proofs.Common.{sym, ap, ◌∙◌, inl, inr, arith}
use Rattle.std.proofs.lemmas.Bool.{lt-ltb, cases_lt}
use Rattle.std.proofs.lemmas.Bool.Decides.{nat_tests}
use Rattle.road_plan.specs.Plan.{Plan, zone_of}
use Rattle.road_plan.specs.Settings.{Settings}
use Rattle.road_cells.specs.Array.{Array, Vehicle, vehicle_at, array}
use Rattle.road_cells.proofs.ArrayPlaces.{past_array, past_end, length-array}
use Rattle.road_cells.specs.Gap.{is_blocked}
use Rattle.road_cells.proofs.FreeCells.{free_before-le, free_before-most}
use Rattle.road_cells.specs.declared.car.TheConstants.{GREATEST_SPEED}
use Rattle.road_rules.specs.Speeds.{wanted_speed, slowed_speed}
use Rattle.road_ends.specs.Speed.{is_taken_on_road, gap, speed, is_slowed}
use Rattle.road_ends.specs.Run.{Course, road_before_motion}
use Rattle.road_ends.specs.Laws.{StepLaw, HoldsInEachStep, KeepBelowGreatestSpeed, NeverCollide, ArriveAlone, KeepOrder, StopAtBlocks}

slowed_speed-le : (v : ℕ) (event : Bool) → slowed_speed v event ≤ v
slowed_speed-le v true = omega arith
slowed_speed-le v false = omega arith

wanted_speed-le : (v limit free : ℕ) → wanted_speed v limit free ≤ free
wanted_speed-le v limit free = omega arith

-- a car never drives farther than its gap
pub speed-le : (p : Plan) (s : Settings) (t : ℕ) (a : Array) (c : ℕ) (x : Vehicle) → speed p s t a c x ≤ gap p s a c
speed-le p s t a c x = both (wanted_speed x.speed (slice_index s.limits (zone_of p c)) (gap p s a c)) (gap p s a c) (is_slowed p s t (zone_of p c) x) (wanted_speed-le x.speed (slice_index s.limits (zone_of p c)) (gap p s a c))
  where
    both : (u free : ℕ) (event : Bool) → u ≤ free → slowed_speed u event ≤ free
    both u free event le = let less = slowed_speed-le u event in omega arith

-- no car is too fast
pub speed-most : (p : Plan) (s : Settings) (t : ℕ) (a : Array) (c : ℕ) (x : Vehicle) → speed p s t a c x ≤ GREATEST_SPEED
speed-most p s t a c x = both (speed p s t a c x) (gap p s a c) (speed-le p s t a c x) (free_before-most (is_taken_on_road p s a) (c + 1) GREATEST_SPEED)
  where
    both : (v free : ℕ) → v ≤ free → free ≤ GREATEST_SPEED → v ≤ GREATEST_SPEED
    both v free le most = omega arith

-- a car stays behind each taken cell in front of it
pub before_taken : (p : Plan) (s : Settings) (t : ℕ) (a : Array) (c d : ℕ) (x : Vehicle) → c < d → is_taken_on_road p s a d ≡ true → c + speed p s t a c x < d
before_taken p s t a c d x lt taken = both (speed p s t a c x) (gap p s a c) (speed-le p s t a c x) (free_before-le (is_taken_on_road p s a) GREATEST_SPEED (c + 1) d (omega arith) taken)
  where
    both : (v free : ℕ) → v ≤ free → free ≤ d - (c + 1) → c + v < d
    both v free le most = omega arith

-- a cell of the road that holds a car is taken
pub taken-car : (p : Plan) (s : Settings) (a : Array) (d : ℕ) (y : Vehicle) → d < p.cells → vehicle_at a d ≡ Some y → is_taken_on_road p s a d ≡ true
taken-car p s a d y on here = λ i. lt-ltb d p.cells on i && (is_some (here i) || is_blocked s.blocks d)

-- a blocked cell of the road is taken
taken-blocked : (p : Plan) (s : Settings) (a : Array) (d : ℕ) → d < p.cells → is_blocked s.blocks d ≡ true → is_taken_on_road p s a d ≡ true
taken-blocked p s a d on blocked = (λ i. lt-ltb d p.cells on i && (is_some (vehicle_at a d) || blocked i)) ∙ either (is_some (vehicle_at a d))
  where
    either : (b : Bool) → true && (b || true) ≡ true
    either true = refl
    either false = refl

-- a vehicle in an array is below the array's bound
pub within : (n : ℕ) (f : ℕ → Option Vehicle) (d : ℕ) (y : Vehicle) → vehicle_at (array n f) d ≡ Some y → d < n
within n f d y here = elim (cases_lt d n) as (λ _. d < n) [
  | inl below ↦ below
  | inr past ↦ let gone : Some y ≡ None = sym here ∙ past_array n f d past in cc
]

pub cars-apart : (p : Plan) (s : Settings) (t : ℕ) (a : Array) (c d : ℕ) (x y : Vehicle) → length a ≤ p.cells → d < p.cells → vehicle_at a d ≡ Some y → c < d → c + speed p s t a c x < d
cars-apart p s t a c d x y long on there lt = before_taken p s t a c d x lt (taken-car p s a d y on there)

-- the cars of a run's step are on the road before they move
before_motion-on_road : (p : Plan) (course : Course) (t : ℕ) → length (road_before_motion p course t) ≤ p.cells
before_motion-on_road p course t = length-array p.cells _

-- a law of arrays holds in runs
each_step : (law : StepLaw) (p : Plan) → ((s : Settings) (t : ℕ) (a : Array) → length a ≤ p.cells → law p s t a) → HoldsInEachStep law p
each_step law p holds = record { on_arrays = holds; in_runs = λ course t. holds (course t) t (road_before_motion p course t) (before_motion-on_road p course t) }

pub keep_below_greatest_speed : (p : Plan) → HoldsInEachStep KeepBelowGreatestSpeed p
keep_below_greatest_speed p = each_step KeepBelowGreatestSpeed p (λ s t a on_road c car. speed-most p s t a c car)

-- a car's cell is below the end of its array
below_end : (a : Array) (n c : ℕ) (x : Vehicle) → length a ≤ n → vehicle_at a c ≡ Some x → c < n
below_end a n c x long here = elim (cases_lt c (length a)) as (λ _. c < n) [
  | inl below ↦ omega arith
  | inr past ↦ let gone : Some x ≡ None = sym here ∙ past_end a c past in cc
]

behind_next : (p : Plan) (s : Settings) (t : ℕ) (a : Array) → length a ≤ p.cells → NeverCollide p s t a
behind_next p s t a on_road c d x y here there lt = before_taken p s t a c d x lt (taken-car p s a d y (below_end a p.cells d y on_road there) there)

in_order : (p : Plan) (s : Settings) (t : ℕ) (a : Array) → length a ≤ p.cells → KeepOrder p s t a
in_order p s t a on_road c d x y here there lt = let behind = behind_next p s t a on_road c d x y here there lt in omega arith

apart : (p : Plan) (s : Settings) (t : ℕ) (a : Array) → length a ≤ p.cells → ArriveAlone p s t a
apart p s t a on_road c d x y here there same = elim (cases_lt c d) as (λ _. c ≡ d) [
  | inl lt ↦ let order = in_order p s t a on_road c d x y here there lt in absurd (omega arith)
  | inr ge ↦ elim (cases_lt d c) as (λ _. c ≡ d) [
    | inl lt ↦ let order = in_order p s t a on_road d c y x there here lt in absurd (omega arith)
    | inr le ↦ omega arith
  ]
]

pub never_collide : (p : Plan) → HoldsInEachStep NeverCollide p
never_collide p = each_step NeverCollide p (behind_next p)

pub keep_order : (p : Plan) → HoldsInEachStep KeepOrder p
keep_order p = each_step KeepOrder p (in_order p)

pub arrive_alone : (p : Plan) → HoldsInEachStep ArriveAlone p
arrive_alone p = each_step ArriveAlone p (apart p)

-- blocked cells are on the road
pub blocked-below : (blocks : List ℕ) (n j : ℕ) → All (λ cell. cell < n) blocks → is_blocked blocks j ≡ true → j < n
blocked-below [] n j below blocked = let never : false ≡ true = blocked in cc
blocked-below (block ∷ blocks) n j below blocked = elim (nat_eq j block) as (λ b. nat_eq j block ≡ b → j < n) [
  | true ↦ λ same. let low : block < n = below 0 0 (omega arith) in grind (arith, nat_tests)
  | false ↦ λ other. blocked-below blocks n j (λ k d lt. below (suc k) d (omega arith)) (sym (ap (λ b. b || is_blocked blocks j) other) ∙ blocked)
] refl

pub stop_at_blocks : (p : Plan) → HoldsInEachStep StopAtBlocks p
stop_at_blocks p = each_step StopAtBlocks p (λ s t a on_road c j x here inside blocked lt.
    before_taken p s t a c j x lt (taken-blocked p s a j inside blocked))
