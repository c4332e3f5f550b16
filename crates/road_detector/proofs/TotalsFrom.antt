-- Counts in steps from any array: bounds, one more step, and locality in space.
use Rattle.std.specs.Prelude.{◌≡◌, ℕ, zero, suc, ◌+◌, ◌-◌, ◌*◌, ◌<◌, ◌≤◌, List, [], ◌∷◌, ◌++◌, map, slice_index, refl}
use Rattle.std.specs.List.{range_with_len}
use Rattle.std.proofs.Common.{sym, ap, ◌∙◌, arith}
use Rattle.std.proofs.lemmas.List.FromFn.{map-range_with_len_more}
use Rattle.road_plan.specs.Plan.{Plan}
use Rattle.road_cells.specs.Array.{Array}
use Rattle.road_cells.specs.declared.car.TheConstants.{GREATEST_SPEED}
use Rattle.road_ends.specs.Run.{Course, road_after_steps}
use Rattle.road_ends.specs.Laws.{AgreeBetween}
use Rattle.road_ends.proofs.CellsNearby.{depend_on_cells_nearby}
use Rattle.road_detector.specs.Passes.{plus, sum_of_totals, passes_from, total_from}
use Rattle.road_detector.specs.declared.counts.Totals.{Totals}
use Rattle.road_detector.proofs.CarsPassOneByOne.{one_from}
use Rattle.road_detector.proofs.CountsNearby.{count_cells_nearby}

-- bounds of the totals of k steps
pub record AreBounded (k : ℕ) (totals : Totals) : Type 0 where
  pub few : totals.cars ≤ k
  pub slow : totals.speeds ≤ GREATEST_SPEED * k

pub add_last : (xs : List Totals) (x : Totals) → sum_of_totals (xs ++ x ∷ []) ≡ plus (sum_of_totals xs) x
add_last [] x = let cars : x.cars + 0 ≡ 0 + x.cars = omega arith in let speeds : x.speeds + 0 ≡ 0 + x.speeds = omega arith in λ i. record { cars = cars i; speeds = speeds i }
add_last (y ∷ ys) x =
    let rest = add_last ys x in
    let cars : y.cars + ((sum_of_totals ys).cars + x.cars) ≡ y.cars + (sum_of_totals ys).cars + x.cars = omega arith in
    let speeds : y.speeds + ((sum_of_totals ys).speeds + x.speeds) ≡ y.speeds + (sum_of_totals ys).speeds + x.speeds = omega arith in
    ap (plus y) rest ∙ (λ i. record { cars = cars i; speeds = speeds i })

-- a sum of totals with at most one car each has at most one car for each step
bounded_list : (f : ℕ → Totals) (n a : ℕ) → ((j : ℕ) → AreBounded 1 (f j)) → AreBounded n (sum_of_totals (map f (range_with_len a n)))
bounded_list f zero a one = record { few = omega arith; slow = omega arith }
bounded_list f (suc n) a one =
    let first = one a in
    let rest = bounded_list f n (a + 1) one in
    let few_first = first.few in
    let slow_first = first.slow in
    let few_rest = rest.few in
    let slow_rest = rest.slow in
    record { few = omega arith; slow = omega arith }

pub bounded_from : (p : Plan) (course : Course) (t k : ℕ) (a : Array) (d : ℕ) → AreBounded k (total_from p course t k a d)
bounded_from p course t k a d = bounded_list (λ j. passes_from p (course (t + j)) (t + j) (road_after_steps p course t j a) d) k 0
    (λ j. let one = one_from p (course (t + j)) (t + j) (road_after_steps p course t j a) d in record { few = one.0; slow = one.1 })

-- the totals of one more step
pub total_from_more : (p : Plan) (course : Course) (t k : ℕ) (a : Array) (d : ℕ)
    → plus (total_from p course t k a d) (passes_from p (course (t + k)) (t + k) (road_after_steps p course t k a) d) ≡ total_from p course t (k + 1) a d
total_from_more p course t k a d =
    let f : ℕ → Totals = λ j. passes_from p (course (t + j)) (t + j) (road_after_steps p course t j a) d in
    let here : 0 + k ≡ k = omega arith in
    sym (ap sum_of_totals (map-range_with_len_more f 0 k k here) ∙ add_last (map f (range_with_len 0 k)) (f k))

-- functions that agree at these numbers have the same list of values
same_numbers : (f g : ℕ → Totals) (n a : ℕ) → ((j : ℕ) → j < a + n → f j ≡ g j) → map f (range_with_len a n) ≡ map g (range_with_len a n)
same_numbers f g zero a same = refl
same_numbers f g (suc n) a same = λ i. same a (omega arith) i ∷ same_numbers f g n (a + 1) (λ j lt. same j (omega arith)) i

-- if roads agree around a site, on 9 cells for each step, the same cars pass it
pub total-nearby : (p : Plan) (course : Course) (t k : ℕ) (x y : Array) (d : ℕ)
    → AgreeBetween (slice_index p.detectors d - GREATEST_SPEED * k) (slice_index p.detectors d + GREATEST_SPEED * k) x y
    → total_from p course t k x d ≡ total_from p course t k y d
total-nearby p course t k x y d agree = ap sum_of_totals (same_numbers
    (λ j. passes_from p (course (t + j)) (t + j) (road_after_steps p course t j x) d) (λ j. passes_from p (course (t + j)) (t + j) (road_after_steps p course t j y) d) k 0
    (λ j before. count_cells_nearby p (course (t + j)) (t + j) d (road_after_steps p course t j x) (road_after_steps p course t j y)
    (depend_on_cells_nearby p course t j (slice_index p.detectors d - GREATEST_SPEED) (slice_index p.detectors d + GREATEST_SPEED) x y
    (record { same = λ c from to. agree.same c (omega arith) (omega arith) }))))
