-- Cars stay on the road, and no two have the same number.
use Rattle.std.specs.Prelude.{◌≡◌, ℕ, zero, suc, ◌+◌, ◌*◌, ◌<◌, ◌≤◌, ◌⊎◌, true, nat_eq, refl}
use Rattle.std.specs.List.{slice_index_or}
use Rattle.std.specs.declared.option.Option.TheVariants.{None, Some}
use Rattle.std.proofs.Common.{sym, ap, ◌∙◌, inl, inr, arith}
use Rattle.std.proofs.lemmas.Bool.Decides.{nat_tests}
use Rattle.road_plan.specs.Plan.{Plan, exit_start, IsWithinLimits}
use Rattle.road_plan.specs.declared.limits.TheConstants.{MOST_INLETS}
use Rattle.road_cells.specs.Array.{Vehicle, vehicle_at}
use Rattle.road_cells.proofs.ArrayPlaces.{vehicle_at-array}
use Rattle.road_rules.specs.Motion.{arrival_at}
use Rattle.road_ends.specs.Speed.{speed}
use Rattle.road_ends.specs.Run.{Course, run, road_before_motion}
use Rattle.road_ends.specs.Laws.{IsOnRoad, StayOnRoad, HaveUniqueNumbers}
use Rattle.road_ends.proofs.NoCollision.{within, speed-most}
use Rattle.road_ends.proofs.WhereCarsComeFrom.{CameFrom, came_from, EnteredBy, stood_or_entered}

module _ (p : Plan) (limits : IsWithinLimits p) (course : Course) where
  -- a car on the road at the next step came from a cell
  moved_from : (t j : ℕ) (car : Vehicle) → vehicle_at (run p course (suc t)) j ≡ Some car → CameFrom (speed p (course t) t (road_before_motion p course t)) (road_before_motion p course t) j car
  moved_from t j car here =
      let below = within (exit_start p) (arrival_at (speed p (course t) t (road_before_motion p course t)) (road_before_motion p course t)) j car here in
      came_from _ (road_before_motion p course t) j car (sym (vehicle_at-array (exit_start p) (arrival_at (speed p (course t) t (road_before_motion p course t)) (road_before_motion p course t)) j below) ∙ here)

  -- a car that enters has a number of this step
  new_number : (t c : ℕ) (car : Vehicle) (by : EnteredBy p t c car) → (MOST_INLETS * t ≤ car.number) × (car.number < MOST_INLETS * (t + 1))
  new_number t c car by = let few = limits.few_inlets in let place = by.in_plan in let number = by.numbered in ((omega arith), (omega arith))

  stay : (t c : ℕ) (car : Vehicle) → vehicle_at (run p course t) c ≡ Some car → IsOnRoad p t c car
  stay zero c car here = let never : None ≡ Some car = sym (nowhere c) ∙ here in cc
    where
      nowhere : (c : ℕ) → vehicle_at (run p course zero) c ≡ None
      nowhere zero = refl
      nowhere (suc c) = refl
  stay (suc t) c car here =
      let from = moved_from t c car here in
      record {
        before_exit = within (exit_start p) (arrival_at (speed p (course t) t (road_before_motion p course t)) (road_before_motion p course t)) c car here;
        slow_enough = let most = speed-most p (course t) t (road_before_motion p course t) from.cell from.earlier in let is = from.new_speed in omega arith;
        has_entered = number from (stood_or_entered p (course t) t (run p course t) from.cell from.earlier from.stood) (stay t from.cell from.earlier);
      }
    where
      number : (from : CameFrom (speed p (course t) t (road_before_motion p course t)) (road_before_motion p course t) c car) → (vehicle_at (run p course t) from.cell ≡ Some from.earlier) ⊎ EnteredBy p t from.cell from.earlier
          → (vehicle_at (run p course t) from.cell ≡ Some from.earlier → IsOnRoad p t from.cell from.earlier) → car.number < MOST_INLETS * suc t
      number from (inl stood) before = let old = (before stood).has_entered in let same = from.same_number in omega arith
      number from (inr by) before = let new = new_number t from.cell from.earlier by in let low = new.1 in let same = from.same_number in omega arith

  -- cars that enter at one inlet are at its cell
  same_inlet : (t c d : ℕ) (x y : Vehicle) → EnteredBy p t c x → EnteredBy p t d y → x.number ≡ y.number → c ≡ d
  same_inlet t c d x y by and same =
      let mine = by.numbered in let yours = and.numbered in
      let inlet : by.inlet ≡ and.inlet = omega arith in
      let cell : (slice_index_or p.inlets by.inlet (0, 0)).0 ≡ (slice_index_or p.inlets and.inlet (0, 0)).0 = ap (λ i. (slice_index_or p.inlets i (0, 0)).0) inlet in
      let here = by.at_cell in let there = and.at_cell in
      cells c d _ _ here there cell
    where
      cells : (c d m n : ℕ) → nat_eq c m ≡ true → nat_eq d n ≡ true → m ≡ n → c ≡ d
      cells c d m n here there same = grind (arith, nat_tests)

  -- if numbers differ before the entries, they differ after them
  apart_after_entries : (t c d : ℕ) (x y : Vehicle) → ((c d : ℕ) (x y : Vehicle) → vehicle_at (run p course t) c ≡ Some x → vehicle_at (run p course t) d ≡ Some y → x.number ≡ y.number → c ≡ d)
      → (vehicle_at (run p course t) c ≡ Some x) ⊎ EnteredBy p t c x → (vehicle_at (run p course t) d ≡ Some y) ⊎ EnteredBy p t d y → x.number ≡ y.number → c ≡ d
  apart_after_entries t c d x y before (inl here) (inl there) same = before c d x y here there same
  apart_after_entries t c d x y before (inl here) (inr by) same = let old = (stay t c x here).has_entered in let new = (new_number t d y by).0 in absurd (omega arith)
  apart_after_entries t c d x y before (inr by) (inl there) same = let old = (stay t d y there).has_entered in let new = (new_number t c x by).0 in absurd (omega arith)
  apart_after_entries t c d x y before (inr by) (inr and) same = same_inlet t c d x y by and same

  own : (t c d : ℕ) (x y : Vehicle) → vehicle_at (run p course t) c ≡ Some x → vehicle_at (run p course t) d ≡ Some y → x.number ≡ y.number → c ≡ d
  own zero c d x y here there same = absurd (let low = (stay zero c x here).has_entered in omega arith)
  own (suc t) c d x y here there same =
      let left = moved_from t c x here in
      let right = moved_from t d y there in
      let numbers : left.earlier.number ≡ right.earlier.number = sym left.same_number ∙ same ∙ right.same_number in
      let cell : left.cell ≡ right.cell = apart_after_entries t left.cell right.cell left.earlier right.earlier (own t)
      (stood_or_entered p (course t) t (run p course t) left.cell left.earlier left.stood)
      (stood_or_entered p (course t) t (run p course t) right.cell right.earlier right.stood) numbers in
      let who : Some left.earlier ≡ Some right.earlier = sym left.stood ∙ ap (vehicle_at (road_before_motion p course t)) cell ∙ right.stood in
      let car : left.earlier ≡ right.earlier = cc in
      sym left.reached ∙ (λ i. cell i + speed p (course t) t (road_before_motion p course t) (cell i) (car i)) ∙ right.reached

pub stay_on_road : (p : Plan) → IsWithinLimits p → StayOnRoad p
stay_on_road p limits course t c car here = stay p limits course t c car here

pub have_unique_numbers : (p : Plan) → IsWithinLimits p → HaveUniqueNumbers p
have_unique_numbers p limits course t c d x y here there same = own p limits course t c d x y here there same
