-- The cars of a stretch depend only on the cells near it.
use Rattle.std.specs.Prelude.{◌≡◌, ℕ, zero, suc, ◌+◌, ◌-◌, ◌<◌, ◌≤◌, ◌&&◌, Bool, true, false, if◌then◌else◌, List, [], ◌∷◌, drop, map, nat_le, nat_lt, slice_index, take, refl}
use Rattle.std.specs.List.{range_with_len}
use Rattle.std.specs.declared.option.Option.{Option}
use Rattle.std.proofs.Common.{sym, ap, subst, ◌∙◌, arith}
use Rattle.std.proofs.lemmas.Bool.Decides.{nat_tests}
use Rattle.road_cells.specs.Array.{Array, Vehicle, vehicle_at}
use Rattle.road_cells.specs.Cars.{AreRising, AreRisingFrom, array_of, cars_before, cars_from, cars_of, vehicle_among}
use Rattle.road_cells.specs.declared.car.Car.{Car}
use Rattle.road_cells.proofs.CarLists.{vehicle_at-array_of, vehicle_among-cars_from, rise-cars_from}
use Rattle.road_cells.proofs.CarsBefore.{before-none}
use Rattle.road_cells.proofs.CarsBetween.{found_between}
use Rattle.road_ends.specs.Laws.{AgreeBetween, AgreeNear}
use Rattle.road_ends.specs.Span.{Span, span_road}
use Rattle.road_ends.proofs.CellsNearby.{depend_on_cells_nearby}
use Rattle.road_detector.specs.Passes.{no_totals, total_from}
use Rattle.road_detector.specs.declared.counts.Totals.{Totals}
use Rattle.road_detector.specs.declared.span_result.SpanResult.{SpanResult}
use Rattle.road_detector.proofs.TotalsFrom.{total-nearby}
use Rattle.road_workers.specs.Private.Stretches.{cars_between, has_site, AreTotalsOn, IsRunOf}

-- the values of a function at n numbers from a on
place : (f : ℕ → Option Vehicle) (n a j : ℕ) → j < n → vehicle_at (map f (range_with_len a n)) j ≡ f (a + j)
place f zero a j below = absurd (omega arith)
place f (suc n) a zero below = let here : a ≡ a + 0 = omega arith in ap f here
place f (suc n) a (suc j) below = let next : (a + 1) + j ≡ a + suc j = omega arith in place f n (a + 1) j (omega arith) ∙ ap f next

-- the road of the cars between two cells agrees with the road there
pub near_agrees : (a : Array) (from to : ℕ) (cars : List Car) → cars ≡ cars_between from to a → AgreeBetween from to (array_of cars) a
near_agrees a from to cars are = record {
  same = λ c above below.
      let here : c ≡ from + (c - from) = omega arith in
      ap (λ xs. vehicle_at (array_of xs) c) are ∙ vehicle_at-array_of (cars_between from to a) c
      ∙ ap (λ k. vehicle_among k (cars_between from to a)) here ∙ vehicle_among-cars_from from (c - from) (map (vehicle_at a) (range_with_len from (to - from)))
      ∙ place (vehicle_at a) (to - from) from (c - from) (omega arith) ∙ sym (ap (vehicle_at a) here);
}

lower : (k m : ℕ) (cars : List Car) → k ≤ m → AreRisingFrom m cars → AreRisingFrom k cars
lower k m [] le rise = tt
lower k m (car ∷ cars) le rise = let first = rise.0 in ((omega arith), rise.1)

pub between_rises : (a : Array) (from to : ℕ) (cars : List Car) → cars ≡ cars_between from to a → AreRising cars
between_rises a from to cars are = subst AreRising (sym are) (lower 0 from (cars_between from to a) (omega arith) (rise-cars_from from (map (vehicle_at a) (range_with_len from (to - from)))))

same_places : (f g : ℕ → Option Vehicle) (n a : ℕ) → ((c : ℕ) → a ≤ c → c < a + n → f c ≡ g c) → map f (range_with_len a n) ≡ map g (range_with_len a n)
same_places f g zero a same = refl
same_places f g (suc n) a same = λ i. same a (omega arith) (omega arith) i ∷ same_places f g n (a + 1) (λ c le lt. same c (omega arith) (omega arith)) i

-- roads that agree on a stretch have the same cars there
pub same_cars : (lo hi : ℕ) (x y : Array) → lo ≤ hi → AgreeBetween lo hi x y → cars_between lo hi x ≡ cars_between lo hi y
same_cars lo hi x y order agree = ap (cars_from lo) (same_places (vehicle_at x) (vehicle_at y) (hi - lo) lo (λ c le lt. agree.same c le (omega arith)))

-- the cars before a cell are those between the first cell and it
pub first_cars : (a : Array) (end : ℕ) → take (cars_before end (cars_of a)) (cars_of a) ≡ cars_between 0 end a
first_cars a end =
    let none = before-none 0 0 (cars_of a) (omega arith) (rise-cars_from 0 a) in
    let all : cars_before end (cars_of a) ≡ cars_before end (cars_of a) - 0 = omega arith in
    ap (λ n. take n (cars_of a)) all
    ∙ (λ i. take (cars_before end (cars_of a) - sym none i) (drop (sym none i) (cars_of a)))
    ∙ found_between a 0 end (omega arith)

-- roads that agree near a stretch have the same cars on it after the steps of a span
pub stretch_cars : (lo hi : ℕ) (span : Span) (near a : Array) → lo ≤ hi → AgreeNear span.steps lo hi near a
    → cars_between lo hi (span_road span near) ≡ cars_between lo hi (span_road span a)
stretch_cars lo hi span near a order agree = same_cars lo hi (span_road span near) (span_road span a) order
    (depend_on_cells_nearby span.plan (λ _. span.settings) span.step span.steps lo hi near a agree)

-- roads that agree near a stretch give its detectors the same totals
pub stretch_totals : (lo hi : ℕ) (span : Span) (near a : Array) (totals : List Totals) → AgreeNear span.steps lo hi near a
    → AreTotalsOn lo hi span span.steps near totals → AreTotalsOn lo hi span span.steps a totals
stretch_totals lo hi span near a totals agree are = record {
  each = are.each;
  counted = λ d below. are.counted d below ∙ by d (has_site lo hi span.plan d) refl;
}
  where
    on : (lo hi site : ℕ) → (nat_le lo site && nat_lt site hi) ≡ true → (lo ≤ site) × (site < hi)
    on lo hi site is = grind (arith, nat_tests)

    by : (d : ℕ) (b : Bool) → has_site lo hi span.plan d ≡ b → (if b then total_from span.plan (λ _. span.settings) span.step span.steps near d else no_totals) ≡ (if b then total_from span.plan (λ _. span.settings) span.step span.steps a d else no_totals)
    by d true is =
        let within = on lo hi (slice_index span.plan.detectors d) is in
        let above = within.0 in
        let below = within.1 in
        total-nearby span.plan (λ _. span.settings) span.step span.steps near a d (record { same = λ c from to. agree.same c (omega arith) (omega arith) })
    by d false is = refl

-- so a stretch that was run from the cars near it was run from the road
pub run-nearby : (lo hi : ℕ) (span : Span) (near a : Array) (ran : SpanResult) → lo ≤ hi → AgreeNear span.steps lo hi near a
    → IsRunOf lo hi span near ran → IsRunOf lo hi span a ran
run-nearby lo hi span near a ran order agree run = record {
  cars = run.cars ∙ stretch_cars lo hi span near a order agree;
  totals = stretch_totals lo hi span near a ran.totals.items agree run.totals;
}
