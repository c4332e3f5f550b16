-- Stretches side by side are the road.
use Rattle.std.specs.Prelude.{◌≡◌, ℕ, suc, ◌+◌, ◌-◌, ◌^◌, ◌<◌, ◌≤◌, ◌&&◌, Bool, true, false, if◌then◌else◌, List, ◌++◌, length, map, nat_le, nat_lt, slice_index, slice_index_or, refl}
use Rattle.std.specs.List.{range_with_len}
use Rattle.std.specs.declared.option.Option.{Option}
use Rattle.std.proofs.Common.{sym, ap, subst, ◌∙◌, inl, inr, arith}
use Rattle.std.proofs.lemmas.Bool.{cases_lt}
use Rattle.std.proofs.lemmas.Bool.Decides.{nat_tests}
use Rattle.std.proofs.lemmas.List.{map-append}
use Rattle.std.proofs.lemmas.List.FromFn.{length-map-range_with_len}
use Rattle.road_plan.specs.Plan.{exit_start}
use Rattle.road_plan.specs.declared.limits.TheConstants.{GREATEST_HORIZON}
use Rattle.road_cells.specs.Array.{Array, Vehicle, vehicle_at, array}
use Rattle.road_cells.specs.Cars.{array_of, cars_from}
use Rattle.road_cells.proofs.ArrayPlaces.{vehicle_at-array, past_array, array-same}
use Rattle.road_cells.proofs.CarLists.{array_of-cars_from}
use Rattle.road_rules.specs.Motion.{arrival_at}
use Rattle.road_ends.specs.Entries.{road_with_entries}
use Rattle.road_ends.specs.Speed.{speed}
use Rattle.road_ends.specs.Span.{Span, span_road}
use Rattle.road_ends.proofs.CellsBetweenInlets.{range_with_len-append, cars_from-append}
use Rattle.road_detector.specs.Passes.{plus, no_totals, total_from}
use Rattle.road_detector.specs.declared.counts.Totals.{Totals}
use Rattle.road_workers.specs.Private.Stretches.{cars_between, road_after, total_on, AreTotalsOn}
use Rattle.road_workers.proofs.StretchTotals.{site_on, total_on-bounded}

-- the cars of two stretches side by side, in one list
pub cars_beside : (lo mid hi : ℕ) (a : Array) → lo ≤ mid → mid ≤ hi → cars_between lo mid a ++ cars_between mid hi a ≡ cars_between lo hi a
cars_beside lo mid hi a begins order =
    let count : hi - lo ≡ (mid - lo) + (hi - mid) = omega arith in
    let there : lo + (mid - lo) ≡ mid = omega arith in
    sym (ap (λ n. cars_from lo (map (vehicle_at a) (range_with_len lo n))) count
    ∙ ap (λ ks. cars_from lo (map (vehicle_at a) ks)) (range_with_len-append lo (mid - lo) (hi - mid))
    ∙ ap (cars_from lo) (map-append (vehicle_at a) (range_with_len lo (mid - lo)) (range_with_len (lo + (mid - lo)) (hi - mid)))
    ∙ cars_from-append lo (mid - lo) (map (vehicle_at a) (range_with_len lo (mid - lo))) (map (vehicle_at a) (range_with_len (lo + (mid - lo)) (hi - mid))) (length-map-range_with_len (vehicle_at a) lo (mid - lo))
    ∙ ap (λ k. cars_between lo mid a ++ cars_from k (map (vehicle_at a) (range_with_len k (hi - mid)))) there)

site_ahead : (lo hi site : ℕ) → site < lo → (nat_le lo site && nat_lt site hi) ≡ false
site_ahead lo hi site before = ap (λ b. b && nat_lt site hi) (short lo site before)
  where
    short : (lo site : ℕ) → site < lo → nat_le lo site ≡ false
    short lo site before = grind (arith, nat_tests)

site_behind : (lo hi site : ℕ) → hi ≤ site → (nat_le lo site && nat_lt site hi) ≡ false
site_behind lo hi site past = ap (λ b. nat_le lo site && b) (far site hi past) ∙ none (nat_le lo site)
  where
    far : (site hi : ℕ) → hi ≤ site → nat_lt site hi ≡ false
    far site hi past = grind (arith, nat_tests)

    none : (b : Bool) → b && false ≡ false
    none true = refl
    none false = refl

none_ahead : (x : Totals) → plus no_totals x ≡ x
none_ahead x = let cars : 0 + x.cars ≡ x.cars = omega arith in let speeds : 0 + x.speeds ≡ x.speeds = omega arith in λ i. record { cars = cars i; speeds = speeds i }

none_behind : (x : Totals) → plus x no_totals ≡ x
none_behind x = let cars : x.cars + 0 ≡ x.cars = omega arith in let speeds : x.speeds + 0 ≡ x.speeds = omega arith in λ i. record { cars = cars i; speeds = speeds i }

abbrev chosen : Totals → Bool → Totals
chosen counted b = if b then counted else no_totals

sums : (counted : Totals) (first second both x y z : Bool) → first ≡ x → second ≡ y → both ≡ z → plus (chosen counted x) (chosen counted y) ≡ chosen counted z
    → plus (chosen counted first) (chosen counted second) ≡ chosen counted both
sums counted first second both x y z is_first is_second is_both sum = (λ i. plus (chosen counted (is_first i)) (chosen counted (is_second i))) ∙ sum ∙ sym (ap (chosen counted) is_both)

-- a site is on at most one of two stretches
by_site : (lo mid hi site : ℕ) (counted : Totals) → lo ≤ mid → mid ≤ hi
    → plus (chosen counted (nat_le lo site && nat_lt site mid)) (chosen counted (nat_le mid site && nat_lt site hi)) ≡ chosen counted (nat_le lo site && nat_lt site hi)
by_site lo mid hi site counted begins order =
    elim (cases_lt site lo) as (λ _. plus (chosen counted (nat_le lo site && nat_lt site mid)) (chosen counted (nat_le mid site && nat_lt site hi)) ≡ chosen counted (nat_le lo site && nat_lt site hi)) [
      | inl before ↦ sums counted (nat_le lo site && nat_lt site mid) (nat_le mid site && nat_lt site hi) (nat_le lo site && nat_lt site hi) false false false (site_ahead lo mid site before) (site_ahead mid hi site (omega arith)) (site_ahead lo hi site before) refl
      | inr above ↦ elim (cases_lt site mid) as (λ _. plus (chosen counted (nat_le lo site && nat_lt site mid)) (chosen counted (nat_le mid site && nat_lt site hi)) ≡ chosen counted (nat_le lo site && nat_lt site hi)) [
        | inl behind ↦ sums counted (nat_le lo site && nat_lt site mid) (nat_le mid site && nat_lt site hi) (nat_le lo site && nat_lt site hi) true false true (site_on lo mid site above behind) (site_ahead mid hi site behind) (site_on lo hi site above (omega arith)) (none_behind counted)
        | inr ahead ↦ elim (cases_lt site hi) as (λ _. plus (chosen counted (nat_le lo site && nat_lt site mid)) (chosen counted (nat_le mid site && nat_lt site hi)) ≡ chosen counted (nat_le lo site && nat_lt site hi)) [
          | inl below ↦ sums counted (nat_le lo site && nat_lt site mid) (nat_le mid site && nat_lt site hi) (nat_le lo site && nat_lt site hi) false true true (site_behind lo mid site ahead) (site_on mid hi site ahead below) (site_on lo hi site above below) (none_ahead counted)
          | inr past ↦ sums counted (nat_le lo site && nat_lt site mid) (nat_le mid site && nat_lt site hi) (nat_le lo site && nat_lt site hi) false false false (site_behind lo mid site ahead) (site_behind mid hi site past) (site_behind lo hi site past) refl
        ]
      ]
    ]

pub totals_beside : (lo mid hi : ℕ) (span : Span) (k : ℕ) (a : Array) (d : ℕ) → lo ≤ mid → mid ≤ hi → plus (total_on lo mid span k a d) (total_on mid hi span k a d) ≡ total_on lo hi span k a d
totals_beside lo mid hi span k a d begins order = by_site lo mid hi (slice_index span.plan.detectors d) (total_from span.plan (λ _. span.settings) span.step k a d) begins order

-- the sums of two stretches are below 2^32
abbrev Fit : Totals → Totals → Type 0
Fit x y = (x.cars + y.cars < 2 ^ 32) × (x.speeds + y.speeds < 2 ^ 32)

pub beside_fit : (lo mid hi : ℕ) (span : Span) (a : Array) (front next : List Totals) → lo ≤ mid → mid ≤ hi → span.step + span.steps ≤ GREATEST_HORIZON
    → AreTotalsOn lo mid span span.steps a front → AreTotalsOn mid hi span span.steps a next → (d : ℕ) → d < length front → Fit (slice_index_or front d no_totals) (slice_index_or next d no_totals)
beside_fit lo mid hi span a front next begins order within are others d below =
    let both = totals_beside lo mid hi span span.steps a d begins order in
    let cars = ap (λ (x : Totals). x.cars) both in
    let speeds = ap (λ (x : Totals). x.speeds) both in
    let bounded = total_on-bounded lo hi span span.steps a d in
    let few = bounded.few in
    let slow = bounded.slow in
    let long = are.each in
    let long_next = others.each in
    subst (λ x. Fit x (slice_index_or next d no_totals)) (sym (are.counted d below))
    (subst (λ y. Fit (total_on lo mid span span.steps a d) y) (sym (others.counted d (omega arith)))
    ((omega (arith, cars, few, within)), (omega (arith, speeds, slow, within))))

pub both_totals : (lo mid hi : ℕ) (span : Span) (a : Array) (front next both : List Totals) → lo ≤ mid → mid ≤ hi → AreTotalsOn lo mid span span.steps a front → AreTotalsOn mid hi span span.steps a next → length both ≡ length front
    → ((d : ℕ) → d < length front → slice_index_or both d no_totals ≡ plus (slice_index_or front d no_totals) (slice_index_or next d no_totals))
    → AreTotalsOn lo hi span span.steps a both
both_totals lo mid hi span a front next both begins order are others same sums = record {
  each = same ∙ are.each;
  counted = λ d below.
      let long = are.each in
      let long_next = others.each in
      let early : d < length front = omega arith in
      let early_next : d < length next = omega arith in
      sums d early ∙ (λ i. plus (are.counted d early i) (others.counted d early_next i)) ∙ totals_beside lo mid hi span span.steps a d begins order;
}

-- an array is the same in a longer tabulation
again : (n m : ℕ) (f : ℕ → Option Vehicle) → m ≤ n → array n (vehicle_at (array m f)) ≡ array m f
again n m f le = array-same n m (vehicle_at (array m f)) f (λ j. elim (cases_lt j n) as (λ _. vehicle_at (array n (vehicle_at (array m f))) j ≡ vehicle_at (array m f) j) [
  | inl below ↦ vehicle_at-array n (vehicle_at (array m f)) j below
  | inr past ↦ past_array n (vehicle_at (array m f)) j past ∙ sym (past_array m f j (omega arith))
])

after_step : (span : Span) (k cells : ℕ) (a : Array) → exit_start span.plan ≤ cells → array_of (cars_between 0 cells (road_after span (suc k) a)) ≡ road_after span (suc k) a
after_step span k cells a le =
    let entered = road_with_entries span.plan span.settings (span.step + k) (road_after span k a) in
    let all : cells - 0 ≡ cells = omega arith in
    ap (λ n. array_of (cars_from 0 (map (vehicle_at (road_after span (suc k) a)) (range_with_len 0 n)))) all
    ∙ array_of-cars_from cells (vehicle_at (road_after span (suc k) a))
    ∙ again cells (exit_start span.plan) (arrival_at (speed span.plan span.settings (span.step + k) entered) entered) le

-- after at least one step, the cars of all cells make the road
pub whole_road : (span : Span) (cells : ℕ) (a : Array) → 0 < span.steps → cells ≡ span.plan.cells → array_of (cars_between 0 cells (span_road span a)) ≡ span_road span a
whole_road span cells a some all =
    let last : span.steps ≡ suc (span.steps - 1) = omega arith in
    let le : span.plan.cells - span.plan.exit ≤ cells = omega arith in
    subst (λ k. array_of (cars_between 0 cells (road_after span k a)) ≡ road_after span k a) (sym last) (after_step span (span.steps - 1) cells a le)
