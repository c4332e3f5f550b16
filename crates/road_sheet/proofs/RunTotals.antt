-- The counts of a run: steps added one by one, counts split at a step, and counts of runs that are the same.
use Rattle.std.proofs.Common.{◌≡◌, ◌≤◌, ◌<◌, ◌+◌, ◌-◌, ◌^◌, ◌∙◌, ◌⊎◌, inl, inr, ℕ, zero, suc, List, [], ◌∷◌, ◌++◌, map, ap, sym, arith, refl}
use Rattle.std.specs.List.{range_with_len}
use Rattle.std.proofs.lemmas.List.{map-append}
use Rattle.road_plan.specs.Plan.{Plan}
use Rattle.road_plan.specs.declared.limits.TheConstants.{GREATEST_HORIZON}
use Rattle.road_plan.specs.Settings.{Settings}
use Rattle.road_cells.specs.Array.{Array}
use Rattle.road_ends.specs.Input.{StepInput, input_of, input_speeds}
use Rattle.road_ends.specs.Run.{Course, run}
use Rattle.road_detector.specs.Passes.{passes_at, passes, plus, sum_of_totals, total, no_totals}
use Rattle.road_detector.specs.Laws.{PassOneByOne, BoundTotals}
use Rattle.road_detector.specs.declared.counts.Totals.{Totals}
use Rattle.road_scenario.specs.Edits.{Edits}
use Rattle.road_scenario.specs.Settings.{settings_of}
use Rattle.road_sheet.specs.Sheets.{Sheet, next_input}
use Rattle.road_sheet.specs.Shown.{run_at}
use Rattle.road_sheet.proofs.Ranges.{range-to, range-append}

add_last : (xs : List Totals) (x : Totals) → sum_of_totals (xs ++ x ∷ []) ≡ plus (sum_of_totals xs) x
add_last [] x = let cars : x.cars + 0 ≡ 0 + x.cars = omega arith in let speeds : x.speeds + 0 ≡ 0 + x.speeds = omega arith in λ i. record { cars = cars i; speeds = speeds i }
add_last (y ∷ ys) x =
    let rest = add_last ys x in
    let cars : y.cars + ((sum_of_totals ys).cars + x.cars) ≡ y.cars + (sum_of_totals ys).cars + x.cars = omega arith in
    let speeds : y.speeds + ((sum_of_totals ys).speeds + x.speeds) ≡ y.speeds + (sum_of_totals ys).speeds + x.speeds = omega arith in
    ap (plus y) rest ∙ (λ i. record { cars = cars i; speeds = speeds i })

pub none_yet : (p : Plan) (course : Course) (d a : ℕ) → no_totals ≡ total p course d a a
none_yet p course d a = let none : a - a ≡ 0 = omega arith in sym (ap (λ (n : ℕ). sum_of_totals (map (passes p course d) (range_with_len a n))) none)

pub total_more : (p : Plan) (course : Course) (d a b : ℕ) → a ≤ b → plus (total p course d a b) (passes p course d b) ≡ total p course d a (b + 1)
total_more p course d a b before =
    sym (ap (λ (ks : List ℕ). sum_of_totals (map (passes p course d) ks)) (range-to a b before)
    ∙ ap sum_of_totals (map-append (passes p course d) (range_with_len a (b - a)) (b ∷ [])) ∙ add_last (map (passes p course d) (range_with_len a (b - a))) (passes p course d b))

-- what is counted at the input of a step of the run is what is counted in that step
pub passed_is : (p : Plan) (edits : Edits) (d t : ℕ) (road : Array) (input seen : StepInput) (speeds vs : List ℕ) (passed : Totals) → input ≡ input_of p (settings_of p edits t) t road → road ≡ run_at p edits t → speeds ≡ input_speeds input
    → seen ≡ input → vs ≡ speeds → passed ≡ passes_at seen vs d → passed ≡ passes p (settings_of p edits) d t
passed_is p edits d t road input seen speeds vs passed is of_run new here are counts =
    counts ∙ ap (λ (ws : List ℕ). passes_at seen ws d) (are ∙ new) ∙ ap (λ (x : StepInput). passes_at x (input_speeds input) d) here
    ∙ ap (λ (x : StepInput). passes_at x (input_speeds x) d) is
    ∙ ap (λ (a : Array). passes_at (input_of p (settings_of p edits t) t a) (input_speeds (input_of p (settings_of p edits t) t a)) d) of_run

pub cars_fit : (p : Plan) (course : Course) (d a b : ℕ) (totals passed : Totals) → BoundTotals p → PassOneByOne p → b ≤ GREATEST_HORIZON → totals ≡ total p course d a b → passed ≡ passes p course d b → totals.cars + passed.cars < 2 ^ 32
cars_fit p course d a b totals passed bounded alone early are is =
    let few = (bounded course d a b).few in
    let one = (alone course d b).one in
    let cars = ap (λ (x : Totals). x.cars) are in
    let car = ap (λ (x : Totals). x.cars) is in omega (arith, few, one, cars, car, early)

pub speeds_fit : (p : Plan) (course : Course) (d a b : ℕ) (totals passed : Totals) → BoundTotals p → PassOneByOne p → b ≤ GREATEST_HORIZON → totals ≡ total p course d a b → passed ≡ passes p course d b → totals.speeds + passed.speeds < 2 ^ 32
speeds_fit p course d a b totals passed bounded alone early are is =
    let most = (bounded course d a b).slow in
    let slow = (alone course d b).slow in
    let speeds = ap (λ (x : Totals). x.speeds) are in
    let speed = ap (λ (x : Totals). x.speeds) is in omega (arith, most, slow, speeds, speed, early)

pub counted_more : (p : Plan) (course : Course) (d a b : ℕ) (totals passed : Totals) → a ≤ b → totals ≡ total p course d a b → passed ≡ passes p course d b → plus totals passed ≡ total p course d a (b + 1)
counted_more p course d a b totals passed before are is =
    ap (λ (x : Totals). plus x passed) are ∙ ap (plus (total p course d a b)) is ∙ total_more p course d a b before

-- ---- split at a step

totals_same : (x y : Totals) → x.cars ≡ y.cars → x.speeds ≡ y.speeds → x ≡ y
totals_same x y cars speeds = λ i. record { cars = cars i; speeds = speeds i }

sum_of_totals-append : (xs ys : List Totals) → sum_of_totals (xs ++ ys) ≡ plus (sum_of_totals xs) (sum_of_totals ys)
sum_of_totals-append [] ys = totals_same (sum_of_totals ys) (plus no_totals (sum_of_totals ys)) (omega arith) (omega arith)
sum_of_totals-append (x ∷ xs) ys =
    ap (plus x) (sum_of_totals-append xs ys)
    ∙ totals_same (plus x (plus (sum_of_totals xs) (sum_of_totals ys))) (plus (plus x (sum_of_totals xs)) (sum_of_totals ys)) (omega arith) (omega arith)

-- the counts up to a step and those from it on add up
pub total_parted : (p : Plan) (course : Course) (d a m b : ℕ) → a ≤ m → m ≤ b → plus (total p course d a m) (total p course d m b) ≡ total p course d a b
total_parted p course d a m b before after =
    let first : List ℕ = range_with_len a (m - a) in
    let rest : List ℕ = range_with_len m (b - m) in
    sym (ap (λ (ks : List ℕ). sum_of_totals (map (passes p course d) ks)) (range-append a m b before after)
    ∙ ap sum_of_totals (map-append (passes p course d) first rest) ∙ sum_of_totals-append (map (passes p course d) first) (map (passes p course d) rest))

-- the totals of some steps and of those that follow add up
pub totals_in_parts : (p : Plan) (course : Course) (d a m b : ℕ) (x y : Totals) → a ≤ m → m ≤ b → x ≡ total p course d a m → y ≡ total p course d m b → plus x y ≡ total p course d a b
totals_in_parts p course d a m b x y before after first rest = ap (λ (z : Totals). plus z y) first ∙ ap (plus (total p course d a m)) rest ∙ total_parted p course d a m b before after

-- the sums of such totals fit
pub cars_in_parts : (p : Plan) (course : Course) (d a m b : ℕ) (x y : Totals) → BoundTotals p → a ≤ m → m ≤ b → b ≤ GREATEST_HORIZON → x ≡ total p course d a m → y ≡ total p course d m b → x.cars + y.cars < 2 ^ 32
cars_in_parts p course d a m b x y bounded before after early first rest =
    let f = (bounded course d a m).few in
    let g = (bounded course d m b).few in
    let e = ap (λ (z : Totals). z.cars) first in
    let r = ap (λ (z : Totals). z.cars) rest in omega (arith, f, g, e, r, before, after, early)

pub speeds_in_parts : (p : Plan) (course : Course) (d a m b : ℕ) (x y : Totals) → BoundTotals p → a ≤ m → m ≤ b → b ≤ GREATEST_HORIZON → x ≡ total p course d a m → y ≡ total p course d m b → x.speeds + y.speeds < 2 ^ 32
speeds_in_parts p course d a m b x y bounded before after early first rest =
    let f = (bounded course d a m).slow in
    let g = (bounded course d m b).slow in
    let e = ap (λ (z : Totals). z.speeds) first in
    let r = ap (λ (z : Totals). z.speeds) rest in omega (arith, f, g, e, r, before, after, early)

-- ---- courses that agree up to a step

passes_same : (p : Plan) (f g : Course) (d t : ℕ) → f t ≡ g t → run p f t ≡ run p g t → passes p f d t ≡ passes p g d t
passes_same p f g d t e r =
    let at : Settings → Array → Totals = λ s a. let x = input_of p s t a in passes_at x (input_speeds x) d in
    ap (λ (s : Settings). at s (run p f t)) e ∙ ap (λ (a : Array). at (g t) a) r

sums_same : (p : Plan) (f g : Course) (d h : ℕ) → ((t : ℕ) → t < h → f t ≡ g t) → ((t : ℕ) → t ≤ h → run p f t ≡ run p g t) → (n a : ℕ) → a + n ≤ h
    → sum_of_totals (map (passes p f d) (range_with_len a n)) ≡ sum_of_totals (map (passes p g d) (range_with_len a n))
sums_same p f g d h e r zero a l = refl
sums_same p f g d h e r (suc n) a l =
    ap (λ (x : Totals). plus x (sum_of_totals (map (passes p f d) (range_with_len (a + 1) n)))) (passes_same p f g d a (e a (omega (arith, l))) (r a (omega (arith, l))))
    ∙ ap (plus (passes p g d a)) (sums_same p f g d h e r n (a + 1) (omega (arith, l)))

-- courses that agree up to a step give the same counts up to it
pub total_same : (p : Plan) (f g : Course) (d h a b : ℕ) → ((t : ℕ) → t < h → f t ≡ g t) → ((t : ℕ) → t ≤ h → run p f t ≡ run p g t) → b ≤ h → total p f d a b ≡ total p g d a b
total_same p f g d h a b e r l = within (leq a b)
  where
    within : (a ≤ b) ⊎ (b ≤ a) → total p f d a b ≡ total p g d a b
    within (inl k) = sums_same p f g d h e r (b - a) a (omega (arith, k, l))
    within (inr k) = let none : b - a ≡ 0 = omega (arith, k) in ap (λ (n : ℕ). sum_of_totals (map (passes p f d) (range_with_len a n))) none ∙ sym (ap (λ (n : ℕ). sum_of_totals (map (passes p g d) (range_with_len a n))) none)

    leq : (n m : ℕ) → (n ≤ m) ⊎ (m ≤ n)
    leq n m = grind (arith)

-- what is counted in the next step
pub passed_next : (s : Sheet) (input : StepInput) (speeds : List ℕ) (d : ℕ) → input ≡ next_input s → speeds ≡ input_speeds input → passes_at input speeds d ≡ passes s.plan (settings_of s.plan s.edits) d s.horizon
passed_next s input speeds d is are = ap (λ (vs : List ℕ). passes_at input vs d) are ∙ ap (λ (x : StepInput). passes_at x (input_speeds x) d) is

-- totals less those of the first steps are those of the later steps
pub total_less : (p : Plan) (course : Course) (d a m b : ℕ) (all first : Totals) → a ≤ m → m ≤ b → all ≡ total p course d a b → first ≡ total p course d a m
    → (first.cars ≤ all.cars) × (first.speeds ≤ all.speeds) × ((let rest : Totals = record { cars = all.cars - first.cars; speeds = all.speeds - first.speeds } in rest) ≡ total p course d m b)
total_less p course d a m b all first before after is are =
    let parts = ap (λ (x : Totals). plus x (total p course d m b)) are ∙ total_parted p course d a m b before after ∙ sym is in
    let cars : first.cars + (total p course d m b).cars ≡ all.cars = ap (λ (x : Totals). x.cars) parts in
    let speeds : first.speeds + (total p course d m b).speeds ≡ all.speeds = ap (λ (x : Totals). x.speeds) parts in (
      omega (arith, cars),
      omega (arith, speeds),
      totals_same _ _ (omega (arith, cars)) (omega (arith, speeds)),
    )
