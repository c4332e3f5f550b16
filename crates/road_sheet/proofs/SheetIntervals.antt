-- The intervals of a sheet: after more steps, at a checkpoint, and under other edits that give the same run.
use Rattle.std.proofs.Common.{◌≡◌, ◌≢◌, ◌≤◌, ◌<◌, ◌+◌, ◌*◌, ◌/◌, ◌%◌, ◌^◌, ◌∙◌, ◌⊎◌, inl, inr, ℕ, zero, suc, List, [], ◌∷◌, ◌++◌, length, take, replicate, min, Some, ap, sym, subst, arith, refl}
use Rattle.std.proofs.lemmas.List.{get_or-replicate, length-replicate, length-take-le, length_push}
use Rattle.std.proofs.lemmas.Option.{slice_get_within}
use Rattle.std.specs.List.{slice_get, slice_index_or}
use Rattle.road_plan.specs.Plan.{Plan, IsWithinLimits}
use Rattle.road_plan.specs.declared.limits.TheConstants.{GREATEST_HORIZON}
use Rattle.road_cells.specs.Array.{Array}
use Rattle.road_ends.specs.Input.{StepInput, input_speeds}
use Rattle.road_scenario.specs.Edits.{Edits}
use Rattle.road_scenario.specs.Faults.{AreInRange}
use Rattle.road_scenario.specs.Settings.{settings_of}
use Rattle.road_scenario.specs.Winners.{AreWinners}
use Rattle.road_detector.specs.Laws.{PassOneByOne, BoundTotals}
use Rattle.road_detector.specs.Passes.{no_totals, passes, passes_at, plus}
use Rattle.road_detector.specs.declared.counts.Totals.{Totals}
use Rattle.road_sheet.specs.Private.Intervals.{AreTotals, IsInterval, IsRunOf, IsWithinInterval, GiveSameRun}
use Rattle.road_sheet.specs.Sheets.{Sheet, IsSheet, next_input}
use Rattle.road_sheet.specs.Shown.{run_at}
use Rattle.road_sheet.specs.declared.interval.Interval.{Interval}
use Rattle.road_sheet.proofs.RunTotals.{cars_fit, cars_in_parts, none_yet, passed_next, speeds_fit, speeds_in_parts, total_more, totals_in_parts}

-- ---- intervals

-- an interval without a simulated step
pub fresh : (p : Plan) (e : Edits) (a : ℕ) (b : Interval) → b.start ≡ run_at p e a → b.totals.items ≡ replicate (length p.detectors) no_totals → IsInterval p e a a b
fresh p e a b start is = record {
  start = start;
  totals = record {
    each = ap (λ (xs : List Totals). length xs) is ∙ length-replicate (length p.detectors) no_totals;
    counted = λ d l. ap (λ (xs : List Totals). slice_index_or xs d no_totals) is ∙ get_or-replicate (length p.detectors) d no_totals no_totals l ∙ none_yet p (settings_of p e) d a;
  };
}

-- totals with one more step
pub counted_more : (p : Plan) (e : Edits) (a h : ℕ) (xs ys : List Totals) → a ≤ h → AreTotals p e a h xs → length ys ≡ length xs
    → ((d : ℕ) → d < length xs → slice_index_or ys d no_totals ≡ plus (slice_index_or xs d no_totals) (passes p (settings_of p e) d h)) → AreTotals p e a (h + 1) ys
counted_more p e a h xs ys before are many more = record {
  each = many ∙ are.each;
  counted = λ d l. more d (omega (arith, l, are.each)) ∙ ap (λ (x : Totals). plus x (passes p (settings_of p e) d h)) (are.counted d l) ∙ total_more p (settings_of p e) d a h before;
}

-- edits that give the same run give the same intervals
pub moved : (p : Plan) (s t : Edits) (h a b : ℕ) (interval : Interval) → GiveSameRun p s t h → a ≤ b → b ≤ h → IsInterval p s a b interval → IsInterval p t a b interval
moved p s t h a b interval same before early is = record {
  start = is.start ∙ same.state a (omega (arith, before, early));
  totals = record { each = is.totals.each; counted = λ d l. is.totals.counted d l ∙ same.total d a b early };
}

-- ---- lists of intervals

get_push : (xs : List Interval) (y x : Interval) (k : ℕ) → slice_get (xs ++ y ∷ []) k ≡ Some x → (slice_get xs k ≡ Some x) ⊎ ((k ≡ length xs) × (y ≡ x))
get_push [] y x zero h = inr (refl, the_one h)
  where
    the_one : {a b : Interval} → Some a ≡ Some b → a ≡ b
    the_one h = cc
get_push [] y x (suc k) h = absurd (cc)
get_push (z ∷ xs) y x zero h = inl h
get_push (z ∷ xs) y x (suc k) h = elim (get_push xs y x k h) as (λ _. (slice_get (z ∷ xs) (suc k) ≡ Some x) ⊎ ((suc k ≡ length (z ∷ xs)) × (y ≡ x))) [
  | inl i ↦ inl i
  | inr i ↦ inr (ap suc i.0, i.1)
]

get_take : (n : ℕ) (xs : List Interval) (x : Interval) (k : ℕ) → slice_get (take n xs) k ≡ Some x → (slice_get xs k ≡ Some x) × (k < n)
get_take zero xs x k h = absurd (cc)
get_take (suc n) [] x k h = absurd (cc)
get_take (suc n) (y ∷ xs) x zero h = (h, omega arith)
get_take (suc n) (y ∷ xs) x (suc k) h = let r = get_take n xs x k h in (r.0, omega (arith, r.1))

-- ---- more steps

abbrev simulated_to : Sheet → ℕ → Sheet
simulated_to s end = record s { horizon = end }

later : (s : Sheet) (end : ℕ) → IsSheet s → end ≤ GREATEST_HORIZON → IsSheet (simulated_to s end)
later s end is early = record { plan_within = is.plan_within; winners = is.winners; in_range = is.in_range; within_limit = early }

cut_start : (n h : ℕ) → 64 * n ≤ h → h < 64 * n + 64 → 64 * (h / 64) ≡ 64 * n
cut_start n h begun going = omega arith

-- one more step is within the open interval
pub one_more : (s : Sheet) → s.horizon < GREATEST_HORIZON → IsWithinInterval s (s.horizon + 1)
one_more s early = record { more = omega arith; not_past = omega arith; within_limit = omega (arith, early) }

-- the run up to a step within the interval
up_to_within : (s : Sheet) (end : ℕ) (intervals : List Interval) (open_interval new : Interval) (at_horizon road : Array) → IsRunOf s intervals open_interval at_horizon → IsWithinInterval s end → road ≡ run_at s.plan s.edits end → new.start ≡ open_interval.start
    → AreTotals s.plan s.edits (64 * (s.horizon / 64)) end new.totals.items → end % 64 ≢ 0 → IsRunOf (simulated_to s end) intervals new road
up_to_within s end intervals open_interval new at_horizon road is within next start totals off =
    let cut = cut_start (length intervals) s.horizon is.begun is.not_ended in
    record {
      sheet = later s end is.sheet within.within_limit;
      begun = omega (arith, is.begun, within.more);
      not_ended = going (length intervals) s.horizon end cut within.not_past off;
      each = is.each;
      open_interval = record { start = start ∙ is.open_interval.start; totals = subst (λ n. AreTotals s.plan s.edits n end new.totals.items) cut totals };
      at_horizon = next;
    }
  where
    going : (n h end : ℕ) → 64 * (h / 64) ≡ 64 * n → end ≤ 64 * (h / 64) + 64 → end % 64 ≢ 0 → end < 64 * n + 64
    going n h end a b c = omega (arith, a, b, c)

-- the run up to the end of the interval
up_to_end : (s : Sheet) (end : ℕ) (intervals more : List Interval) (open_interval new begun : Interval) (at_horizon road : Array) → IsRunOf s intervals open_interval at_horizon → IsWithinInterval s end → road ≡ run_at s.plan s.edits end
    → IsInterval s.plan s.edits (64 * (s.horizon / 64)) end new
    → begun.start ≡ road → begun.totals.items ≡ replicate (length s.plan.detectors) no_totals → more ≡ intervals ++ new ∷ []
    → end % 64 ≡ 0 → IsRunOf (simulated_to s end) more begun road
up_to_end s end intervals more open_interval new begun at_horizon road is within next ended first zeros all on =
    let many_more = length_push intervals new in
    let cut = cut_start (length intervals) s.horizon is.begun is.not_ended in
    let at : end ≡ 64 * length intervals + 64 = at_end (length intervals) s.horizon end cut within.more within.not_past on in
    let next_interval : 64 * length (intervals ++ new ∷ []) ≡ end = omega (arith, many_more, at) in
    let here : IsInterval s.plan s.edits (64 * length intervals) (64 * length intervals + 64) new = subst (λ n. IsInterval s.plan s.edits (64 * length intervals) n new) at (subst (λ n. IsInterval s.plan s.edits n end new) cut ended) in
    rw all (record {
      sheet = later s end is.sheet within.within_limit;
      begun = omega (arith, next_interval);
      not_ended = omega (arith, next_interval);
      each = λ k b g. elim (get_push intervals new b k g) as (λ _. IsInterval s.plan s.edits (64 * k) (64 * k + 64) b) [
        | inl i ↦ is.each k b i
        | inr i ↦ subst (λ c. IsInterval s.plan s.edits (64 * k) (64 * k + 64) c) i.1 (subst (λ n. IsInterval s.plan s.edits (64 * n) (64 * n + 64) new) (sym i.0) here)
      ];
      open_interval = subst (λ n. IsInterval s.plan s.edits n end begun) (sym next_interval) (fresh s.plan s.edits end begun (first ∙ next) zeros);
      at_horizon = next;
    })
  where
    at_end : (n h end : ℕ) → 64 * (h / 64) ≡ 64 * n → h < end → end ≤ 64 * (h / 64) + 64 → end % 64 ≡ 0 → end ≡ 64 * n + 64
    at_end n h end a b c d = omega (arith, a, b, c, d)

-- the same, for the sheet that contracts see
pub ends_interval : (s now : Sheet) (end : ℕ) (intervals more : List Interval) (open_interval new begun : Interval) (at_horizon road : Array) → IsRunOf s intervals open_interval at_horizon → s ≡ now → IsWithinInterval now end → road ≡ run_at now.plan now.edits end
    → IsInterval now.plan now.edits (64 * (now.horizon / 64)) end new → end % 64 ≡ 0 → begun.totals.items ≡ replicate (length now.plan.detectors) no_totals
    → begun.start ≡ road → more ≡ intervals ++ new ∷ [] → IsRunOf (record { plan = s.plan; edits = s.edits; horizon = end }) more begun road
ends_interval s now end intervals more open_interval new begun at_horizon road is view within next ended on zeros first all =
    subst
    (λ (x : Sheet). IsWithinInterval x end → road ≡ run_at x.plan x.edits end → IsInterval x.plan x.edits (64 * (x.horizon / 64)) end new
    → begun.totals.items ≡ replicate (length x.plan.detectors) no_totals → IsRunOf (record { plan = s.plan; edits = s.edits; horizon = end }) more begun road) view
    (λ w n e z. up_to_end s end intervals more open_interval new begun at_horizon road is w n e first z all on) within next ended zeros

-- steps within the interval, for the sheet that contracts see
pub stays_in_interval : (s now : Sheet) (end k : ℕ) (intervals : List Interval) (open_interval new : Interval) (at_horizon road : Array) → IsRunOf s intervals open_interval at_horizon → s ≡ now → IsWithinInterval now end → road ≡ run_at now.plan now.edits end
    → AreTotals now.plan now.edits (64 * (now.horizon / 64)) end new.totals.items → end % 64 ≢ 0 → k ≡ end → new.start ≡ open_interval.start → IsRunOf (record { plan = s.plan; edits = s.edits; horizon = k }) intervals new road
stays_in_interval s now end k intervals open_interval new at_horizon road is view within next totals off same start =
    subst
    (λ (x : Sheet). IsWithinInterval x end → road ≡ run_at x.plan x.edits end → AreTotals x.plan x.edits (64 * (x.horizon / 64)) end new.totals.items
    → IsRunOf (record { plan = s.plan; edits = s.edits; horizon = k }) intervals new road) view
    (λ w n t. subst (λ (u : ℕ). IsRunOf (record { plan = s.plan; edits = s.edits; horizon = u }) intervals new road) (sym same) (up_to_within s end intervals open_interval new at_horizon road is w n start t off)) within next totals

-- an interval up to a step, from the open interval's road and the totals up to there
pub ended_interval : (s t : Sheet) (end : ℕ) (intervals : List Interval) (open_interval new : Interval) (at_horizon : Array) → IsRunOf s intervals open_interval at_horizon → s ≡ t → new.start ≡ open_interval.start → AreTotals t.plan t.edits (64 * (t.horizon / 64)) end new.totals.items
    → IsInterval t.plan t.edits (64 * (t.horizon / 64)) end new
ended_interval s t end intervals open_interval new at_horizon is same start totals = record {
  start = start ∙ subst (λ (x : Sheet). open_interval.start ≡ run_at x.plan x.edits (64 * (x.horizon / 64))) same (is.open_interval.start ∙ ap (run_at s.plan s.edits) (sym (cut_start (length intervals) s.horizon is.begun is.not_ended)));
  totals = totals;
}

-- the totals of the open interval
pub cut_totals : (s t : Sheet) (intervals : List Interval) (open_interval : Interval) (at_horizon : Array) → IsRunOf s intervals open_interval at_horizon → s ≡ t → AreTotals t.plan t.edits (64 * (t.horizon / 64)) t.horizon open_interval.totals.items
cut_totals s t intervals open_interval at_horizon is same =
    subst (λ (x : Sheet). AreTotals x.plan x.edits (64 * (x.horizon / 64)) x.horizon open_interval.totals.items) same
    (subst (λ n. AreTotals s.plan s.edits n s.horizon open_interval.totals.items) (sym (cut_start (length intervals) s.horizon is.begun is.not_ended)) is.open_interval.totals)

-- ---- what the detectors have counted with the next step

-- the counts of cars fit
pub next_cars_fit : (s t : Sheet) (intervals : List Interval) (open_interval : Interval) (at_horizon : Array) (input : StepInput) (speeds : List ℕ) (xs : List Totals) → IsRunOf s intervals open_interval at_horizon → s ≡ t → BoundTotals s.plan → PassOneByOne s.plan → t.horizon < GREATEST_HORIZON
    → input ≡ next_input t → speeds ≡ input_speeds input → xs ≡ open_interval.totals.items → (d : ℕ) → d < length xs → (slice_index_or xs d no_totals).cars + (passes_at input speeds d).cars < 2 ^ 32
next_cars_fit s t intervals open_interval at_horizon input speeds xs is same bounded alone early at new kept d below =
    let counted = subst (AreTotals t.plan t.edits (64 * (t.horizon / 64)) t.horizon) (sym kept) (cut_totals s t intervals open_interval at_horizon is same) in
    let plan = ap (λ (x : Sheet). x.plan) same in
    cars_fit t.plan (settings_of t.plan t.edits) d (64 * (t.horizon / 64)) t.horizon (slice_index_or xs d no_totals) (passes_at input speeds d) (subst BoundTotals plan bounded) (subst PassOneByOne plan alone) (omega (arith, early))
    (counted.counted d (omega (arith, counted.each, below))) (passed_next t input speeds d at new)

-- the sums of their speeds fit
pub next_speeds_fit : (s t : Sheet) (intervals : List Interval) (open_interval : Interval) (at_horizon : Array) (input : StepInput) (speeds : List ℕ) (xs : List Totals) → IsRunOf s intervals open_interval at_horizon → s ≡ t → BoundTotals s.plan → PassOneByOne s.plan → t.horizon < GREATEST_HORIZON
    → input ≡ next_input t → speeds ≡ input_speeds input → xs ≡ open_interval.totals.items → (d : ℕ) → d < length xs → (slice_index_or xs d no_totals).speeds + (passes_at input speeds d).speeds < 2 ^ 32
next_speeds_fit s t intervals open_interval at_horizon input speeds xs is same bounded alone early at new kept d below =
    let counted = subst (AreTotals t.plan t.edits (64 * (t.horizon / 64)) t.horizon) (sym kept) (cut_totals s t intervals open_interval at_horizon is same) in
    let plan = ap (λ (x : Sheet). x.plan) same in
    speeds_fit t.plan (settings_of t.plan t.edits) d (64 * (t.horizon / 64)) t.horizon (slice_index_or xs d no_totals) (passes_at input speeds d) (subst BoundTotals plan bounded) (subst PassOneByOne plan alone) (omega (arith, early))
    (counted.counted d (omega (arith, counted.each, below))) (passed_next t input speeds d at new)

-- the new totals are those up to the step after it
pub counted_next : (s t : Sheet) (intervals : List Interval) (open_interval : Interval) (at_horizon : Array) (input : StepInput) (speeds : List ℕ) (xs ys : List Totals) → IsRunOf s intervals open_interval at_horizon → s ≡ t → input ≡ next_input t → speeds ≡ input_speeds input → xs ≡ open_interval.totals.items
    → length ys ≡ length xs → ((d : ℕ) → d < length xs → slice_index_or ys d no_totals ≡ plus (slice_index_or xs d no_totals) (passes_at input speeds d)) → AreTotals t.plan t.edits (64 * (t.horizon / 64)) (t.horizon + 1) ys
counted_next s t intervals open_interval at_horizon input speeds xs ys is same at new kept many more =
    let counted = subst (AreTotals t.plan t.edits (64 * (t.horizon / 64)) t.horizon) (sym kept) (cut_totals s t intervals open_interval at_horizon is same) in
    counted_more t.plan t.edits (64 * (t.horizon / 64)) t.horizon xs ys (omega arith) counted many
    (λ d below. more d below ∙ ap (plus (slice_index_or xs d no_totals)) (passed_next t input speeds d at new))

-- ---- what the detectors have counted with more steps

-- the counts of cars fit
pub more_cars_fit : (s t : Sheet) (end : ℕ) (intervals : List Interval) (open_interval : Interval) (at_horizon : Array) (xs ys : List Totals) → IsRunOf s intervals open_interval at_horizon → s ≡ t → BoundTotals s.plan → IsWithinInterval t end → AreTotals t.plan t.edits t.horizon end ys
    → xs ≡ open_interval.totals.items → (d : ℕ) → d < length xs → (slice_index_or xs d no_totals).cars + (slice_index_or ys d no_totals).cars < 2 ^ 32
more_cars_fit s t end intervals open_interval at_horizon xs ys is same bounded within more kept d below =
    let counted = subst (AreTotals t.plan t.edits (64 * (t.horizon / 64)) t.horizon) (sym kept) (cut_totals s t intervals open_interval at_horizon is same) in
    let in_plan : d < length t.plan.detectors = omega (arith, counted.each, below) in
    cars_in_parts t.plan (settings_of t.plan t.edits) d (64 * (t.horizon / 64)) t.horizon end (slice_index_or xs d no_totals) (slice_index_or ys d no_totals) (subst BoundTotals (ap (λ (x : Sheet). x.plan) same) bounded)
    (omega arith) (omega (arith, within.more)) within.within_limit (counted.counted d in_plan) (more.counted d in_plan)

-- the sums of their speeds fit
pub more_speeds_fit : (s t : Sheet) (end : ℕ) (intervals : List Interval) (open_interval : Interval) (at_horizon : Array) (xs ys : List Totals) → IsRunOf s intervals open_interval at_horizon → s ≡ t → BoundTotals s.plan → IsWithinInterval t end → AreTotals t.plan t.edits t.horizon end ys
    → xs ≡ open_interval.totals.items → (d : ℕ) → d < length xs → (slice_index_or xs d no_totals).speeds + (slice_index_or ys d no_totals).speeds < 2 ^ 32
more_speeds_fit s t end intervals open_interval at_horizon xs ys is same bounded within more kept d below =
    let counted = subst (AreTotals t.plan t.edits (64 * (t.horizon / 64)) t.horizon) (sym kept) (cut_totals s t intervals open_interval at_horizon is same) in
    let in_plan : d < length t.plan.detectors = omega (arith, counted.each, below) in
    speeds_in_parts t.plan (settings_of t.plan t.edits) d (64 * (t.horizon / 64)) t.horizon end (slice_index_or xs d no_totals) (slice_index_or ys d no_totals) (subst BoundTotals (ap (λ (x : Sheet). x.plan) same) bounded)
    (omega arith) (omega (arith, within.more)) within.within_limit (counted.counted d in_plan) (more.counted d in_plan)

-- there are as many totals
pub one_each : (s t : Sheet) (end : ℕ) (intervals : List Interval) (open_interval : Interval) (at_horizon : Array) (xs ys : List Totals) → IsRunOf s intervals open_interval at_horizon → s ≡ t → AreTotals t.plan t.edits t.horizon end ys → xs ≡ open_interval.totals.items
    → length xs ≡ length ys
one_each s t end intervals open_interval at_horizon xs ys is same more kept =
    ap (λ (x : List Totals). length x) kept ∙ (cut_totals s t intervals open_interval at_horizon is same).each ∙ sym more.each

-- the new totals are those up to the step after them
pub counted_with : (s t : Sheet) (end : ℕ) (intervals : List Interval) (open_interval : Interval) (at_horizon : Array) (xs ys zs : List Totals) → IsRunOf s intervals open_interval at_horizon → s ≡ t → IsWithinInterval t end → AreTotals t.plan t.edits t.horizon end ys
    → xs ≡ open_interval.totals.items → length zs ≡ length xs → ((d : ℕ) → d < length xs → slice_index_or zs d no_totals ≡ plus (slice_index_or xs d no_totals) (slice_index_or ys d no_totals)) → AreTotals t.plan t.edits (64 * (t.horizon / 64)) end zs
counted_with s t end intervals open_interval at_horizon xs ys zs is same within more kept many sums =
    let counted = subst (AreTotals t.plan t.edits (64 * (t.horizon / 64)) t.horizon) (sym kept) (cut_totals s t intervals open_interval at_horizon is same) in
    record {
      each = many ∙ counted.each;
      counted = λ d l. sums d (omega (arith, l, counted.each))
          ∙ totals_in_parts t.plan (settings_of t.plan t.edits) d (64 * (t.horizon / 64)) t.horizon end (slice_index_or xs d no_totals) (slice_index_or ys d no_totals) (omega arith) (omega (arith, within.more)) (counted.counted d l) (more.counted d l);
    }

-- ---- other edits with the same run

pub same_less : (p : Plan) (s t : Edits) (h k : ℕ) → k ≤ h → GiveSameRun p s t h → GiveSameRun p s t k
same_less p s t h k l same = record {
  state = λ u m. same.state u (omega (arith, l, m));
  total = λ d a b m. same.total d a b (omega (arith, l, m));
}

copied : (p : Plan) (e : Edits) (a h : ℕ) (b c : Interval) → c.start ≡ b.start → c.totals.items ≡ b.totals.items → IsInterval p e a h b → IsInterval p e a h c
copied p e a h b c start totals is = record { start = start ∙ is.start; totals = subst (AreTotals p e a h) (sym totals) is.totals }

abbrev with_edits : Sheet → Edits → ℕ → Sheet
with_edits s t h = record { plan = s.plan; edits = t; horizon = h }

went_on : (s : Sheet) (t : Edits) (intervals shared : List Interval) (open_interval new : Interval) (at_horizon road : Array) → IsRunOf s intervals open_interval at_horizon → AreWinners t → AreInRange s.plan t → GiveSameRun s.plan s.edits t s.horizon
    → shared ≡ intervals → new.start ≡ open_interval.start → new.totals.items ≡ open_interval.totals.items → road ≡ at_horizon → IsRunOf (with_edits s t s.horizon) shared new road
went_on s t intervals shared open_interval new at_horizon road is won fits same all start totals at = rw all (record {
  sheet = record { plan_within = is.sheet.plan_within; winners = won; in_range = fits; within_limit = is.sheet.within_limit };
  begun = is.begun;
  not_ended = is.not_ended;
  each = λ k b g. let l = slice_get_within intervals k b g in let n = is.begun in moved s.plan s.edits t s.horizon (64 * k) (64 * k + 64) b same (omega arith) (omega (arith, l, n)) (is.each k b g);
  open_interval = let n = is.begun in moved s.plan s.edits t s.horizon (64 * length intervals) s.horizon new same n (omega arith) (copied s.plan s.edits (64 * length intervals) s.horizon open_interval new start totals is.open_interval);
  at_horizon = at ∙ is.at_horizon ∙ same.state s.horizon (omega arith);
})

went_back : (s : Sheet) (t : Edits) (m : ℕ) (intervals shared : List Interval) (open_interval new : Interval) (at_horizon road : Array) → IsRunOf s intervals open_interval at_horizon → AreWinners t → AreInRange s.plan t → 64 * m ≤ s.horizon → GiveSameRun s.plan s.edits t (64 * m)
    → shared ≡ take m intervals → road ≡ run_at s.plan s.edits (64 * m) → new.start ≡ road → new.totals.items ≡ replicate (length s.plan.detectors) no_totals → IsRunOf (with_edits s t (64 * m)) shared new road
went_back s t m intervals shared open_interval new at_horizon road is won fits below same some at start zeros =
    let n = is.not_ended in
    let e = is.sheet.within_limit in
    let many : length (take m intervals) ≡ m = length-take-le m intervals (omega (arith, n, below)) in
    let here : road ≡ run_at s.plan t (64 * m) = at ∙ same.state (64 * m) (omega arith) in
    rw some (record {
      sheet = record { plan_within = is.sheet.plan_within; winners = won; in_range = fits; within_limit = omega (arith, below, e) };
      begun = omega (arith, many);
      not_ended = omega (arith, many);
      each = λ k b g. let r = get_take m intervals b k g in let q = r.1 in moved s.plan s.edits t (64 * m) (64 * k) (64 * k + 64) b same (omega arith) (omega (arith, q)) (is.each k b r.0);
      open_interval = subst (λ x. IsInterval s.plan t (64 * x) (64 * m) new) (sym many) (fresh s.plan t (64 * m) new (start ∙ here) zeros);
      at_horizon = here;
    })

-- a sheet is given by its parts
sheet_of : (now : Sheet) (t : Edits) (p : Plan) (h k : ℕ) → p ≡ now.plan → h ≡ k → record { plan = p; edits = t; horizon = h } ≡ with_edits now t k
sheet_of now t p h k plan same = λ i. record { plan = plan i; edits = t; horizon = same i }

-- other edits that give the same run up to the horizon: all intervals stay
pub stays_whole : (s now : Sheet) (t : Edits) (p : Plan) (h : ℕ) (intervals shared : List Interval) (open_interval new : Interval) (at_horizon road : Array) → IsRunOf s intervals open_interval at_horizon → s ≡ now → AreWinners t → AreInRange now.plan t
    → GiveSameRun now.plan now.edits t now.horizon → p ≡ now.plan → h ≡ now.horizon → shared ≡ intervals → new.start ≡ open_interval.start → new.totals.items ≡ open_interval.totals.items → road ≡ at_horizon
    → IsRunOf (record { plan = p; edits = t; horizon = h }) shared new road
stays_whole s now t p h intervals shared open_interval new at_horizon road is view win fit same plan horizon all start totals at =
    subst (λ (x : Sheet). IsRunOf x shared new road) (sym (sheet_of now t p h now.horizon plan horizon))
    (went_on now t intervals shared open_interval new at_horizon road (subst (λ (x : Sheet). IsRunOf x intervals open_interval at_horizon) view is) win fit same all start totals at)

-- other edits that give the same run up to the first step of an interval: the intervals before it stay
pub stays_below : (s now : Sheet) (t : Edits) (p : Plan) (h m : ℕ) (intervals shared : List Interval) (open_interval new : Interval) (at_horizon road : Array) → IsRunOf s intervals open_interval at_horizon → s ≡ now → AreWinners t → AreInRange now.plan t
    → 64 * m ≤ now.horizon → GiveSameRun now.plan now.edits t (64 * m) → p ≡ now.plan → h ≡ 64 * m → shared ≡ take m intervals → road ≡ run_at now.plan now.edits (64 * m) → new.start ≡ road
    → new.totals.items ≡ replicate (length p.detectors) no_totals → IsRunOf (record { plan = p; edits = t; horizon = h }) shared new road
stays_below s now t p h m intervals shared open_interval new at_horizon road is view win fit below same plan horizon some at start zeros =
    subst (λ (x : Sheet). IsRunOf x shared new road) (sym (sheet_of now t p h (64 * m) plan horizon))
    (went_back now t m intervals shared open_interval new at_horizon road (subst (λ (x : Sheet). IsRunOf x intervals open_interval at_horizon) view is) win fit below same some at start
    (zeros ∙ ap (λ (x : Plan). replicate (length x.detectors) no_totals) plan))

-- ---- the opening sheet

pub opened : (p : Plan) (e : Edits) (intervals : List Interval) (open_interval : Interval) (at_horizon : Array) → IsWithinLimits p → AreWinners e → AreInRange p e → intervals ≡ [] → open_interval.start ≡ [] → open_interval.totals.items ≡ replicate (length p.detectors) no_totals → at_horizon ≡ []
    → IsRunOf (record { plan = p; edits = e; horizon = 0 }) intervals open_interval at_horizon
opened p e intervals open_interval at_horizon plan win fit none bare zeros road = rw none (record {
  sheet = record { plan_within = plan; winners = win; in_range = fit; within_limit = omega arith };
  begun = omega arith;
  not_ended = omega arith;
  each = λ k b g. absurd (cc);
  open_interval = fresh p e 0 open_interval bare zeros;
  at_horizon = road;
})

-- ---- what is read from a sheet

pub horizon_within : (s t : Sheet) (intervals : List Interval) (open_interval : Interval) (at_horizon : Array) → IsRunOf s intervals open_interval at_horizon → s ≡ t → t.horizon ≤ GREATEST_HORIZON
horizon_within s t intervals open_interval at_horizon is same = subst (λ (x : Sheet). x.horizon ≤ GREATEST_HORIZON) same is.sheet.within_limit

-- the number of whole intervals
pub many_whole : (s t : Sheet) (intervals : List Interval) (open_interval : Interval) (road : Array) → IsRunOf s intervals open_interval road → s ≡ t → length intervals ≡ t.horizon / 64
many_whole s t intervals open_interval road is same =
    let horizon : s.horizon ≡ t.horizon = ap (λ (x : Sheet). x.horizon) same in
    let begun = is.begun in
    let ended = is.not_ended in
    omega (arith, horizon, begun, ended)

pub whole_interval : (s t : Sheet) (intervals : List Interval) (open_interval : Interval) (road : Array) (k : ℕ) (b : Interval) → IsRunOf s intervals open_interval road → s ≡ t → slice_get intervals k ≡ Some b
    → IsInterval t.plan t.edits (64 * k) (min (64 * k + 64) t.horizon) b
whole_interval s t intervals open_interval road k b is same here =
    let below = slice_get_within intervals k b here in
    let begun = is.begun in
    let end : 64 * k + 64 ≡ min (64 * k + 64) s.horizon = omega (arith, below, begun) in
    subst (λ (x : Sheet). IsInterval x.plan x.edits (64 * k) (min (64 * k + 64) x.horizon) b) same (subst (λ n. IsInterval s.plan s.edits (64 * k) n b) end (is.each k b here))

pub cut_interval : (s t : Sheet) (intervals : List Interval) (open_interval : Interval) (road : Array) (k : ℕ) → IsRunOf s intervals open_interval road → s ≡ t → length intervals ≤ k → 64 * k ≤ t.horizon
    → IsInterval t.plan t.edits (64 * k) (min (64 * k + 64) t.horizon) open_interval
cut_interval s t intervals open_interval road k is same past begun =
    let h : s.horizon ≡ t.horizon = ap (λ (x : Sheet). x.horizon) same in
    let ended = is.not_ended in
    let here : length intervals ≡ k = omega (arith, h, past, begun, ended) in
    let end : s.horizon ≡ min (64 * k + 64) s.horizon = omega (arith, here, ended) in
    subst (λ (x : Sheet). IsInterval x.plan x.edits (64 * k) (min (64 * k + 64) x.horizon) open_interval) same
    (subst (λ n. IsInterval s.plan s.edits (64 * k) n open_interval) end (subst (λ n. IsInterval s.plan s.edits (64 * n) s.horizon open_interval) here is.open_interval))
