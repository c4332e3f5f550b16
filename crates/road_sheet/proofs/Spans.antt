-- Steps under the same settings: the run over them, and what the detectors count in them.
use Rattle.std.proofs.Common.{◌≡◌, ◌≤◌, ◌<◌, ◌+◌, ◌-◌, ◌∙◌, ℕ, List, zero, suc, length, map, ap, subst, sym, arith, refl}
use Rattle.std.specs.List.{range_with_len}
use Rattle.std.proofs.lemmas.List.FromFn.{get_or-map-range_with_len, length-map-range_with_len}
use Rattle.road_plan.specs.Plan.{IsWithinLimits, Plan}
use Rattle.road_plan.specs.declared.limits.TheConstants.{GREATEST_HORIZON}
use Rattle.road_plan.specs.Settings.{Settings}
use Rattle.road_cells.specs.Array.{Array}
use Rattle.road_ends.specs.Laws.{StayOnRoad}
use Rattle.road_ends.specs.Run.{Course, run, road_after_step, road_after_steps}
use Rattle.road_ends.specs.Span.{Span, span_road}
use Rattle.road_detector.specs.Passes.{no_totals, passes, passes_from, plus, span_totals, sum_of_totals, total, total_from}
use Rattle.road_detector.specs.declared.counts.Totals.{Totals}
use Rattle.road_columns.specs.UnderWay.{IsRunnable}
use Rattle.road_scenario.specs.Settings.{settings_of}
use Rattle.road_sheet.specs.Private.Intervals.{AreTotals}
use Rattle.road_sheet.specs.Sheets.{Sheet, state_of}
use Rattle.road_sheet.specs.Spans.{IsNextSpan}
use Rattle.road_sheet.proofs.SmallCars.{runnable}

-- the run of a course that has the same settings over k steps
module _ (p : Plan) (course : Course) (s : Settings) (t : ℕ) where
  runs_on : (k : ℕ) → ((j : ℕ) → j < k → course (t + j) ≡ s) → road_after_steps p (λ _. s) t k (run p course t) ≡ run p course (t + k)
  runs_on zero same = ap (run p course) (omega arith)
  runs_on (suc k) same =
      let next : suc (t + k) ≡ t + suc k = omega arith in
      ap (road_after_step p s (t + k)) (runs_on k (λ j below. same j (omega (arith, below))))
      ∙ ap (λ (x : Settings). road_after_step p x (t + k) (run p course (t + k))) (sym (same k (omega arith)))
      ∙ ap (run p course) next

  -- what a detector counts in one of the steps
  passed : (k d j : ℕ) → ((i : ℕ) → i < k → course (t + i) ≡ s) → j < k → passes_from p s (t + j) (road_after_steps p (λ _. s) t j (run p course t)) d ≡ passes p course d (t + j)
  passed k d j same below =
      ap (λ (a : Array). passes_from p s (t + j) a d) (runs_on j (λ i before. same i (omega (arith, before, below))))
      ∙ ap (λ (x : Settings). passes_from p x (t + j) (run p course (t + j)) d) (sym (same j below))

  sums : (k d : ℕ) → ((i : ℕ) → i < k → course (t + i) ≡ s) → (n j : ℕ) → j + n ≤ k
      → sum_of_totals (map (λ i. passes_from p s (t + i) (road_after_steps p (λ _. s) t i (run p course t)) d) (range_with_len j n)) ≡ sum_of_totals (map (passes p course d) (range_with_len (t + j) n))
  sums k d same zero j within = refl
  sums k d same (suc n) j within =
      let next : t + (j + 1) ≡ (t + j) + 1 = omega arith in
      ap (λ (x : Totals). plus x (sum_of_totals (map (λ i. passes_from p s (t + i) (road_after_steps p (λ _. s) t i (run p course t)) d) (range_with_len (j + 1) n)))) (passed k d j same (omega (arith, within)))
      ∙ ap (plus (passes p course d (t + j))) (sums k d same n (j + 1) (omega (arith, within)) ∙ ap (λ (m : ℕ). sum_of_totals (map (passes p course d) (range_with_len m n))) next)

  counts_on : (k d : ℕ) → ((i : ℕ) → i < k → course (t + i) ≡ s) → total_from p (λ _. s) t k (run p course t) d ≡ total p course d t (t + k)
  counts_on k d same =
      let from : t + 0 ≡ t = omega arith in
      let many : k ≡ t + k - t = omega arith in
      sums k d same k 0 (omega arith) ∙ ap (λ (m : ℕ). sum_of_totals (map (passes p course d) (range_with_len m k))) from
      ∙ ap (λ (n : ℕ). sum_of_totals (map (passes p course d) (range_with_len t n))) many

-- ---- a sheet's next span

in_force : (s : Sheet) (span : Span) → IsNextSpan s span → (j : ℕ) → j < span.steps → settings_of s.plan s.edits (s.horizon + j) ≡ span.settings
in_force s span is j below = is.settings (s.horizon + j) (omega arith) (omega (arith, below))

-- the road after the next span is that of the run
pub road_after : (s : Sheet) (span : Span) → IsNextSpan s span → span_road span (state_of s s.horizon) ≡ state_of s (s.horizon + span.steps)
road_after s span is =
    ap (λ (p : Plan). road_after_steps p (λ _. span.settings) span.step span.steps (state_of s s.horizon)) is.plan
    ∙ ap (λ (t : ℕ). road_after_steps s.plan (λ _. span.settings) t span.steps (state_of s s.horizon)) is.step
    ∙ runs_on s.plan (settings_of s.plan s.edits) span.settings s.horizon span.steps (in_force s span is)

-- what the detectors count in the next span is what they count in the run
totals_in : (s : Sheet) (span : Span) → IsNextSpan s span → AreTotals s.plan s.edits s.horizon (s.horizon + span.steps) (span_totals span (state_of s s.horizon))
totals_in s span is =
    let at : Plan → ℕ → ℕ → Totals = λ p t d. total_from p (λ _. span.settings) t span.steps (state_of s s.horizon) d in
    let many = ap (λ (p : Plan). length p.detectors) is.plan in
    record {
      each = length-map-range_with_len (at span.plan span.step) 0 (length span.plan.detectors) ∙ many;
      counted = λ d below.
          get_or-map-range_with_len (at span.plan span.step) 0 (length span.plan.detectors) d d no_totals (omega (arith, below, many)) (omega arith)
          ∙ ap (λ (p : Plan). at p span.step d) is.plan ∙ ap (λ (t : ℕ). at s.plan t d) is.step
          ∙ counts_on s.plan (settings_of s.plan s.edits) span.settings s.horizon span.steps d (in_force s span is);
    }

-- the same, up to the end of the span
pub road_to : (s : Sheet) (span : Span) (end : ℕ) → IsNextSpan s span → end ≡ s.horizon + span.steps → span_road span (state_of s s.horizon) ≡ state_of s end
road_to s span end is same = road_after s span is ∙ ap (state_of s) (sym same)

pub totals_to : (s : Sheet) (span : Span) (end : ℕ) (totals : List Totals) → IsNextSpan s span → end ≡ s.horizon + span.steps → totals ≡ span_totals span (state_of s s.horizon) → AreTotals s.plan s.edits s.horizon end totals
totals_to s span end totals is same counted =
    subst (AreTotals s.plan s.edits s.horizon end) (sym counted)
    (subst (λ (n : ℕ). AreTotals s.plan s.edits s.horizon n (span_totals span (state_of s s.horizon))) (sym same) (totals_in s span is))

-- the next span can be run from the road at the horizon
pub next_runnable : (s : Sheet) (span : Span) → IsNextSpan s span → IsWithinLimits span.plan → span.step + span.steps ≤ GREATEST_HORIZON → StayOnRoad span.plan
    → IsRunnable 0 span.plan.cells span.plan (state_of s s.horizon)
next_runnable s span is limits within stay =
    let early : s.horizon ≤ GREATEST_HORIZON = let step = is.step in omega arith in
    subst (λ (p : Plan). IsRunnable 0 p.cells p (state_of s s.horizon)) (sym is.plan)
    (runnable s.plan (settings_of s.plan s.edits) s.horizon (subst IsWithinLimits is.plan limits) early (subst StayOnRoad is.plan stay))
