-- A run under way of a sheet: its next step is that of the sheet's run.
use Rattle.std.proofs.Common.{◌≡◌, ◌<◌, ◌+◌, ◌∙◌, ℕ, length, ap, sym, arith}
use Rattle.std.specs.List.{slice_index_or}
use Rattle.std.proofs.Math.Numerals.{add-one}
use Rattle.std.proofs.lemmas.List.FromFn.{get_or-map-range_with_len, length-map-range_with_len}
use Rattle.road_plan.specs.Plan.{Plan}
use Rattle.road_ends.specs.Input.{StepInput, input_next, input_of, input_speeds}
use Rattle.road_ends.proofs.EntriesBetween.{whole-input}
use Rattle.road_detector.specs.Passes.{no_totals, passes, passes_at, plus}
use Rattle.road_scenario.specs.Settings.{settings_of}
use Rattle.road_columns.specs.UnderWay.{UnderWay, next_input, zero_counts, run_after_step, total_after}
use Rattle.road_sheet.specs.Sheets.{Sheet, state_of}

-- a run of a sheet that has the settings of its step
pub record IsSettled (s : Sheet) (run : UnderWay) : Type 0 where
  pub plan : run.plan ≡ s.plan
  pub begin : run.lo ≡ 0
  pub end : run.hi ≡ s.plan.cells
  pub settings : run.settings ≡ settings_of s.plan s.edits run.step
  pub road : run.road ≡ state_of s run.step

-- its next input is that of the sheet's run
pub settled_input : (s : Sheet) (run : UnderWay) → IsSettled s run → next_input run ≡ input_of s.plan (settings_of s.plan s.edits run.step) run.step (state_of s run.step)
settled_input s run is =
    whole-input run.plan s.plan run.settings run.step run.road run.lo run.hi (sym is.plan) is.begin is.end
    ∙ (λ i. input_of (is.plan i) (is.settings i) run.step (is.road i))

-- and so is the road after its next step
pub settled_road : (s : Sheet) (run : UnderWay) → IsSettled s run → (run_after_step run).road ≡ state_of s (run.step + 1)
settled_road s run is = ap input_next (settled_input s run is) ∙ sym (ap (state_of s) (add-one run.step))

-- it still ends at the end of the road
pub settled_end : (s : Sheet) (run : UnderWay) → IsSettled s run → (run_after_step run).hi ≡ s.plan.cells
settled_end s run is =
    let cells : run.plan.cells ≡ s.plan.cells = ap (λ (p : Plan). p.cells) is.plan in
    let end : run.hi ≡ s.plan.cells = is.end in omega arith

-- the number of totals stays
pub length-run_after_step : (run : UnderWay) → length (run_after_step run).totals ≡ length run.totals
length-run_after_step run = length-map-range_with_len (total_after run) 0 (length run.totals)

-- a detector counts what passes it in that step of the sheet's run
pub settled_total : (s : Sheet) (run : UnderWay) (d : ℕ) → IsSettled s run → d < length run.totals
    → slice_index_or (run_after_step run).totals d no_totals ≡ plus (slice_index_or run.totals d no_totals) (passes s.plan (settings_of s.plan s.edits) d run.step)
settled_total s run d is below =
    let there : 0 + d ≡ d = omega arith in
    get_or-map-range_with_len (total_after run) 0 (length run.totals) d d no_totals below there
    ∙ ap (λ (x : StepInput). plus (slice_index_or run.totals d no_totals) (passes_at x (input_speeds x) d)) (settled_input s run is)

-- at the start there is a count of zero for each detector
pub length-zero_counts : (p : Plan) → length (zero_counts p) ≡ length p.detectors
length-zero_counts p = length-map-range_with_len (λ (d : ℕ). no_totals) 0 (length p.detectors)

pub zero_counts-at : (p : Plan) (d : ℕ) → d < length p.detectors → slice_index_or (zero_counts p) d no_totals ≡ no_totals
zero_counts-at p d below = let there : 0 + d ≡ d = omega arith in get_or-map-range_with_len (λ (d : ℕ). no_totals) 0 (length p.detectors) d d no_totals below there
