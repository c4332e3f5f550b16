-- Runs of a span that are under way.
use Rattle.std.specs.Prelude.{◌≡◌, ℕ, zero, suc, ◌+◌, ◌-◌, ◌*◌, ◌<◌, ◌≤◌, length, min, slice_index_or, if◌then◌else◌}
use Rattle.road_cells.specs.Array.{Array}
use Rattle.road_cells.specs.declared.car.TheConstants.{GREATEST_SPEED}
use Rattle.road_ends.specs.Laws.{AgreeNear}
use Rattle.road_ends.specs.Span.{Span}
use Rattle.road_detector.specs.Passes.{no_totals, total_from}
use Rattle.road_columns.specs.UnderWay.{IsAt, UnderWay, zero_counts, run_after_step}
use Rattle.road_columns.specs.declared.road_or_run.RoadOrRun.{RoadOrRun}
use Rattle.road_columns.specs.declared.road_or_run.RoadOrRun.TheVariants.{Road, Run}
use Rattle.road_workers.specs.Private.Stretches.{has_site, road_after, total_on}

-- a run is before the steps of a span, under its settings, on the cells from lo to before hi, with this road
pub record IsReady (lo hi : ℕ) (span : Span) (a : Array) (run : UnderWay) : Type 0 where
  pub plan : run.plan ≡ span.plan
  pub settings : run.settings ≡ span.settings
  pub step : run.step ≡ span.step
  pub from : run.lo ≡ lo
  pub to : run.hi ≡ hi
  pub road : run.road ≡ a

-- it is a run, which is on the whole road of its plan before this step
abbrev pub IsRunAt : ℕ → RoadOrRun → Type 0
IsRunAt t (Road a) = ⊥
IsRunAt t (Run run) = IsAt t run

-- a run whose counts are set to zero
abbrev pub uncounted : UnderWay → UnderWay
uncounted run = record run { totals = zero_counts run.plan }

-- a run after k more steps
abbrev pub after_steps : ℕ → UnderWay → UnderWay
after_steps zero run = run
after_steps (suc k) run = run_after_step (after_steps k run)

-- k steps of a span are made on the whole road, from an array, and counted
pub record IsWhole (span : Span) (k : ℕ) (a : Array) (run : UnderWay) : Type 0 where
  pub plan : run.plan ≡ span.plan
  pub settings : run.settings ≡ span.settings
  pub step : run.step ≡ span.step + k
  pub from : run.lo ≡ 0
  pub to : run.hi ≡ span.plan.cells
  pub road : run.road ≡ road_after span k a
  pub each : length run.totals ≡ length span.plan.detectors
  pub counted : (d : ℕ) → d < length run.totals → slice_index_or run.totals d no_totals
      ≡ total_from span.plan (λ _. span.settings) span.step k a d

-- k steps of a span are made, from an array, on all cells that may matter to the cells from lo to before hi in the
-- steps that are left, and are counted on the cells from lo to before hi
pub record IsAfter (lo hi : ℕ) (span : Span) (k : ℕ) (a : Array) (run : UnderWay) : Type 0 where
  pub plan : run.plan ≡ span.plan
  pub settings : run.settings ≡ span.settings
  pub step : run.step ≡ span.step + k
  pub from : run.lo ≤ lo - GREATEST_SPEED * (span.steps - k)
  pub to : min (hi + GREATEST_SPEED * (span.steps - k)) span.plan.cells ≤ run.hi
  pub on_road : run.hi ≤ span.plan.cells
  pub road : AgreeNear (span.steps - k) lo hi run.road (road_after span k a)
  pub each : length run.totals ≡ length span.plan.detectors
  pub counted : (d : ℕ) → d < length run.totals
      → (if has_site lo hi span.plan d then slice_index_or run.totals d no_totals else no_totals)
      ≡ total_on lo hi span k a d
