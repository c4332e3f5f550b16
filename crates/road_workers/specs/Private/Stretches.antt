-- Stretches of road. Each is run by itself.
use Rattle.std.specs.Prelude.{◌≡◌, ℕ, ◌+◌, ◌-◌, ◌*◌, ◌/◌, ◌<◌, ◌&&◌, Bool, List, length, map, min}
use Rattle.std.specs.Prelude.{nat_eq, nat_le, nat_lt}
use Rattle.std.specs.Prelude.{slice_index, slice_index_or, if◌then◌else◌}
use Rattle.std.specs.List.{range_with_len}
use Rattle.road_plan.specs.Plan.{Plan}
use Rattle.road_cells.specs.Array.{Array, vehicle_at}
use Rattle.road_cells.specs.Cars.{cars_from, cell_at}
use Rattle.road_cells.specs.declared.car.Car.{Car}
use Rattle.road_cells.specs.declared.car.TheConstants.{GREATEST_SPEED}
use Rattle.road_ends.specs.Input.{StepInput}
use Rattle.road_ends.specs.Run.{road_after_steps}
use Rattle.road_ends.specs.Span.{Span, span_road}
use Rattle.road_detector.specs.Passes.{no_totals, passes_at, total_from}
use Rattle.road_detector.specs.declared.counts.Totals.{Totals}
use Rattle.road_detector.specs.declared.span_result.SpanResult.{SpanResult}
use Rattle.road_columns.specs.UnderWay.{IsRunnable}
use Rattle.road_workers.specs.declared.stretch.joining.Joined.{Joined}

-- the cars of an array at the cells from lo to before hi
abbrev pub cars_between : ℕ → ℕ → Array → List Car
cars_between lo hi a = cars_from lo (map (vehicle_at a) (range_with_len lo (hi - lo)))

-- the road after k steps of a span, from the road before it
abbrev pub road_after : Span → ℕ → Array → Array
road_after span k a = road_after_steps span.plan (λ _. span.settings) span.step k a

-- whether a detector's site is one of the cells from lo to before hi
abbrev pub has_site : ℕ → ℕ → Plan → ℕ → Bool
has_site lo hi p d = nat_le lo (slice_index p.detectors d) && nat_lt (slice_index p.detectors d) hi

-- what a detector counts in a step at these speeds, if its site is one of these cells; else nothing
abbrev pub passes_on : ℕ → ℕ → StepInput → List ℕ → ℕ → Totals
passes_on lo hi input speeds d = if has_site lo hi input.plan d then passes_at input speeds d else no_totals

-- what a detector counts in k steps of a span, if its site is one of these cells; else nothing
abbrev pub total_on : ℕ → ℕ → Span → ℕ → Array → ℕ → Totals
total_on lo hi span k a d =
    if has_site lo hi span.plan d then total_from span.plan (λ _. span.settings) span.step k a d else no_totals

-- these are the totals of each detector in k steps of a span
pub record AreTotalsOn (lo hi : ℕ) (span : Span) (k : ℕ) (a : Array) (totals : List Totals) : Type 0 where
  pub each : length totals ≡ length span.plan.detectors
  pub counted : (d : ℕ) → d < length totals → slice_index_or totals d no_totals ≡ total_on lo hi span k a d

-- a stretch was run: the cars on it are those of the road after the span, and its detectors have counted the whole span
pub record IsRunOf (lo hi : ℕ) (span : Span) (a : Array) (ran : SpanResult) : Type 0 where
  pub cars : cars_between lo hi ran.road ≡ cars_between lo hi (span_road span a)
  pub totals : AreTotalsOn lo hi span span.steps a ran.totals.items

-- stretches side by side were run, from the first cell to before hi: their cars, and what their detectors have counted
pub record IsJoined (hi : ℕ) (span : Span) (a : Array) (joined : Joined) : Type 0 where
  pub cars : joined.cars.items ≡ cars_between 0 hi (span_road span a)
  pub totals : AreTotalsOn 0 hi span span.steps a joined.totals.items

-- the cars near a stretch can be held in a run: those on it and, for each step of a span, on 9 cells behind it and 9
-- ahead of it
abbrev pub IsRunnableNear : ℕ → ℕ → Span → Array → Type 0
IsRunnableNear lo hi span near = IsRunnable (lo - GREATEST_SPEED * span.steps)
    (min (hi + GREATEST_SPEED * span.steps) span.plan.cells) span.plan near

-- where stretch number w of n begins, on a road of this many cells: at the car that has about the fraction w / n of all
-- cars behind it; the first stretch begins at the start of the road, and the last one ends at its end
abbrev pub cut : ℕ → List Car → ℕ → ℕ → ℕ
cut cells cars n w =
    if nat_eq w 0 then 0
    else (if nat_eq w n then cells else min (cell_at cars (length cars / n * w)) cells)
