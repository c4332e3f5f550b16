-- A run on a stretch with its margins: its next input is right at all cells that can matter to the stretch in the
-- remaining steps.
use Rattle.std.specs.Prelude.{◌≡◌, ℕ, ◌+◌, ◌-◌, ◌*◌, ◌≤◌, min}
use Rattle.std.proofs.Common.{sym, subst, ◌∙◌, arith, inl, inr}
use Rattle.std.proofs.lemmas.Bool.{cases_lt}
use Rattle.road_plan.specs.Plan.{Plan}
use Rattle.road_plan.specs.Settings.{Settings}
use Rattle.road_cells.specs.Array.{Array, vehicle_at}
use Rattle.road_cells.specs.declared.car.TheConstants.{GREATEST_SPEED}
use Rattle.road_cells.proofs.ArrayPlaces.{past_array, past_end, vehicle_at-array}
use Rattle.road_ends.specs.Entries.{road_with_entries}
use Rattle.road_ends.specs.Laws.{AgreeNear}
use Rattle.road_ends.specs.EntriesBetween.{entries_between, with_entry}
use Rattle.road_ends.specs.Span.{IsInputNear, Span}
use Rattle.road_ends.proofs.EntriesBetween.{between-at, between-ends}
use Rattle.road_columns.specs.UnderWay.{UnderWay, next_input}

-- entries on these cells agree with those of the whole road near a stretch that they surround
pub near_entries : (p : Plan) (s : Settings) (t : ℕ) (a : Array) (lo hi k from to : ℕ) → from ≤ lo - GREATEST_SPEED * k → min (hi + GREATEST_SPEED * k) p.cells ≤ to → to ≤ p.cells
    → AgreeNear k lo hi (entries_between from to p s t a) (road_with_entries p s t a)
near_entries p s t a lo hi k from to begin end within = record {
  same = λ c above below. elim (cases_lt c p.cells) as (λ _. vehicle_at (entries_between from to p s t a) c ≡ vehicle_at (road_with_entries p s t a) c) [
    | inl on ↦ between-at (with_entry p s t a) from to c (omega arith) (omega arith) ∙ sym (vehicle_at-array p.cells (with_entry p s t a) c on)
    | inr past ↦
        let ends = between-ends (with_entry p s t a) from to p.cells within in
        past_end (entries_between from to p s t a) c (omega arith) ∙ sym (past_array p.cells (with_entry p s t a) c past)
  ];
}

-- the next input of a run on the cells of a stretch and, for each step of a span that is left, on 9 cells behind it and
-- 9 ahead of it
pub near_run : (span : Span) (k lo hi : ℕ) (run : UnderWay) → run.plan ≡ span.plan → run.settings ≡ span.settings → run.step ≡ span.step + k
    → run.lo ≤ lo - GREATEST_SPEED * (span.steps - k) → min (hi + GREATEST_SPEED * (span.steps - k)) span.plan.cells ≤ run.hi → run.hi ≤ span.plan.cells
    → IsInputNear lo hi span k run.road (next_input run)
near_run span k lo hi run is_plan is_settings is_step begin end within = record {
  of_span = record { plan = is_plan; settings = is_settings };
  step = is_step;
  road = subst (λ x. AgreeNear (span.steps - k) lo hi x (road_with_entries span.plan span.settings (span.step + k) run.road))
      (sym (λ i. entries_between run.lo run.hi (is_plan i) (is_settings i) (is_step i) run.road))
      (near_entries span.plan span.settings (span.step + k) run.road lo hi (span.steps - k) run.lo run.hi begin end within);
}
