-- One more step of a run near a stretch: there it agrees with the step of the whole road, and the detectors count the
-- same.
use Rattle.std.specs.Prelude.{◌≡◌, ℕ, ◌+◌, ◌-◌, ◌*◌, ◌<◌, ◌≤◌, ◌&&◌, Bool, true, false, if◌then◌else◌, nat_le, nat_lt, slice_index, refl}
use Rattle.std.proofs.Common.{ap, ◌∙◌, arith}
use Rattle.std.proofs.lemmas.Bool.Decides.{nat_tests}
use Rattle.road_cells.specs.Array.{Array, vehicle_at}
use Rattle.road_cells.specs.declared.car.TheConstants.{GREATEST_SPEED}
use Rattle.road_ends.specs.Entries.{road_with_entries}
use Rattle.road_ends.specs.Input.{StepInput, input_next, input_speeds}
use Rattle.road_ends.specs.Laws.{AgreeBetween, AgreeNear}
use Rattle.road_ends.specs.Span.{Span, IsInputNear}
use Rattle.road_ends.proofs.CellsNearby.{entries-nearby, motion-nearby}
use Rattle.road_detector.specs.Passes.{no_totals, passes_at}
use Rattle.road_detector.proofs.CountsNearby.{before_motion, passes-nearby}
use Rattle.road_workers.specs.Private.Stretches.{has_site, road_after}
use Rattle.road_workers.proofs.StretchTotals.{IsCountedLike, road_after-more, step_input}

-- a road agrees with itself near every stretch
pub agrees_with_itself : (k lo hi : ℕ) (a : Array) → AgreeNear k lo hi a a
agrees_with_itself k lo hi a = record { same = λ c above below. refl }

-- if no step is left, roads that agree near a stretch agree on the stretch itself
pub at_end : (k lo hi : ℕ) (x y : Array) → k ≡ 0 → AgreeNear k lo hi x y → AgreeBetween lo hi x y
at_end k lo hi x y none agree = record { same = λ c above below. agree.same c (omega arith) (omega arith) }

-- the input, from a road that agrees with the run's
module _ (lo hi : ℕ) (span : Span) (k : ℕ) (r a : Array) (input : StepInput) (more : k < span.steps) (near : IsInputNear lo hi span k r input) (agree : AgreeNear (span.steps - k) lo hi r (road_after span k a)) where
  -- the road before the motion of the run's step
  abbrev whole : Array
  whole = road_with_entries span.plan span.settings (span.step + k) (road_after span k a)

  entered : AgreeNear (span.steps - k) lo hi input.road whole
  entered =
      let rest = entries-nearby span.plan span.settings (span.step + k) (lo - GREATEST_SPEED * (span.steps - k)) (hi + GREATEST_SPEED * (span.steps - k)) r (road_after span k a) agree in
      record { same = λ c above below. near.road.same c above below ∙ rest.same c above below }

  is_before : input ≡ before_motion span.plan span.settings (span.step + k) input.road
  is_before = λ i. record { plan = near.of_span.plan i; settings = near.of_span.settings i; step = near.step i; road = input.road }

  pub step-near : (next : Array) → next ≡ input_next input → AgreeNear (span.steps - (k + 1)) lo hi next (road_after span (k + 1) a)
  step-near next is =
      let moved = motion-nearby span.plan span.settings (span.step + k) (lo - GREATEST_SPEED * (span.steps - (k + 1))) (hi + GREATEST_SPEED * (span.steps - (k + 1))) input.road whole
      (record { same = λ c above below. entered.same c (omega arith) (omega arith) }) in
      record { same = λ c above below. ap (λ x. vehicle_at x c) (is ∙ ap input_next is_before) ∙ moved.same c above below ∙ ap (λ x. vehicle_at x c) (road_after-more span k a) }

  on : (lo hi site : ℕ) → (nat_le lo site && nat_lt site hi) ≡ true → (lo ≤ site) × (site < hi)
  on lo hi site is = grind (arith, nat_tests)

  pub counts-near : IsCountedLike lo hi span k a input
  counts-near d = ap (λ (x : StepInput). if has_site lo hi x.plan d then passes_at x (input_speeds x) d else no_totals) is_before ∙ by (has_site lo hi span.plan d) refl
    where
      by : (b : Bool) → has_site lo hi span.plan d ≡ b
          → (if b then passes_at (before_motion span.plan span.settings (span.step + k) input.road) (input_speeds (before_motion span.plan span.settings (span.step + k) input.road)) d else no_totals)
          ≡ (if b then passes_at (step_input span k a) (input_speeds (step_input span k a)) d else no_totals)
      by true is =
          let within = on lo hi (slice_index span.plan.detectors d) is in
          let above = within.0 in
          let below = within.1 in
          passes-nearby span.plan span.settings (span.step + k) d input.road whole (record { same = λ c from to. entered.same c (omega arith) (omega arith) })
      by false is = refl
