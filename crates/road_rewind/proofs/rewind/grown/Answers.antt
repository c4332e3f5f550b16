-- A draft of the joined scenario, simulated to the greater horizon, is the grown sheet. This takes at most the allowed
-- number of steps.
use Rattle.std.proofs.Common.{◌≡◌, ◌∙◌, ◌-◌, max, ap, arith}
use Rattle.road_sheet.specs.Drafts.{draft_start}
use Rattle.road_sheet.specs.Sheets.{Sheet}
use Rattle.road_rewind.specs.Growth.{kept_step, touched_step, meter_after}
use Rattle.road_rewind.proofs.StepCounts.{more_ticks, few_steps, start_at_horizon}
use Rattle.road_rewind.proofs.rewind.grown.Goals as goal

pub returns-in_err-simulated-clause-few_steps : goal.returns-in_err-simulated-clause-few_steps
returns-in_err-simulated-clause-few_steps g c =
    let s = c.args.sheet.now in
    let start = ap (λ (x : Sheet). x.horizon) c.in_ok-draft.ensures.draft in
    more_ticks _ _ c.args.meter.now c.simulate.new.meter (omega (arith, few_steps s.horizon (max s.horizon c.args.to) (touched_step s c.args.scenario.now), start, c.max.ensures, c.horizon.ensures.horizon)) c.simulate.ensures.few

pub returns-clause-few_steps : goal.returns-clause-few_steps
returns-clause-few_steps g c =
    let s = c.args.sheet.now in
    let start = ap (λ (x : Sheet). x.horizon) c.in_ok-draft.ensures.draft in
    more_ticks _ _ c.args.meter.now c.simulate.new.meter (omega (arith, few_steps s.horizon (max s.horizon c.args.to) (touched_step s c.args.scenario.now), start, c.max.ensures, c.horizon.ensures.horizon)) c.simulate.ensures.few

pub returns-clause-new_steps : goal.returns-clause-new_steps
returns-clause-new_steps g c = λ kept.
    let s = c.args.sheet.now in
    let keep = kept_step s.horizon (touched_step s c.args.scenario.now) in
    let start = ap (λ (x : Sheet). x.horizon) c.in_ok-draft.ensures.draft ∙ start_at_horizon s.horizon keep kept in
    let same : c.max.result - c.in_ok-draft.draft.horizon ≡ max s.horizon c.args.to - s.horizon = omega (arith, start, c.max.ensures, c.horizon.ensures.horizon) in
    c.in_ok-simulated.ensures.steps ∙ ap (meter_after c.args.meter.now) same

pub returns-clause-steps : goal.returns-clause-steps
returns-clause-steps g c =
    let s = c.args.sheet.now in
    let start = ap (λ (x : Sheet). x.horizon) c.in_ok-draft.ensures.draft in
    let same : c.max.result - c.in_ok-draft.draft.horizon ≡ max s.horizon c.args.to - draft_start s.horizon (kept_step s.horizon (touched_step s c.args.scenario.now)) = omega (arith, start, c.max.ensures, c.horizon.ensures.horizon) in
    c.in_ok-simulated.ensures.steps ∙ ap (meter_after c.args.meter.now) same
