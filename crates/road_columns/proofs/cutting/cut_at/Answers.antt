-- The region from a cell to the next different zone, or to the next blocked cell.
use Rattle.std.proofs.Common.{◌≡◌, ◌∙◌, ◌+◌, ◌*◌, ◌/◌, ◌<◌, ℕ, List, length, slice_index, sym, ap, subst, arith, inl, inr, rules}
use Rattle.std.specs.List.Sorted.{IsNonDecreasing}
use Rattle.std.proofs.Math.Nat.{lt-div-mul-add}
use Rattle.std.proofs.lemmas.Bool.{cases_lt}
use Rattle.road_plan.specs.Plan.{Plan, IsWithinLimits, exit_start}
use Rattle.road_plan.specs.Settings.{Fits, Settings}
use Rattle.road_columns.proofs.SpeedAhead.{zone_up_to}
use Rattle.road_ends.proofs.StepByCars.{not_falling, zone_below}
use Rattle.road_columns.proofs.cutting.cut_at.Goals as goal

-- the zone of a cell has settings
zone_in : (p : Plan) (s : Settings) (first width : ℕ) (limits : List ℕ) → IsWithinLimits p → Fits p s → width ≡ p.width → limits ≡ s.limits → first < exit_start p → first / width < length limits
zone_in p s first width limits within fits wide same on_road =
    let zone = zone_below p.cells p.width first within.wide (omega arith) in
    let each = within.zone_each in
    let fit = fits.speed_limit_each in
    let is : first / width ≡ first / p.width = ap (λ w. first / w) wide in
    let long = ap length same in omega arith

pub alike_end-end-requires-clause-zone : goal.alike_end-end-requires-clause-zone
alike_end-end-requires-clause-zone c =
    zone_in c.args.plan.now c.args.settings.now c.args.first c.width-width.result c.limits-limits.result.now c.width-width.ensures.within c.requires.fits c.width-width.ensures.width c.limits-limits.ensures c.requires.on_road

pub reached_blocks-reached-requires : goal.reached_blocks-reached-requires
reached_blocks-reached-requires c = subst IsNonDecreasing (sym c.blocks-blocks.ensures) (not_falling c.args.settings.now.blocks c.requires.fits.blocks_rise)

next_zone : (first width : ℕ) → 0 < width → first < (first / width + 1) * width
next_zone first width wide =
    let less = lt-div-mul-add {a = first} {b = width} wide in
    let same : (first / width + 1) * width ≡ first / width * width + width = omega arith in omega arith

pub returns-clause-region : goal.returns-clause-region
returns-clause-region c = record {
  reached = c.reached_blocks-reached.result;
  some =
      let within = c.width-width.ensures.within in
      let short = within.short_enough in
      let on_road = c.requires.on_road in
      let wide : 0 < c.width-width.result = let is = c.width-width.ensures.width in let some = within.wide in omega arith in
      let zone = c.alike_end-end.ensures.behind c.args.first (next_zone c.args.first c.width-width.result wide) (omega arith) in
      let least = c.min.ensures in
      let block : c.args.first < c.next_block-next.result = elim (cases_lt c.reached_blocks-reached.result (length c.blocks-blocks.result.now)) as (λ _. c.args.first < c.next_block-next.result) [
        | inl some ↦
            let is = c.next_block-next.ensures.some some in
            let ahead = c.reached_blocks-reached.ensures.parted.ahead c.reached_blocks-reached.result (omega arith) some in omega arith
        | inr none ↦ let is = c.next_block-next.ensures.none none in omega arith
      ] in
      omega arith;
  limit_allowed =
      let inside = zone_in c.args.plan.now c.args.settings.now c.args.first c.width-width.result c.limits-limits.result.now c.width-width.ensures.within c.requires.fits c.width-width.ensures.width c.limits-limits.ensures c.requires.on_road in
      let same = ap length c.limits-limits.ensures in
      let is = ap (λ xs. slice_index xs (c.args.first / c.width-width.result)) c.limits-limits.ensures in
      let most = c.requires.fits.speed_limits_allowed (c.args.first / c.width-width.result) 0 (omega arith) in omega arith;
  alike = λ cell from before on_road.
      let within = c.width-width.ensures.within in
      let wide : 0 < c.width-width.result = let is = c.width-width.ensures.width in let some = within.wide in omega arith in
      let least = c.min.ensures in
      let is = c.alike_end-end.ensures.alike cell (zone_up_to c.width-width.result c.args.first cell wide from) (omega arith) in
      record {
        limit_is = is.limit_is ∙ (λ i. slice_index (c.limits-limits.ensures i) (cell / c.width-width.ensures.width i));
        standing_is = is.standing_is ∙ (λ i. slice_index (c.starts-starts.ensures i) (cell / c.width-width.ensures.width i));
        moving_is = is.moving_is ∙ (λ i. slice_index (c.chances-chances.ensures i) (cell / c.width-width.ensures.width i));
      };
  parted = λ cell from before.
      let least = c.min.ensures in
      let parted = c.reached_blocks-reached.ensures.parted in
      let rising = not_falling c.args.settings.now.blocks c.requires.fits.blocks_rise in
      let long = ap length c.blocks-blocks.ensures in
      record {
        reached = λ i less inside.
            let same = ap (λ bs. slice_index bs i) c.blocks-blocks.ensures in
            let at = parted.reached i less (omega arith) in omega arith;
        ahead = λ i more inside.
            let some : c.reached_blocks-reached.result < length c.blocks-blocks.result.now = omega arith in
            let is = c.next_block-next.ensures.some some in
            let same = ap (λ bs. slice_index bs c.reached_blocks-reached.result) c.blocks-blocks.ensures in
            let rise = rising c.reached_blocks-reached.result i 0 more inside in omega arith;
      };
  block_is = search rules;
  none_is = search rules;
}
