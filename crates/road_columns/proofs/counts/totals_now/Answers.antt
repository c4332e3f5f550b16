-- Each turn appends the total of one more detector.
use Rattle.std.proofs.Common.{◌∙◌, ◌++◌, [], ◌∷◌, sym, arith}
use Rattle.std.proofs.lemmas.List.FromFn.{map-range_with_len_more}
use Rattle.road_columns.specs.Private.Counts.{total_in}
use Rattle.road_columns.proofs.counts.totals_now.Goals as goal

pub loop-detector-preserved : goal.loop-detector-preserved
loop-detector-preserved c = record {
  listed = c.in_ok-push.ensures.items
      ∙ (λ i. c.loop-detector.invariant.listed i ++ (c.total_now.ensures i) ∷ [])
      ∙ sym (map-range_with_len_more (total_in c.args.passes.now c.args.totals.now) 0 c.loop-detector.detector c.loop-detector.detector (omega arith));
}
