-- Each turn adds one more region, until the exit is reached.
use Rattle.std.proofs.Common.{◌<◌, ◌≤◌, sym, subst, arith}
use Rattle.road_plan.specs.Plan.{exit_start}
use Rattle.road_columns.proofs.RegionsCut.{AreRegionsUpTo, all_regions, one_more}
use Rattle.road_columns.proofs.cutting.regions_of.Goals as goal

pub loop-first-preserved : goal.loop-first-preserved
loop-first-preserved c =
    let cut = c.cut_at-cut.ensures in
    let on_road : c.loop-first.first < exit_start c.args.plan.now = let a = c.length.ensures.cells in let b = c.exit.ensures in let test = c.loop-first-test.true in omega arith in
    record {
      cut = subst (λ xs. AreRegionsUpTo c.args.plan.now c.args.settings.now xs c.cut_at-cut.result.end) (sym c.in_ok-push.ensures.items)
          (one_more c.args.plan.now c.args.settings.now c.loop-first.regions.items c.cut_at-cut.result.region c.loop-first.first c.cut_at-cut.result.end cut.first on_road c.loop-first.invariant.cut cut.region);
    }

pub returns : goal.returns
returns c =
    let within = c.length.ensures.within in
    let some : 0 < exit_start c.args.plan.now = let exit = within.exit_on_road in omega arith in
    let past : exit_start c.args.plan.now ≤ c.loop-first.first = let a = c.length.ensures.cells in let b = c.exit.ensures in let test = c.loop-first-test.false in omega arith in
    all_regions c.args.plan.now c.args.settings.now c.loop-first.regions.items c.loop-first.first some past c.loop-first.invariant.cut
