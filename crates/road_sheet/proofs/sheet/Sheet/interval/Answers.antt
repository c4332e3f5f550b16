-- Each interval of a sheet, whole or open, is that of the run.
use Rattle.std.proofs.Common.{arith}
use Rattle.road_sheet.proofs.SheetIntervals.{whole_interval, cut_interval, many_whole}
use Rattle.road_sheet.proofs.sheet.Sheet.interval.Goals as goal

pub get-requires : goal.get-requires
get-requires c = omega (arith, many_whole _ _ _ _ _ c.self.invariant c.self.view_is)

pub returns-then-interval-whole_intervals : goal.returns-then-interval-whole_intervals
returns-then-interval-whole_intervals c = whole_interval _ _ _ _ _ c.args.interval c.get.result.now c.self.invariant c.self.view_is c.get.ensures

pub returns-else-interval-whole_intervals : goal.returns-else-interval-whole_intervals
returns-else-interval-whole_intervals c =
    cut_interval _ _ _ _ _ c.args.interval c.self.invariant c.self.view_is (omega (arith, many_whole _ _ _ _ _ c.self.invariant c.self.view_is)) c.requires
