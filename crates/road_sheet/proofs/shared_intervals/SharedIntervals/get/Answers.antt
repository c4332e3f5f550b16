-- An interval is on a full shelf or on the open one.
use Rattle.std.proofs.Common.{◌/◌, map, arith}
use Rattle.std.proofs.lemmas.List.{length-map}
use Rattle.std.specs.Arc.{arc_value}
use Rattle.road_sheet.proofs.Shelves.{behind, full_at, many_intervals, on_shelf, read_at}
use Rattle.road_sheet.proofs.shared_intervals.SharedIntervals.get.Goals as goal

pub get-requires : goal.get-requires
get-requires c =
    let shelves = (arc_value c.self.inside.full_shelves).items in
    let many = rw c.deref.ensures at c.len.ensures in
    let read = rw c.deref-then-shelf-len.ensures at c.index.ensures in
    let here = read_at (λ x. arc_value x) shelves (c.args.index / 64) c.index.result.now c.deref-then-shelf-len-2.result.now (omega arith) read c.deref-then-shelf-len-2.ensures in
    omega (arith, full_at (map (λ x. arc_value x) shelves) c.deref-then-shelf-len-2.result.now (c.args.index / 64) c.self.invariant.0 here)

pub get-requires-else-shelf-len : goal.get-requires-else-shelf-len
get-requires-else-shelf-len c =
    let shelves = (arc_value c.self.inside.full_shelves).items in
    let many = rw c.deref.ensures at c.len.ensures in
    let last = c.self.invariant.1 in
    omega (arith, last, length-map shelves (λ x. arc_value x), many_intervals (map (λ x. arc_value x) shelves) c.self.inside.open_shelf c.args.self.now c.self.invariant.0 c.self.view_is)

pub returns-then-shelf-len : goal.returns-then-shelf-len
returns-then-shelf-len c =
    let shelves = (arc_value c.self.inside.full_shelves).items in
    let many = rw c.deref.ensures at c.len.ensures in
    let read = rw c.deref-then-shelf-len.ensures at c.index.ensures in
    let here = read_at (λ x. arc_value x) shelves (c.args.index / 64) c.index.result.now c.deref-then-shelf-len-2.result.now (omega arith) read c.deref-then-shelf-len-2.ensures in
    on_shelf (map (λ x. arc_value x) shelves) c.self.inside.open_shelf c.args.self.now c.deref-then-shelf-len-2.result.now c.args.index c.get.result.now c.self.invariant.0 c.self.view_is here c.get.ensures

pub returns-else-shelf-len : goal.returns-else-shelf-len
returns-else-shelf-len c =
    let shelves = (arc_value c.self.inside.full_shelves).items in
    let many = rw c.deref.ensures at c.len.ensures in
    let last = c.self.invariant.1 in
    let all = many_intervals (map (λ x. arc_value x) shelves) c.self.inside.open_shelf c.args.self.now c.self.invariant.0 c.self.view_is in
    behind (map (λ x. arc_value x) shelves) c.self.inside.open_shelf c.args.self.now c.args.index c.get-else-shelf-len.result.now c.self.invariant.0 c.self.view_is (omega (arith, all, last, length-map shelves (λ x. arc_value x))) c.get-else-shelf-len.ensures
