-- The first intervals end on a full shelf or on the open one.
use Rattle.std.proofs.Common.{◌≡◌, ◌/◌, map, take, arith}
use Rattle.std.proofs.lemmas.List.{length-map}
use Rattle.std.specs.Arc.{arc_value}
use Rattle.road_sheet.proofs.Shelves.{first_behind, first_on_shelf, full_at, many_intervals, read_at}
use Rattle.road_sheet.proofs.shared_intervals.SharedIntervals.first.Goals as goal

pub first-requires : goal.first-requires
first-requires c =
    let shelves = (arc_value c.self.inside.full_shelves).items in
    let many = rw c.deref.ensures at c.len.ensures in
    let read = rw c.deref-then-shelves-len.ensures at c.index.ensures in
    let here = read_at (λ x. arc_value x) shelves (c.args.count / 64) c.index.result.now c.deref-then-shelves-len-2.result.now (omega arith) read c.deref-then-shelves-len-2.ensures in
    omega (arith, full_at (map (λ x. arc_value x) shelves) c.deref-then-shelves-len-2.result.now (c.args.count / 64) c.self.invariant.0 here)

pub first-requires-else-shelves-len : goal.first-requires-else-shelves-len
first-requires-else-shelves-len c =
    let shelves = (arc_value c.self.inside.full_shelves).items in
    let many = rw c.deref.ensures at c.len.ensures in
    let last = c.self.invariant.1 in
    omega (arith, last, length-map shelves (λ x. arc_value x), many_intervals (map (λ x. arc_value x) shelves) c.self.inside.open_shelf c.args.self.now c.self.invariant.0 c.self.view_is)

pub returns-in_ok-full : goal.returns-in_ok-full
returns-in_ok-full c =
    let shelves = (arc_value c.self.inside.full_shelves).items in
    let many = rw c.deref.ensures at c.len.ensures in
    let read = rw c.deref-then-shelves-len.ensures at c.index.ensures in
    let here = read_at (λ x. arc_value x) shelves (c.args.count / 64) c.index.result.now c.deref-then-shelves-len-2.result.now (omega arith) read c.deref-then-shelves-len-2.ensures in
    let some : map (λ x. arc_value x) (arc_value c.in_ok-full.full).items ≡ take (c.args.count / 64) (map (λ x. arc_value x) shelves) =
    cc (c.in_ok-full.ensures.ok, c.in_ok-share_first.ensures, c.deref-then-shelves-len-4.ensures.value, c.deref-then-shelves-len-3.ensures) in
    first_on_shelf (map (λ x. arc_value x) shelves) _ c.self.inside.open_shelf c.args.self.now c.deref-then-shelves-len-2.result.now c.in_ok-last.last c.args.count c.self.invariant.0 c.self.view_is here some c.in_ok-last.ensures

pub returns-in_ok-full-2 : goal.returns-in_ok-full-2
returns-in_ok-full-2 c =
    let shelves = (arc_value c.self.inside.full_shelves).items in
    let many = rw c.deref.ensures at c.len.ensures in
    let last = c.self.invariant.1 in
    let all = many_intervals (map (λ x. arc_value x) shelves) c.self.inside.open_shelf c.args.self.now c.self.invariant.0 c.self.view_is in
    let same : map (λ x. arc_value x) (arc_value c.in_ok-full-2.full).items ≡ map (λ x. arc_value x) shelves = cc (c.in_ok-full-2.ensures) in
    first_behind (map (λ x. arc_value x) shelves) _ c.self.inside.open_shelf c.args.self.now c.in_ok-last-2.last c.args.count c.self.invariant.0 c.self.view_is (omega (arith, all, last, length-map shelves (λ x. arc_value x))) same c.in_ok-last-2.ensures
