-- The cars are in the columns.
use Rattle.std.proofs.Common.{◌≤◌, sym, subst, arith}
use Rattle.road_plan.specs.Plan.{exit_start}
use Rattle.road_columns.specs.Private.Entering.{ArePlacesFrom}
use Rattle.road_columns.proofs.HeldLists.{few_rising}
use Rattle.road_columns.proofs.Refilled.{refilled}
use Rattle.road_columns.proofs.under_way.columns_for.Goals as goal

pub invariant_of-columns : goal.invariant_of-columns
invariant_of-columns c =
    let few = few_rising (exit_start c.args.plan.now) c.args.cars.now c.requires.rise c.requires.before_exit in
    let most = c.length.ensures.within.short_enough in
    let size = c.in_ok-cells.ensures.len in
    let size_speeds = c.in_ok-speeds.ensures.len in
    let size_numbers = c.in_ok-numbers.ensures.len in
    record {
      short = omega arith;
      speeds_each = omega arith;
      numbers_each = omega arith;
      from = omega arith;
      order = omega arith;
      inside = omega arith;
    }

pub find_places-requires-clause-falling : goal.find_places-requires-clause-falling
find_places-requires-clause-falling c =
    let few : c.args.plan.now.cells ≤ 65525 = let most = c.length.ensures.within.short_enough in omega arith in
    (c.hold.ensures.cars c.args.plan.now few c.requires.before_exit).falling

pub returns-clause-cars : goal.returns-clause-cars
returns-clause-cars c =
    let few : c.args.plan.now.cells ≤ 65525 = let most = c.length.ensures.within.short_enough in omega arith in
    c.hold.ensures.cars c.args.plan.now few c.requires.before_exit

pub returns-clause-places : goal.returns-clause-places
returns-clause-places c =
    let is = refilled c.in_ok-places.places c.deref_mut.result.now c.find_places.new.places c.deref_mut.ensures.value c.find_places.ensures.long in
    subst (ArePlacesFrom c.hold.new.self.cells.items c.hold.new.self.head c.hold.new.self.tail c.args.sites.now) (sym is) c.find_places.ensures.places
