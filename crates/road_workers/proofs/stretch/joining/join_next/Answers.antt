-- Two stretches side by side are one stretch.
use Rattle.std.proofs.Common.{◌++◌, length, ap, sym, subst, ◌∙◌, arith}
use Rattle.road_workers.specs.Private.Stretches.{AreTotalsOn}
use Rattle.road_workers.proofs.SideBySide.{cars_beside, beside_fit, both_totals}
use Rattle.road_workers.proofs.stretch.joining.join_next.Goals as goal

pub add-requires-clause-each : goal.add-requires-clause-each
add-requires-clause-each c = ap length c.deref.ensures.value ∙ c.requires.ran.totals.each ∙ sym c.requires.front.totals.each

pub add-requires-clause-cars : goal.add-requires-clause-cars
add-requires-clause-cars c d below =
    let span = c.args.span.now in
    let others = subst (AreTotalsOn c.args.stretch.first c.args.stretch.end span span.steps c.args.road.now) (sym c.deref.ensures.value) c.requires.ran.totals in
    (beside_fit 0 c.args.stretch.first c.args.stretch.end span c.args.road.now c.args.front.totals.items c.deref.result.now (omega arith) c.requires.order c.requires.within_limit c.requires.front.totals others d below).0

pub add-requires-clause-speeds : goal.add-requires-clause-speeds
add-requires-clause-speeds c d below =
    let span = c.args.span.now in
    let others = subst (AreTotalsOn c.args.stretch.first c.args.stretch.end span span.steps c.args.road.now) (sym c.deref.ensures.value) c.requires.ran.totals in
    (beside_fit 0 c.args.stretch.first c.args.stretch.end span c.args.road.now c.args.front.totals.items c.deref.result.now (omega arith) c.requires.order c.requires.within_limit c.requires.front.totals others d below).1

pub returns : goal.returns
returns c =
    let span = c.args.span.now in
    let others = subst (AreTotalsOn c.args.stretch.first c.args.stretch.end span span.steps c.args.road.now) (sym c.deref.ensures.value) c.requires.ran.totals in
    record {
      cars = c.in_ok-extend_from_slice.ensures.items ∙ ap (λ cars. c.args.front.cars.items ++ cars) c.between.ensures
          ∙ (λ i. c.requires.front.cars i ++ c.requires.ran.cars i) ∙ cars_beside 0 c.args.stretch.first c.args.stretch.end _ (omega arith) c.requires.order;
      totals = both_totals 0 c.args.stretch.first c.args.stretch.end span c.args.road.now c.args.front.totals.items c.deref.result.now c.add.new.totals.items
          (omega arith) c.requires.order c.requires.front.totals others c.add.ensures.each c.add.ensures.totals;
    }
