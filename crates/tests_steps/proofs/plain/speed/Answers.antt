use Rattle.std.proofs.Common.{arith}
use Rattle.road_ends.proofs.StepByCars.{zone_in_plan}
use Rattle.tests_steps.proofs.plain.speed.Goals as goal

pub bounds-limits-zone : goal.bounds-limits-zone
bounds-limits-zone c =
    let within = zone_in_plan c.args.plan.now c.args.road.now c.cars.result.now c.args.place c.width.result c.width.ensures.within c.requires.on_road c.requires.car c.cars.ensures.all c.width.ensures.width in
    let each = c.requires.fits.speed_limit_each in
    rw c.limits.ensures (omega arith)

pub bounds-starts-zone : goal.bounds-starts-zone
bounds-starts-zone c =
    let within = zone_in_plan c.args.plan.now c.args.road.now c.cars.result.now c.args.place c.width.result c.width.ensures.within c.requires.on_road c.requires.car c.cars.ensures.all c.width.ensures.width in
    let each = c.requires.fits.start_each in
    rw c.starts.ensures (omega arith)

pub bounds-chances-zone : goal.bounds-chances-zone
bounds-chances-zone c =
    let within = zone_in_plan c.args.plan.now c.args.road.now c.cars.result.now c.args.place c.width.result c.width.ensures.within c.requires.on_road c.requires.car c.cars.ensures.all c.width.ensures.width in
    let each = c.requires.fits.chance_each in
    rw c.chances.ensures (omega arith)
