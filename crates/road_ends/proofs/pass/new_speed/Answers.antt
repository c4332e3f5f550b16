-- The values that are read for a car determine its speed.
use Rattle.std.proofs.Common.{◌≡◌, ◌∙◌, ◌/◌, ap, arith}
use Rattle.road_plan.specs.Plan.{zone_of}
use Rattle.road_cells.specs.Cars.{cars_of, cell_at}
use Rattle.road_words.specs.Words.{word}
use Rattle.road_rules.specs.Speeds.{comes_about, slowed_speed}
use Rattle.road_cells.specs.Gap.{free_cells}
use Rattle.road_ends.specs.Speed.{nth_car}
use Rattle.road_ends.proofs.PassOverCars.{read_speed}
use Rattle.road_ends.proofs.StepByCars.{not_falling, zone_in_plan}
use Rattle.road_ends.proofs.pass.new_speed.Goals as goal

pub gap_to-free-requires-clause-rising : goal.gap_to-free-requires-clause-rising
gap_to-free-requires-clause-rising c = rw c.blocks-2.ensures (not_falling c.args.at.settings.now.blocks c.args.at.fits.blocks_rise)

pub bounds-limits-zone : goal.bounds-limits-zone
bounds-limits-zone c =
    let within = zone_in_plan c.args.at.plan.now c.args.road.now c.cars.result.now c.args.place c.width.result c.width.ensures.within c.requires.on_road c.requires.car c.cars.ensures.all c.width.ensures.width in
    let each = c.args.at.fits.speed_limit_each in
    rw c.limits.ensures (omega arith)

pub bounds-starts-zone : goal.bounds-starts-zone
bounds-starts-zone c =
    let within = zone_in_plan c.args.at.plan.now c.args.road.now c.cars.result.now c.args.place c.width.result c.width.ensures.within c.requires.on_road c.requires.car c.cars.ensures.all c.width.ensures.width in
    let each = c.args.at.fits.start_each in
    rw c.starts.ensures (omega arith)

pub bounds-chances-zone : goal.bounds-chances-zone
bounds-chances-zone c =
    let within = zone_in_plan c.args.at.plan.now c.args.road.now c.cars.result.now c.args.place c.width.result c.width.ensures.within c.requires.on_road c.requires.car c.cars.ensures.all c.width.ensures.width in
    let each = c.args.at.fits.chance_each in
    rw c.chances.ensures (omega arith)

pub returns : goal.returns
returns c =
    let p = c.args.at.plan.now in
    let s = c.args.at.settings.now in
    let a = c.args.road.now in
    let k = c.args.place in
    let cars = c.cars.result.now in
    let zone = cell_at cars k / c.width.result in
    let in_zone : zone ≡ zone_of p (cell_at (cars_of a) k) = λ i. cell_at (c.cars.ensures.all i) k / c.width.ensures.width i in
    let free : c.gap_to-free.result ≡ free_cells s.blocks a (cell_at (cars_of a) k) = c.gap_to-free.ensures ∙ ap (λ bs. free_cells bs a (cell_at (cars_of a) k)) c.blocks-2.ensures in
    read_speed p s c.args.at.step a cars c.limits.result.now c.starts.result.now c.chances.result.now k zone c.gap_to-free.result c.wanted-wished.result c.slowed_by_chance.result
    c.args.at.fits c.requires.on_road c.cars.ensures.all c.limits.ensures c.starts.ensures c.chances.ensures in_zone free c.wanted-wished.ensures
    (c.slowed_by_chance.ensures ∙ (λ i. slowed_speed c.wanted-wished.result (comes_about (word p.words (nth_car cars k).number (c.from.ensures i)) (c.chance_at-chance.ensures i))))
