-- Each visited car gets its new speed. The count of blocked cells is found from the count for the car visited before.
use Rattle.std.proofs.Common.{◌≡◌, ◌∙◌, ◌<◌, ◌-◌, ℕ, inl, inr, sym, ap, subst, arith, length, slice_set, List}
use Rattle.std.specs.Prelude.{slice_index}
use Rattle.std.proofs.lemmas.Bool.{cases_lt}
use Rattle.std.proofs.lemmas.Grind.{get_or-set_at}
use Rattle.std.proofs.lemmas.List.{get_or-set_other, length-set}
use Rattle.road_cells.specs.Cars.{cars_of, cell_at}
use Rattle.road_cells.specs.Gap.{ArePartedAt}
use Rattle.road_cells.proofs.CarLists.{rise-cars_from}
use Rattle.road_cells.proofs.CarPlaces.{rise-at}
use Rattle.road_ends.specs.Speed.{speeds}
use Rattle.road_ends.proofs.PassOverCars.{speed_at, speeds_of_piece}
use Rattle.road_ends.proofs.StepByCars.{not_falling}
use Rattle.road_ends.proofs.pass.speeds_between.Goals as goal

pub reached_blocks_below-reached-requires-clause-rising : goal.reached_blocks_below-reached-requires-clause-rising
reached_blocks_below-reached-requires-clause-rising c = rw c.blocks-blocks.ensures (not_falling c.args.at.settings.now.blocks c.args.at.fits.blocks_rise)

pub loop-place-preserved : goal.loop-place-preserved
loop-place-preserved c =
    let p = c.args.at.plan.now in
    let s = c.args.at.settings.now in
    let t = c.args.at.step in
    let a = c.args.road.now in
    let first = c.args.first in
    let end = c.args.end in
    let old = c.loop-place.new.items in
    let here = c.loop-place.place - 1 in
    let reached = c.reached_blocks_below-reached.result in
    let v = c.new_speed.result in
    let within = c.requires.within in
    let test = c.loop-place-test.true in
    let one_each = c.loop-place.invariant.one_each in
    let room : here - first < length old = omega arith in
    let below : here < length (cars_of a) = omega arith in
    let parted : ArePartedAt s.blocks (cell_at (cars_of a) here) reached =
    subst (λ cars. ArePartedAt s.blocks (cell_at cars here) reached) c.cars-cars.ensures.all (subst (λ (bs : List ℕ). ArePartedAt bs (cell_at c.cars-cars.result.now here) reached) c.blocks-blocks.ensures c.reached_blocks_below-reached.ensures.parted) in
    let long = ap length c.blocks-blocks.ensures in
    let most = c.loop-place.invariant.bound in
    let less = c.reached_blocks_below-reached.ensures.bound in
    record {
      one_each = length-set old (here - first) v ∙ one_each;
      done = λ k from to. elim (cases_lt here k) as (λ _. slice_index (slice_set old (here - first) v) (k - first) ≡ slice_index (speeds p s t a) k) [
        | inl past ↦ get_or-set_other old (here - first) (k - first) v 0 (λ is. absurd (omega arith)) ∙ c.loop-place.invariant.done k (omega arith) to
        | inr this ↦
            let is : k ≡ here = omega arith in
            get_or-set_at old (here - first) (k - first) v 0 (ap (λ n. n - first) is) room ∙ c.new_speed.ensures ∙ sym (speed_at p s t a here below) ∙ ap (slice_index (speeds p s t a)) (sym is)
      ];
      bound = omega arith;
      ahead = λ i from inside k before.
          let order = rise-at 0 (cars_of a) k here (rise-cars_from 0 a) before below in
          let far = parted.ahead i from inside in
          omega arith;
    }

pub returns : goal.returns
returns c =
    let last = c.loop-place-test.false in
    speeds_of_piece c.args.at.plan.now c.args.at.settings.now c.args.at.step c.args.road.now c.loop-place.new.items c.args.first c.args.end c.requires.order c.requires.within c.loop-place.invariant.one_each
    (λ k from to. c.loop-place.invariant.done k (omega arith) to)
