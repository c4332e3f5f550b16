-- The last number of one more object goes into the settings.
use Rattle.road_scenario.specs.Private.RegisterWalks.{settings_with_last_numbers}
use Rattle.road_scenario.proofs.WalkedSettings.{put_turn, place_turn}
use Rattle.road_scenario.proofs.settings.put_last_numbers.Goals as goal

pub loop-object-preserved-in-Continue-1 : goal.loop-object-preserved-in-Continue-1
loop-object-preserved-in-Continue-1 c = record {
  whole = put_turn c.args.step c.loop-object.settings c.put_number.new.settings (settings_with_last_numbers c.args.step c.args.settings.now c.args.registers.now) c.loop-object.object-iterator c.next.new.self c.in-Some.object.now c.in-Some.steps.now c.in-Some-last_put.number c.last_put.result
      c.in-Some.ensures.steps c.in_ok-put_number-in-Some-last_put.ensures.put c.last_put.ensures c.in-Some-last_put.is c.loop-object.invariant.whole;
  places = place_turn c.loop-object.settings c.put_number.new.settings c.loop-object.object-iterator c.next.new.self c.in-Some.object.now c.in-Some.steps.now c.in-Some-last_put.number c.in-Some.ensures.steps c.in_ok-put_number-in-Some-last_put.ensures.put c.loop-object.invariant.places;
}
