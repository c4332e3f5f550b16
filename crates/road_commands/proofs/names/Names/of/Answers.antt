-- The next name is new.
use Rattle.road_format.specs.Views.{texts}
use Rattle.road_commands.proofs.NameNumbers.{next_free, next_put}
use Rattle.road_commands.proofs.names.Names.of.Goals as goal

pub add-requires : goal.add-requires
add-requires g c =
    next_free (texts c.args.names.items) c.loop-name.numbered c.loop-name.name-iterator.rest.items c.next.new.self.rest.items c.in-Some.name
    c.requires c.loop-name.invariant c.in-Some.ensures.steps.0

pub loop-name-preserved : goal.loop-name-preserved
loop-name-preserved g c =
    next_put (texts c.args.names.items) c.loop-name.numbered c.add.new.self c.loop-name.name-iterator.rest.items c.next.new.self.rest.items c.in-Some.name
    c.loop-name.invariant c.in-Some.ensures.steps.0 c.in_ok-add.ensures.after
