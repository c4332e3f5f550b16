use Rattle.road_ends.proofs.StepByCars.{not_falling}
use Rattle.tests_steps.proofs.plain.entry_at.Goals as goal

pub is_blocked-requires : goal.is_blocked-requires
is_blocked-requires c = rw c.blocks-2.ensures (not_falling c.args.settings.now.blocks c.requires.blocks_rise)
