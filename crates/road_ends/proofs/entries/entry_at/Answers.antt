-- The blocks of settings that fit rise.
use Rattle.road_ends.proofs.StepByCars.{not_falling}
use Rattle.road_ends.proofs.entries.entry_at.Goals as goal

pub is_blocked-requires : goal.is_blocked-requires
is_blocked-requires c = rw c.blocks-2.ensures (not_falling c.args.at.settings.now.blocks c.args.at.fits.blocks_rise)
