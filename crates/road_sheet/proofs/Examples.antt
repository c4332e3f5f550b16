-- Worked examples, computed from the definitions: where the draft of a run up to step 130 resumes.
use Rattle.std.specs.Prelude.{◌≡◌, refl}
use Rattle.road_sheet.specs.Drafts.{draft_start}

-- at the horizon, if no step before it is touched
touched_nowhere : draft_start 130 130 ≡ 130
touched_nowhere = refl

-- else at the checkpoint at or before the touched step, a multiple of 64
touched_before_horizon : draft_start 130 129 ≡ 128
touched_before_horizon = refl

touched_after_checkpoint : draft_start 130 70 ≡ 64
touched_after_checkpoint = refl

touched_at_checkpoint : draft_start 130 64 ≡ 64
touched_at_checkpoint = refl

touched_before_checkpoint : draft_start 130 63 ≡ 0
touched_before_checkpoint = refl

-- the last checkpoint of the longest run
touched_last : draft_start 1048576 1048575 ≡ 1048512
touched_last = refl
