-- The cells so far rise.
use Rattle.std.proofs.Common.{ℕ, ◌+◌, ◌<◌}
use Rattle.std.specs.Prelude.{slice_index}
use Rattle.road_plan.proofs.settings.do_rise.Given as goal

abbrev pub invariant-loop-place : goal.invariant-loop-place
invariant-loop-place l = (i : ℕ) → i + 1 < l.place → slice_index l.cells i < slice_index l.cells (i + 1)
