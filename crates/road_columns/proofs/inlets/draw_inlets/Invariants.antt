-- The loop over the inlets.
use Rattle.std.proofs.Common.{◌≡◌, ◌+◌, ◌*◌, ◌/◌, ◌<◌, ℕ, length}
use Rattle.road_ends.specs.Entries.{inlet_stream}
use Rattle.road_columns.specs.Private.Drawn.{drawn_word}
use Rattle.road_columns.specs.Private.EnteredList.{high16_in}
use Rattle.road_columns.proofs.inlets.draw_inlets.Given as goal

-- the words of the inlets so far are drawn
abbrev pub invariant-loop-inlet : goal.invariant-loop-inlet
invariant-loop-inlet l = record {
  long : length l.batches ≡ length l.fn.batches;
  words : (i r : ℕ) → i < l.inlet → r < 64 → high16_in l.batches i r ≡ drawn_word l.source (inlet_stream i) (64 * l.interval + r) / 65536;
}
