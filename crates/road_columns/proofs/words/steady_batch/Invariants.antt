-- The loop that writes a batch of steady words.
use Rattle.std.proofs.Common.{◌≡◌, ◌<◌, ◌+◌, ◌*◌, ◌/◌, ℕ, length, slice_index}
use Rattle.road_words.specs.Words.{steady_word}
use Rattle.road_columns.specs.Private.Lanes.{place_of}
use Rattle.road_columns.proofs.words.steady_batch.Given as goal

-- the words so far
abbrev pub invariant-loop-index : goal.invariant-loop-index
invariant-loop-index l = record {
  long : length l.high16s ≡ 64;
  drawn : (i : ℕ) → i < l.index → slice_index l.high16s i ≡ steady_word l.stream (64 * l.interval + place_of i) / 65536;
}
