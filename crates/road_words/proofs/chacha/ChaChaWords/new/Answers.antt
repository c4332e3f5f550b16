-- The key of the seed.
use Rattle.std.proofs.Common.{rules}
use Rattle.road_words.proofs.chacha.ChaChaWords.new.Goals as goal

pub returns : goal.returns
returns c = search rules
