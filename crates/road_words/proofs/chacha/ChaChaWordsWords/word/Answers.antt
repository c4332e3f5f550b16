-- The generator's word at this place of this stream.
use Rattle.std.proofs.Common.{rules}
use Rattle.road_words.proofs.chacha.ChaChaWordsWords.word.Goals as goal

pub returns : goal.returns
returns c = search rules
