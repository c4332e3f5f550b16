-- The event of a certain chance happens whatever the word.
use Rattle.road_words.proofs.WordSizes.{word-small}
use Rattle.road_words.specs.Words.{word}
use Rattle.road_ends.proofs.ChanceEvents.{certain}
use Rattle.road_ends.proofs.chance.has_event.Goals as goal

pub returns-then-chance-ge-CERTAIN : goal.returns-then-chance-ge-CERTAIN
returns-then-chance-ge-CERTAIN c =
    let kind = c.args.plan.now.words in
    certain (word kind c.args.stream c.args.place) c.args.chance (word-small kind c.args.stream c.args.place) c.if-chance-ge-CERTAIN.true
