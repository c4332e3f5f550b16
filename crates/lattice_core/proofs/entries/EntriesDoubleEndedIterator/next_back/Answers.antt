-- The entries of the last page come after those of the other pages.
use Rattle.lattice_core.proofs.KeyPages.{all_entries-last}
use Rattle.lattice_core.proofs.entries.EntriesDoubleEndedIterator.next_back.Goals as goal

pub walk-preserved : goal.walk-preserved
walk-preserved g c =
    all_entries-last c.walk.self-inside.front.now c.walk.self-inside.pages.now c.in-Some-split_last.others.now c.in-Some-split_last.field-0-0.now c.walk.self-inside.back.now c.entries-self-inside.result.now c.args.self.now
    c.in-Some-split_last.ensures.cases.0 c.in_default.ensures.0 c.entries-self-inside.ensures.all c.walk.invariant
