-- The loop goes from page to page until one has an entry left.
use Rattle.std.proofs.Common.{◌≡◌, ◌++◌, length}
use Rattle.lattice_core.specs.Private.Entries.{all_entries}
use Rattle.lattice_core.proofs.entries.EntriesDoubleEndedIterator.next_back.Given as goal

-- the same entries are left
abbrev pub invariant-walk : goal.invariant-walk
invariant-walk g l = l.self-inside.front.now ++ (all_entries l.self-inside.pages.now ++ l.self-inside.back.now) ≡ l.fn.self

abbrev pub decreases-walk : goal.decreases-walk
decreases-walk g l = length l.self-inside.pages.now
