-- The loop that shares the pages.
use Rattle.std.proofs.Common.{◌≡◌, take}
use Rattle.lattice_core.proofs.pages.share.Given as goal

-- the pages before the place are shared
abbrev pub invariant-loop-first : goal.invariant-loop-first
invariant-loop-first g l = l.same.items ≡ take l.first-index l.pages
