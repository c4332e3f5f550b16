-- The loop that copies the entries.
use Rattle.std.proofs.Common.{◌≡◌, take}
use Rattle.lattice_core.proofs.page.copied.Given as goal

-- the entries before the place are copied
abbrev pub invariant-loop-key : goal.invariant-loop-key
invariant-loop-key g l = l.copies.items ≡ take l.key-index l.entries
