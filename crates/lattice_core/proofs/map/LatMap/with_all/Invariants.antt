-- The loop that joins in the entries of another map.
use Rattle.std.proofs.Common.{◌≡◌, T}
use Rattle.std.specs.FinMap.Entries.{is_sorted}
use Rattle.std.specs.List.{AllByRecursion}
use Rattle.lattice_core.specs.Map.{IsHeld, map_join}
use Rattle.lattice_core.specs.Private.Entries.{ArePages, all_entries}
use Rattle.lattice_core.proofs.map.LatMap.with_all.Given as goal

-- the pages so far, joined with the entries that are left, are the whole join
abbrev pub invariant-loop-key : goal.invariant-loop-key
invariant-loop-key g l = record {
  pages : ArePages l.pages.items;
  rises : T (is_sorted g.K.Ord.cmp (all_entries l.pages.items));
  held : AllByRecursion (λ e. IsHeld g.V.Lattice.is_proper g.V.Lattice.is_least e.1) l.key-iterator;
  joined :
      map_join g.K.Ord.cmp g.V.Lattice.join g.V.Lattice.is_least (all_entries l.pages.items) l.key-iterator
      ≡ map_join g.K.Ord.cmp g.V.Lattice.join g.V.Lattice.is_least l.self l.other;
}
