-- A value that is found is not a bottom.
use Rattle.lattice_core.specs.Private.Entries.{all_entries}
use Rattle.lattice_core.proofs.MapJoins.{held-found}
use Rattle.lattice_core.proofs.map.LatMap.get.Goals as goal

pub returns-clause-held : goal.returns-clause-held
returns-clause-held g c =
    held-found g.K.Ord.cmp g.met.K.Ord.total g.met.K.Exact.exact g.V.Lattice.is_proper g.V.Lattice.join g.V.Lattice.is_least g.met.V.Lattice.laws
    c.args.key (all_entries c.pages.result.now) c.pages.ensures.paged.proper c.value_in.result c.value_in.ensures
