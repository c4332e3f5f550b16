-- The join is the same in either order.
use Rattle.std.proofs.Common.{◌≡◌, ◌∙◌, subst}
use Rattle.std.proofs.lemmas.Result.{IfOk-weaker}
use Rattle.lattice_core.specs.Map.{IsProperMap, map_join}
use Rattle.lattice_core.specs.Instances.JoinedMaps.{map_laws}
use Rattle.lattice_core.proofs.map.LatMapLattice.joined.Goals as goal

pub returns-then-pages-clause-made : goal.returns-then-pages-clause-made
returns-then-pages-clause-made g c =
    let is_map = IsProperMap g.K.Ord.cmp g.V.Lattice.is_proper g.V.Lattice.is_least in
    let both = map_join g.K.Ord.cmp g.V.Lattice.join g.V.Lattice.is_least in
    let laws = map_laws g.K.Ord.cmp g.met.K.Ord.total g.met.K.Exact.exact g.V.Lattice.is_proper g.V.Lattice.join g.V.Lattice.is_least g.met.V.Lattice.laws in
    let same = laws.commutative c.args.other.now c.args.self.now (subst is_map c.pages-2.ensures.all c.pages-2.ensures.paged.proper) (subst is_map c.pages.ensures.all c.pages.ensures.paged.proper) in
    IfOk-weaker c.with_all.result (λ new. new ≡ both c.args.other.now c.args.self.now) (λ joined. joined ≡ both c.args.self.now c.args.other.now)
    (λ new is. is ∙ same) c.with_all.ensures
