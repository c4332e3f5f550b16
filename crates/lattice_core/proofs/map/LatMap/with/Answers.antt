-- The value is joined in at its key, and a bottom adds nothing.
use Rattle.std.proofs.Common.{◌≡◌, List, ◌∙◌, ap, cond, sym, subst}
use Rattle.std.specs.Arc.{arc_value}
use Rattle.std.specs.Vec.{vec_items}
use Rattle.lattice_core.specs.Map.{IsProperMap, map_with}
use Rattle.lattice_core.specs.Instances.JoinedMaps.{proper-map_with}
use Rattle.lattice_core.specs.Private.Entries.{ArePages, all_entries, put_joined}
use Rattle.lattice_core.proofs.map.LatMap.with.Given as given
use Rattle.lattice_core.proofs.map.LatMap.with.Goals as goal

made : (g : given.Over) (c : goal.After-result-1 g)
    → all_entries (vec_items (arc_value c.in_ok-pages-2.pages)) ≡ map_with g.K.Ord.cmp g.V.Lattice.join g.V.Lattice.is_least c.args.self.now c.args.key c.args.value.now
made g c =
    let joined = λ (es : List (g.row.K.Denot × g.row.V.Denot)). put_joined g.K.Ord.cmp g.V.Lattice.join es c.args.key c.args.value.now in
    ap (λ v. all_entries (vec_items v)) c.in_ok-pages-2.ensures.ok
    ∙ c.in_ok-join_in.ensures.joined
    ∙ ap (λ ps. joined (all_entries ps)) c.in_ok-pages.ensures
    ∙ ap joined c.pages.ensures.all
    ∙ ap (λ b. cond b c.args.self.now (joined c.args.self.now)) (sym (sym c.is_bottom.ensures.least ∙ c.if-is_bottom.false))

pub invariant_of-result : goal.invariant_of-result
invariant_of-result g c =
    let is_map = IsProperMap g.K.Ord.cmp g.V.Lattice.is_proper g.V.Lattice.is_least in
    record {
      pages = subst (λ v. ArePages (vec_items v)) (sym c.in_ok-pages-2.ensures.ok) c.in_ok-join_in.ensures.pages;
      proper =
          subst is_map (sym (made g c))
          (proper-map_with g.K.Ord.cmp g.met.K.Ord.total g.met.K.Exact.exact g.V.Lattice.is_proper g.V.Lattice.join g.V.Lattice.is_least g.met.V.Lattice.laws
          c.args.self.now c.args.key c.args.value.now (subst is_map c.pages.ensures.all c.pages.ensures.paged.proper) c.is_bottom.ensures.proper);
    }
