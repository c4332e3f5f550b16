-- Each turn joins in one more entry, so all are joined in at the end.
use Rattle.std.proofs.Common.{◌≡◌, ◌∙◌, T, ap, sym, subst}
use Rattle.std.specs.Arc.{arc_value}
use Rattle.std.specs.FinMap.Entries.{find, is_sorted, is_sorted-put}
use Rattle.std.specs.List.{AllByRecursion}
use Rattle.std.specs.Vec.{vec_items}
use Rattle.lattice_core.specs.Map.{IsHeld, IsProperMap, join_option, map_join}
use Rattle.lattice_core.specs.Instances.JoinedMaps.{proper-map_join}
use Rattle.lattice_core.specs.Private.Entries.{ArePages, all_entries}
use Rattle.lattice_core.proofs.MapJoins.{joined_turn}
use Rattle.lattice_core.proofs.map.LatMap.with_all.Given as given
use Rattle.lattice_core.proofs.map.LatMap.with_all.Goals as goal

pub loop-key-preserved : goal.loop-key-preserved
loop-key-preserved g c =
    let cmp = g.K.Ord.cmp in
    let are_held = AllByRecursion (λ e. IsHeld g.V.Lattice.is_proper g.V.Lattice.is_least e.1) in
    let es = all_entries c.loop-key.pages.items in
    record {
      pages = c.in_ok-join_in.ensures.pages;
      rises =
          subst (λ x. T (is_sorted cmp x)) (sym c.in_ok-join_in.ensures.joined)
          (is_sorted-put cmp g.met.K.Ord.total c.in-Some.key.now (join_option g.V.Lattice.join (find cmp c.in-Some.key.now es) c.in-Some.value.now) es c.loop-key.invariant.rises);
      held = (subst are_held c.in-Some.ensures.steps c.loop-key.invariant.held).1;
      joined =
          joined_turn cmp g.met.K.Ord.total g.met.K.Exact.exact g.V.Lattice.is_proper g.V.Lattice.join g.V.Lattice.is_least g.met.V.Lattice.laws
          es (all_entries c.join_in.new.pages.items) c.loop-key.key-iterator c.next.new.self
          (map_join cmp g.V.Lattice.join g.V.Lattice.is_least c.args.self.now c.args.other.now) c.in-Some.key.now c.in-Some.value.now
          c.in-Some.ensures.steps c.loop-key.invariant.held c.loop-key.invariant.joined c.in_ok-join_in.ensures.joined;
    }

made : (g : given.Over) (c : goal.After-result-1 g)
    → all_entries (vec_items (arc_value c.in_ok-pages-2.pages)) ≡ map_join g.K.Ord.cmp g.V.Lattice.join g.V.Lattice.is_least c.args.self.now c.args.other.now
made g c =
    ap (λ v. all_entries (vec_items v)) c.in_ok-pages-2.ensures.ok
    ∙ ap (map_join g.K.Ord.cmp g.V.Lattice.join g.V.Lattice.is_least (all_entries c.loop-key.pages.items)) (sym c.in-None.ensures.steps.0) ∙ c.loop-key.invariant.joined

pub invariant_of-result : goal.invariant_of-result
invariant_of-result g c =
    let is_map = IsProperMap g.K.Ord.cmp g.V.Lattice.is_proper g.V.Lattice.is_least in
    record {
      pages = subst (λ v. ArePages (vec_items v)) (sym c.in_ok-pages-2.ensures.ok) c.loop-key.invariant.pages;
      proper =
          subst is_map (sym (made g c))
          (proper-map_join g.K.Ord.cmp g.met.K.Ord.total g.met.K.Exact.exact g.V.Lattice.is_proper g.V.Lattice.join g.V.Lattice.is_least g.met.V.Lattice.laws
          c.args.self.now c.args.other.now (subst is_map c.pages.ensures.all c.pages.ensures.paged.proper) c.iter-key-items.ensures.proper);
    }
