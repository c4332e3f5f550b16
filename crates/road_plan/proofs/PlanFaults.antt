-- A plan has no fault exactly if it is within the limits.
use Rattle.std.proofs.Common.{◌≡◌, ◌∙◌, ℕ, ◌<◌, ◌≤◌, Bool, true, false, not, List, length, map, nat_eq, nat_lt, nat_le, refl, sym}
use Rattle.std.specs.Prelude.{◌↔◌, if◌then◌else◌, ◌==◌, ◌+◌, ◌-◌}
use Rattle.std.specs.Bool.{Decides}
use Rattle.std.specs.List.{All, IsDistinct, list_all}
use Rattle.std.specs.Set.{distinct_count}
use Rattle.std.specs.declared.option.Option.{Option}
use Rattle.std.specs.declared.option.Option.TheVariants.{None, Some}
use Rattle.std.proofs.lemmas.Bool.{leb-true, le-leb, true≢false}
use Rattle.std.proofs.lemmas.Bool.Decides.{Decides-and, Decides-by_and, Decides-eqb, Decides-ltb}
use Rattle.std.proofs.lemmas.Cmp.{nat_eq_equiv}
use Rattle.std.proofs.lemmas.List.{length-map}
use Rattle.std.proofs.lemmas.Map.Made.{IsDistinct-from_count, distinct_count-from_IsDistinct}
use Rattle.std.proofs.lemmas.Option.{none-some}
use Rattle.road_plan.specs.Plan.{Plan, IsWithinLimits, exit_start, zone_of}
use Rattle.road_plan.specs.Refusals.{fault_of_plan, has_length, has_exit, has_zones, has_inlets, has_detectors, has_defaults}
use Rattle.road_plan.specs.declared.faults.PlanFault.{PlanFault}
use Rattle.road_plan.specs.declared.limits.TheConstants.{LEAST_LENGTH, GREATEST_LENGTH, GREATEST_EXIT, MOST_ZONES, MOST_INLETS, MOST_DETECTORS, GREATEST_LIMIT, CERTAIN}

at_most : (a b : ℕ) → Decides (nat_le a b) (a ≤ b)
at_most a b = (leb-true a b, le-leb a b)

below : (a b : ℕ) → Decides (nat_lt a b) (a < b)
below a b = Decides-ltb a b

each : {X : Type 0} (test : X → Bool) (P : X → Type 0) → ((x : X) → Decides (test x) (P x)) → (xs : List X) → Decides (list_all test xs) (All P xs)
each test P decides xs = Decides-by_and test P (list_all test) decides refl (λ _ _. refl) xs

length_test : (p : Plan) → Decides (has_length p) ((LEAST_LENGTH ≤ p.cells) × (p.cells ≤ GREATEST_LENGTH))
length_test p = Decides-and _ _ (at_most LEAST_LENGTH p.cells) (at_most p.cells GREATEST_LENGTH)

exit_test : (p : Plan) → Decides (has_exit p) (((0 < p.exit) × (p.exit ≤ GREATEST_EXIT)) × (p.exit < p.cells))
exit_test p = Decides-and _ _ (Decides-and _ _ (below 0 p.exit) (at_most p.exit GREATEST_EXIT)) (below p.exit p.cells)

zones_test : (p : Plan) → Decides (has_zones p) (((0 < p.width) × (length p.zones ≤ MOST_ZONES)) × (length p.zones ≡ zone_of p (p.cells - 1) + 1))
zones_test p = Decides-and _ _ (Decides-and _ _ (below 0 p.width) (at_most (length p.zones) MOST_ZONES)) (Decides-eqb (length p.zones) (zone_of p (p.cells - 1) + 1))

-- the inlets have different cells exactly if there are as many different cells as inlets
cells_test : (p : Plan) → Decides (distinct_count nat_eq (map (λ inlet. inlet.0) p.inlets) == length p.inlets) (IsDistinct nat_eq (map (λ inlet. inlet.0) p.inlets))
cells_test p =
    let cells = map (λ inlet. inlet.0) p.inlets in
    let same = Decides-eqb (distinct_count nat_eq cells) (length p.inlets) in (
      λ h. IsDistinct-from_count nat_eq_equiv cells (same.0 h ∙ sym (length-map p.inlets (λ inlet. inlet.0))),
      λ h. same.1 (distinct_count-from_IsDistinct nat_eq_equiv cells h ∙ length-map p.inlets (λ inlet. inlet.0)),
    )

inlets_test : (p : Plan) → Decides (has_inlets p) ((((0 < length p.inlets) × (length p.inlets ≤ MOST_INLETS)) × All (λ inlet. inlet.0 < exit_start p) p.inlets) × IsDistinct nat_eq (map (λ inlet. inlet.0) p.inlets))
inlets_test p =
    let few = Decides-and _ _ (below 0 (length p.inlets)) (at_most (length p.inlets) MOST_INLETS) in
    Decides-and _ _ (Decides-and _ _ few (each _ (λ inlet. inlet.0 < exit_start p) (λ inlet. below inlet.0 (exit_start p)) p.inlets)) (cells_test p)

detectors_test : (p : Plan) → Decides (has_detectors p) ((length p.detectors ≤ MOST_DETECTORS) × All (λ site. (0 < site) × (site < exit_start p)) p.detectors)
detectors_test p =
    Decides-and _ _ (at_most (length p.detectors) MOST_DETECTORS)
    (each _ (λ site. (0 < site) × (site < exit_start p)) (λ site. Decides-and _ _ (below 0 site) (below site (exit_start p))) p.detectors)

defaults_test : (p : Plan) → Decides (has_defaults p) (All (λ zone. (zone.0 ≤ GREATEST_LIMIT) × (zone.1 ≤ CERTAIN)) p.zones × All (λ inlet. inlet.1 ≤ CERTAIN) p.inlets)
defaults_test p =
    Decides-and _ _
    (each _ (λ zone. (zone.0 ≤ GREATEST_LIMIT) × (zone.1 ≤ CERTAIN)) (λ zone. Decides-and _ _ (at_most zone.0 GREATEST_LIMIT) (at_most zone.1 CERTAIN)) p.zones)
    (each _ (λ inlet. inlet.1 ≤ CERTAIN) (λ inlet. at_most inlet.1 CERTAIN) p.inlets)

-- no fault is named exactly if the first test is passed and the others name no fault
passed : (test : Bool) (fault : PlanFault) (others : Option PlanFault) → ((if not test then Some fault else others) ≡ None) ↔ ((test ≡ true) × (others ≡ None))
passed true fault others = (λ h. (refl, h), λ h. h.1)
passed false fault others = (λ h. absurd (none-some fault (sym h)), λ h. absurd (true≢false (sym h.0)))

pub faultless : (p : Plan) → (fault_of_plan p ≡ None) ↔ IsWithinLimits p
faultless p = (within, none)
  where
    within : fault_of_plan p ≡ None → IsWithinLimits p
    within h =
        let past_length = (passed (has_length p) _ _).0 h in
        let past_exit = (passed (has_exit p) _ _).0 past_length.1 in
        let past_zones = (passed (has_zones p) _ _).0 past_exit.1 in
        let past_inlets = (passed (has_inlets p) _ _).0 past_zones.1 in
        let past_detectors = (passed (has_detectors p) _ _).0 past_inlets.1 in
        let past_defaults = (passed (has_defaults p) _ _).0 past_detectors.1 in
        let lengths = (length_test p).0 past_length.0 in
        let exits = (exit_test p).0 past_exit.0 in
        let zones = (zones_test p).0 past_zones.0 in
        let inlets = (inlets_test p).0 past_inlets.0 in
        let detectors = (detectors_test p).0 past_detectors.0 in
        let defaults = (defaults_test p).0 past_defaults.0 in
        record {
          long_enough = lengths.0;
          short_enough = lengths.1;
          has_exit = exits.0.0;
          exit_short = exits.0.1;
          exit_on_road = exits.1;
          wide = zones.0.0;
          few_zones = zones.0.1;
          zone_each = zones.1;
          some_inlet = inlets.0.0.0;
          few_inlets = inlets.0.0.1;
          inlets_apart = inlets.1;
          inlets_before_exit = inlets.0.1;
          few_detectors = detectors.0;
          sites_after_start = λ k d i. (detectors.1 k d i).0;
          sites_before_exit = λ k d i. (detectors.1 k d i).1;
          speed_limits_allowed = λ k d i. (defaults.0 k d i).0;
          chances_allowed = λ k d i. (defaults.0 k d i).1;
          inflows_allowed = defaults.1;
        }

    none : IsWithinLimits p → fault_of_plan p ≡ None
    none w =
        (passed (has_length p) _ _).1 (
          (length_test p).1 (w.long_enough, w.short_enough),
          (passed (has_exit p) _ _).1 (
            (exit_test p).1 ((w.has_exit, w.exit_short), w.exit_on_road),
            (passed (has_zones p) _ _).1 (
              (zones_test p).1 ((w.wide, w.few_zones), w.zone_each),
              (passed (has_inlets p) _ _).1 (
                (inlets_test p).1 (((w.some_inlet, w.few_inlets), w.inlets_before_exit), w.inlets_apart),
                (passed (has_detectors p) _ _).1 (
                  (detectors_test p).1 (w.few_detectors, λ k d i. (w.sites_after_start k d i, w.sites_before_exit k d i)),
                  (passed (has_defaults p) _ _).1 ((defaults_test p).1 (λ k d i. (w.speed_limits_allowed k d i, w.chances_allowed k d i), w.inflows_allowed), refl),
                ),
              ),
            ),
          ),
        )
