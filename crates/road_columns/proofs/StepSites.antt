-- The sites of a step: where each kind of them is in the list, and that all are before the exit.
use Rattle.std.specs.Prelude.{◌≡◌, ℕ, zero, suc, ◌+◌, ◌-◌, ◌<◌, ◌≤◌, List, length, slice_index, slice_range}
use Rattle.std.proofs.Common.{ap, ◌∙◌, arith, refl, inl, inr, subst}
use Rattle.std.proofs.lemmas.Bool.{cases_lt}
use Rattle.std.specs.List.{slice_index_or}
use Rattle.road_plan.specs.Plan.{Plan, IsWithinLimits, exit_start}
use Rattle.road_plan.specs.Settings.{Settings}
use Rattle.road_columns.specs.Private.CarsAt.{IsPlaceAt, from_place}
use Rattle.road_columns.specs.Private.Entered.{AreInOrder}
use Rattle.road_columns.specs.Private.EnteredList.{ArePlacesRising, entered_in, high16_in}
use Rattle.road_columns.specs.Private.Entering.{ArePlacesFrom}
use Rattle.road_columns.specs.Private.Regions.{region_at}
use Rattle.road_columns.specs.Private.Step.{AreRegionsOf, AreSitesOf}
use Rattle.road_columns.specs.declared.regions.Region.{Region}
use Rattle.road_columns.proofs.ColumnPlaces.{range_at, same_place}
use Rattle.road_columns.proofs.EnteredLists.{all_at}

-- a place in a rising list is at least its index
pub rises_from : (n : ℕ) (xs : List ℕ) → ArePlacesRising n xs → (i : ℕ) → i < n → i ≤ slice_index xs i
rises_from n xs rising zero below = omega arith
rises_from n xs rising (suc i) below =
    let earlier = rises_from n xs rising i (omega arith) in
    let next = rising.rising i (suc i) (omega arith) below in omega arith

-- the cars that have entered between others are before the tail
pub stand_before : (n tail : ℕ) (beside : List ℕ) (batches : List (List ℕ)) → AreInOrder (entered_in n beside batches) tail → (i : ℕ) → i < n → slice_index beside i < tail
stand_before n tail beside batches order i below = all_at (λ car. car.place < tail) n (slice_index beside) (high16_in batches) order.low i below

module _ (p : Plan) (regions : List Region) (sites : List ℕ) (are : AreSitesOf p regions sites) where
  -- the places of the regions, as a part of all
  module _ (cells places : List ℕ) (head tail : ℕ) (kept : ArePlacesFrom cells head tail sites places) (start : ℕ) (starts : start ≡ length p.inlets + length p.detectors) where
    end_at : (r : ℕ) → r < length regions → slice_index (slice_range places start (length sites)) r ≡ slice_index places (start + r)
    end_at r below = let many = are.as_many in range_at places start (length sites) r (omega arith)

    pub ends_from : (r : ℕ) → r < length regions → head ≤ slice_index (slice_range places start (length sites)) r
    ends_from r below =
        let many = are.as_many in
        let at = end_at r below in
        let from = kept.from (start + r) (omega arith) in omega arith

    pub ends_each : (r : ℕ) → r < length regions → IsPlaceAt (tail - head) (from_place cells head) (region_at regions r).first (slice_index (slice_range places start (length sites)) r - head)
    ends_each r below =
        let many = are.as_many in
        let same : start + r ≡ length p.inlets + length p.detectors + r = omega arith in
        subst (λ site. IsPlaceAt (tail - head) (from_place cells head) site (slice_index (slice_range places start (length sites)) r - head)) (ap (slice_index sites) same ∙ are.firsts r below)
        (same_place (tail - head) (tail - head) (from_place cells head) (from_place cells head) (slice_index sites (start + r)) (slice_index places (start + r) - head)
        (slice_index (slice_range places start (length sites)) r - head) refl (ap (λ n. n - head) (end_at r below)) (λ _ _. refl) (kept.each (start + r) (omega arith)))

  -- all sites are before the exit
  pub sites_before_exit : (s : Settings) → IsWithinLimits p → AreRegionsOf p s regions → (d : ℕ) → d < length sites → slice_index sites d ≤ exit_start p
  sites_before_exit s within are_regions d below =
      let many = are.as_many in
      elim (cases_lt d (length p.inlets)) as (λ _. slice_index sites d ≤ exit_start p) [
        | inl inlet ↦
            let is = are.inlets d inlet in
            let before : (slice_index_or p.inlets d (0, 0)).0 < exit_start p = within.inlets_before_exit d (0, 0) inlet in omega arith
        | inr later ↦ elim (cases_lt d (length p.inlets + length p.detectors)) as (λ _. slice_index sites d ≤ exit_start p) [
          | inl detector ↦
              let here : length p.inlets + (d - length p.inlets) ≡ d = omega arith in
              let at = ap (slice_index sites) here in
              let is = are.detectors (d - length p.inlets) (omega arith) in
              let before : slice_index p.detectors (d - length p.inlets) < exit_start p = within.sites_before_exit (d - length p.inlets) 0 (omega arith) in omega arith
          | inr region ↦
              let here : length p.inlets + length p.detectors + (d - (length p.inlets + length p.detectors)) ≡ d = omega arith in
              let at = ap (slice_index sites) here in
              let is = are.firsts (d - (length p.inlets + length p.detectors)) (omega arith) in
              let before = are_regions.before_exit (d - (length p.inlets + length p.detectors)) (omega arith) in omega arith
        ]
      ]

  -- the places of the detectors
  module _ (cells places : List ℕ) (head tail : ℕ) (kept : ArePlacesFrom cells head tail sites places) (start : ℕ) (starts : start ≡ length p.inlets) where
    pub detector_from : (d : ℕ) → d < length p.detectors → head ≤ slice_index places (start + d)
    detector_from d below = let many = are.as_many in kept.from (start + d) (omega arith)

    pub detector_to : (d : ℕ) → d < length p.detectors → head ≤ tail → slice_index places (start + d) ≤ tail
    detector_to d below order =
        let many = are.as_many in
        let within = (kept.each (start + d) (omega arith)).within in
        let from = kept.from (start + d) (omega arith) in omega arith

    pub detector_site : (d : ℕ) → d < length p.detectors → slice_index sites (start + d) ≡ slice_index p.detectors d
    detector_site d below = let same : start + d ≡ length p.inlets + d = omega arith in ap (slice_index sites) same ∙ are.detectors d below

    pub detector_each : (d : ℕ) → d < length p.detectors → IsPlaceAt (tail - head) (from_place cells head) (slice_index p.detectors d) (slice_index places (start + d) - head)
    detector_each d below =
        let many = are.as_many in
        subst (λ site. IsPlaceAt (tail - head) (from_place cells head) site (slice_index places (start + d) - head)) (detector_site d below) (kept.each (start + d) (omega arith))
