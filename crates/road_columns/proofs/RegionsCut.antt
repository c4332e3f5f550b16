-- Regions, one after another, from the first cell on.
use Rattle.std.specs.Prelude.{◌≡◌, ℕ, zero, suc, ◌+◌, ◌<◌, ◌≤◌, List, [], ◌∷◌, ◌++◌, length}
use Rattle.std.proofs.Common.{sym, ap, ◌∙◌, arith, refl, inl, inr, subst}
use Rattle.std.proofs.lemmas.Bool.{cases_lt, cases_eq}
use Rattle.std.specs.List.{slice_index_or}
use Rattle.road_plan.specs.Plan.{Plan, exit_start}
use Rattle.road_plan.specs.Settings.{Settings}
use Rattle.road_columns.specs.Private.Regions.{IsRegionOf, IsRegionTo, region_at}
use Rattle.road_columns.specs.Private.Step.{AreRegionsOf}
use Rattle.road_columns.specs.declared.regions.Region.{Region}

-- regions side by side from the first cell to before `end`
pub record AreRegionsUpTo (p : Plan) (s : Settings) (regions : List Region) (end : ℕ) : Type 0 where
  pub begin : 0 < length regions → (region_at regions 0).first ≡ 0
  pub none : length regions ≡ 0 → end ≡ 0
  pub on_road : (r : ℕ) → r < length regions → (region_at regions r).first < exit_start p
  pub inner : (r : ℕ) → r + 1 < length regions → IsRegionTo p s (region_at regions r) (region_at regions (r + 1)).first
  pub last : (r : ℕ) → r + 1 ≡ length regions → IsRegionTo p s (region_at regions r) end

kept_at : (regions : List Region) (region d : Region) (r : ℕ) → r < length regions → slice_index_or (regions ++ (region ∷ [])) r d ≡ slice_index_or regions r d
kept_at [] region d r below = absurd (omega arith)
kept_at (x ∷ regions) region d zero below = refl
kept_at (x ∷ regions) region d (suc r) below = kept_at regions region d r (omega arith)

added_at : (regions : List Region) (region d : Region) (r : ℕ) → r ≡ length regions → slice_index_or (regions ++ (region ∷ [])) r d ≡ region
added_at [] region d zero is = refl
added_at [] region d (suc r) is = absurd (omega arith)
added_at (x ∷ regions) region d zero is = absurd (omega arith)
added_at (x ∷ regions) region d (suc r) is = added_at regions region d r (omega arith)

longer : (regions : List Region) (region : Region) → length (regions ++ (region ∷ [])) ≡ length regions + 1
longer [] region = refl
longer (x ∷ regions) region = let rest = longer regions region in omega arith

-- one more region extends them
pub one_more : (p : Plan) (s : Settings) (regions : List Region) (region : Region) (first end : ℕ) → region.first ≡ first → first < exit_start p
    → AreRegionsUpTo p s regions first → IsRegionTo p s region end → AreRegionsUpTo p s (regions ++ (region ∷ [])) end
one_more p s regions region first end is_first on_road are is = record {
  begin = λ _. elim (cases_lt 0 (length regions)) as (λ _. (region_at (regions ++ (region ∷ [])) 0).first ≡ 0) [
    | inl some ↦ ap (λ (x : Region). x.first) (kept_at regions region none 0 some) ∙ are.begin some
    | inr empty ↦ ap (λ (x : Region). x.first) (added_at regions region none 0 (omega arith)) ∙ is_first ∙ are.none (omega arith)
  ];
  none = λ empty. let long = longer regions region in absurd (omega arith);
  on_road = λ r below. let long = longer regions region in elim (cases_lt r (length regions)) as (λ _. (region_at (regions ++ (region ∷ [])) r).first < exit_start p) [
    | inl old ↦ let at = ap (λ (x : Region). x.first) (kept_at regions region none r old) in let before = are.on_road r old in omega arith
    | inr new ↦ let at = ap (λ (x : Region). x.first) (added_at regions region none r (omega arith)) in omega arith
  ];
  inner = λ r below. let long = longer regions region in elim (cases_lt (r + 1) (length regions)) as (λ _. IsRegionTo p s (region_at (regions ++ (region ∷ [])) r) (region_at (regions ++ (region ∷ [])) (r + 1)).first) [
    | inl old ↦ subst (λ x. IsRegionTo p s x (region_at (regions ++ (region ∷ [])) (r + 1)).first) (sym (kept_at regions region none r (omega arith)))
        (subst (λ n. IsRegionTo p s (region_at regions r) n) (sym (ap (λ (x : Region). x.first) (kept_at regions region none (r + 1) old))) (are.inner r old))
    | inr new ↦ subst (λ x. IsRegionTo p s x (region_at (regions ++ (region ∷ [])) (r + 1)).first) (sym (kept_at regions region none r (omega arith)))
        (subst (λ n. IsRegionTo p s (region_at regions r) n) (sym (ap (λ (x : Region). x.first) (added_at regions region none (r + 1) (omega arith)) ∙ is_first)) (are.last r (omega arith)))
  ];
  last = λ r last. let long = longer regions region in subst (λ x. IsRegionTo p s x end) (sym (added_at regions region none r (omega arith))) is;
}
  where
    none : Region
    none = record { first = 0; chances = record { limit = 0; standing = 0; moving = 0 }; block = 0 }

-- regions that reach the exit are the regions of the road
pub all_regions : (p : Plan) (s : Settings) (regions : List Region) (end : ℕ) → 0 < exit_start p → exit_start p ≤ end → AreRegionsUpTo p s regions end → AreRegionsOf p s regions
all_regions p s regions end some past are = record {
  some = elim (cases_eq (length regions) 0) as (λ _. 0 < length regions) [
    | inl empty ↦ let none = are.none empty in absurd (omega arith)
    | inr other ↦ omega arith
  ];
  begin = elim (cases_eq (length regions) 0) as (λ _. (region_at regions 0).first ≡ 0) [
    | inl empty ↦ let none = are.none empty in absurd (omega arith)
    | inr other ↦ are.begin (omega arith)
  ];
  rising = λ r below. (are.inner r below).some;
  before_exit = are.on_road;
  each = λ r below. elim (cases_lt (r + 1) (length regions)) as (λ _. IsRegionOf p s regions r) [
    | inl more ↦
        let is = are.inner r more in
        record {
          reached = is.reached;
          limit_allowed = is.limit_allowed;
          alike = λ c in_region on_road. is.alike c in_region.from (in_region.to more) on_road;
          parted = λ c in_region on_road. is.parted c in_region.from (in_region.to more);
          block_is = is.block_is;
          none_is = is.none_is;
        }
    | inr last ↦
        let is = are.last r (omega arith) in
        record {
          reached = is.reached;
          limit_allowed = is.limit_allowed;
          alike = λ c in_region on_road. is.alike c in_region.from (omega arith) on_road;
          parted = λ c in_region on_road. is.parted c in_region.from (omega arith);
          block_is = is.block_is;
          none_is = is.none_is;
        }
  ];
}
