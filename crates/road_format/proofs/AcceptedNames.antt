-- The names of replicas, and facts about names that pass the check.
use Rattle.std.proofs.Common.{◌≡◌, ◌≤◌, ◌==◌, ◌&&◌, List, ◌∷◌, Bool, true, false, not, cond, suc, length, refl, arith, string_bytes, String, nat_lt}
use Rattle.std.specs.declared.alloc.Global.{Global}
use Rattle.std.specs.List.{list_any, IsDistinct}
use Rattle.std.specs.Set.{distinct_count, unique_keys}
use Rattle.std.specs.Str.{bytes_eq}
use Rattle.std.proofs.lemmas.Bool.{leb-true, eqb-true}
use Rattle.std.proofs.lemmas.Bool.Decides.{nat_tests}
use Rattle.std.proofs.lemmas.Cmp.{nat_list_eq_equiv}
use Rattle.std.proofs.lemmas.List.{length-map}
use Rattle.std.proofs.lemmas.Map.Made.{distinct_count-le, IsDistinct-from_count}
use Rattle.road_plan.specs.declared.limits.TheConstants.{MOST_REPLICAS}
use Rattle.road_format.specs.PlanGrammar.{are_names}
use Rattle.road_format.specs.Views.{texts}

-- one more element makes one more different element if it is not among the others
one_more : {X : Type 0} (among : Bool) (x : X) (unique others : List X) → length unique ≤ length others
    → (length (cond among unique (x ∷ unique)) == suc (length others)) ≡ (not among && (length unique == length others))
one_more true x unique others few = grind (arith, nat_tests)
one_more false x unique others few = grind (arith, nat_tests)

-- names differ if no other name equals the first, and the others differ
pub first_and_others : (names : List (String Global)) (first : String Global) (others : List (String Global)) → names ≡ first ∷ others
    → (distinct_count bytes_eq (texts names) == length (texts names)) ≡ (not (list_any (bytes_eq (string_bytes first)) (texts others)) && (distinct_count bytes_eq (texts others) == length (texts others)))
first_and_others names first others is =
    rw is (one_more (list_any (bytes_eq (string_bytes first)) (texts others)) (string_bytes first) (unique_keys bytes_eq (texts others)) (texts others) (distinct_count-le bytes_eq (texts others)))

left : (a b : Bool) → (a && b) ≡ true → a ≡ true
left true b e = refl
left false b e = e

right : (a b : Bool) → (a && b) ≡ true → b ≡ true
right true b e = e
right false b e = absurd (cc)

pub names_are_few : (names : List (String Global)) → are_names (texts names) ≡ true → length names ≤ MOST_REPLICAS
names_are_few names are =
    let few : length (texts names) ≤ MOST_REPLICAS = leb-true (length (texts names)) MOST_REPLICAS (right (nat_lt 0 (length (texts names))) _ (left _ _ (left _ _ are))) in
    omega (arith, length-map names string_bytes)

pub names_are_different : (names : List (String Global)) → are_names (texts names) ≡ true → IsDistinct bytes_eq (texts names)
names_are_different names are =
    IsDistinct-from_count nat_list_eq_equiv (texts names) (eqb-true (distinct_count bytes_eq (texts names)) (length (texts names)) (right _ _ are))
