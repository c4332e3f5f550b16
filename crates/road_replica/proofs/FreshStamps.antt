-- A stamp whose count is above all held counts is greater than each held stamp.
use Rattle.std.proofs.Common.{◌≡◌, ◌≤◌, ℕ, suc, sym, subst, arith, true}
use Rattle.std.specs.declared.cmp.Ordering.{Ordering}
use Rattle.std.specs.declared.cmp.Ordering.TheVariants.{Less}
use Rattle.std.specs.Ordering.{nat_cmp, ordering_then}
use Rattle.std.proofs.lemmas.Bool.Decides.{nat_tests}
use Rattle.lattice_core.specs.Sets.{contains}
use Rattle.road_scenario.proofs.GreatestCounts.{upper_in}
use Rattle.road_scenario.specs.Counts.{greatest_count}
use Rattle.road_scenario.specs.Edits.{Edits, number_pair_cmp, stamp_key}
use Rattle.road_plan.specs.declared.object.Object.{Object}
use Rattle.road_scenario.specs.declared.edit.Edit.{Edit}
use Rattle.road_scenario.specs.declared.edit.Stamp.{Stamp}
use Rattle.road_scenario.specs.declared.edit.Value.{Value}
use Rattle.road_replica.specs.Replicas.{Replica, edit_made}

-- the smaller count decides, whatever the numbers
less_by_count : (n m : ℕ) (numbers : Ordering) → n ≤ m → ordering_then (nat_cmp n (suc m)) numbers ≡ Less
less_by_count n m numbers below = grind (arith, nat_tests)

next_count_is_fresh : (edits : Edits) (number : ℕ) (e : Edit) → contains edits e ≡ true → number_pair_cmp (stamp_key e.stamp) (suc (greatest_count edits), number) ≡ Less
next_count_is_fresh edits number e held =
    less_by_count e.stamp.count (greatest_count edits) (nat_cmp e.stamp.number number) (upper_in edits e held)

-- the edit that a replica makes has a fresh stamp
pub made_stamp_is_fresh : (r : Replica) (object : Object) (step : ℕ) (value : Value) (stamp : Stamp) → stamp ≡ (edit_made r object step value).stamp → (e : Edit) → contains r.sheet.edits e ≡ true → number_pair_cmp (stamp_key e.stamp) (stamp_key stamp) ≡ Less
made_stamp_is_fresh r object step value stamp is e held =
    subst (λ (s : Stamp). number_pair_cmp (stamp_key e.stamp) (stamp_key s) ≡ Less) (sym is) (next_count_is_fresh r.sheet.edits r.number e held)
