-- The headline: a world that holds the winners of the edits of some events shows their runs, and refuses no query about
-- a step it has simulated.
use Rattle.std.proofs.Common.{◌≡◌, ◌≤◌, ◌<◌, ℕ, List, length, Bool, false, Some, None, refl, ap, sym, ◌∙◌, arith}
use Rattle.std.specs.Prelude.{Result, nat_lt, not, if◌then◌else◌}
use Rattle.std.specs.Option.{option_map}
use Rattle.std.proofs.lemmas.Bool.Decides.{nat_tests}
use Rattle.road_plan.specs.Plan.{Plan}
use Rattle.road_scenario.specs.Edits.{Edits}
use Rattle.road_scenario.specs.Winners.{winners}
use Rattle.road_sheet.specs.Sheets.{Sheet, is_out_of_range, state_of, rows_of, total_of}
use Rattle.road_sheet.specs.Shown.{run_at, rows_at, total_at}
use Rattle.road_replica.specs.Refusals.{state_fault, rows_fault, totals_fault, query_fault}
use Rattle.road_replica.specs.declared.reply.Reply.{Reply}
use Rattle.road_sheet.specs.declared.faults.SheetFault.{SheetFault}
use Rattle.road_sheet.specs.declared.faults.SheetFault.TheVariants as sheet_faults
use Rattle.road_world.specs.Answers.{sheet_at}
use Rattle.road_world.specs.Events.{World, WorldReplica, world_of_events, replica_after_events, world_of_winners}
use Rattle.road_world.specs.Headline.{Headline}
use Rattle.road_world.specs.declared.event.Event.{Event}
use Rattle.road_world.specs.declared.faults.WorldFault.{WorldFault}
use Rattle.road_world.proofs.EventLists.{plan-of_events, replicas-of_winners}
use Rattle.road_world.proofs.WinnersSuffice.{replica-of_winners}

-- ---- queries that are not refused

-- a step up to the horizon is not above it
not_above : (step horizon : ℕ) → step ≤ horizon → nat_lt horizon step ≡ false
not_above step horizon below = grind (arith, nat_tests)

-- a number below another passes the test that refuses the others
within : (n m : ℕ) → n < m → not (nat_lt n m) ≡ false
within n m below = grind (arith, nat_tests)

-- if each of three tests fails, no cause is named
none_of_three : (a b c : Bool) (x y z : SheetFault) → a ≡ false → b ≡ false → c ≡ false
    → option_map query_fault (if a then Some x else (if b then Some y else (if c then Some z else None))) ≡ None
none_of_three a b c x y z p q r = rw p (rw q (rw r refl))

-- if each of two tests fails, no cause is named
none_of_two : (a b : Bool) (x y : SheetFault) → a ≡ false → b ≡ false → option_map query_fault (if a then Some x else (if b then Some y else None)) ≡ None
none_of_two a b x y p q = rw p (rw q refl)

-- if one test fails, no cause is named
none_of_one : (a : Bool) (x : SheetFault) → a ≡ false → option_map query_fault (if a then Some x else None) ≡ None
none_of_one a x p = rw p refl

-- a state of a simulated step is not refused
pub state_answered : (s : Sheet) (step : ℕ) → step ≤ s.horizon → state_fault s step ≡ None
state_answered s step below = none_of_one (nat_lt s.horizon step) sheet_faults.NotSimulated (not_above step s.horizon below)

-- rows of simulated steps are not refused, if there are no more of them than a diagram may have
pub rows_answered : (s : Sheet) (from to : ℕ) → is_out_of_range from to ≡ false → to ≤ s.horizon → rows_fault s from to ≡ None
rows_answered s from to range below =
    none_of_two (is_out_of_range from to) (nat_lt s.horizon to) sheet_faults.Range sheet_faults.NotSimulated range (not_above to s.horizon below)

-- a detector's totals of simulated steps are not refused
pub totals_answered : (s : Sheet) (detector from to : ℕ) → detector < length s.plan.detectors → from ≤ to → to ≤ s.horizon → totals_fault s detector from to ≡ None
totals_answered s detector from to has ordered below =
    none_of_three (not (nat_lt detector (length s.plan.detectors))) (nat_lt to from) (nat_lt s.horizon to) sheet_faults.NoDetector sheet_faults.Range sheet_faults.NotSimulated
    (within detector (length s.plan.detectors) has) (not_above from to ordered) (not_above to s.horizon below)

-- ---- what a world of winners shows

module _ (plan : Plan) (count : ℕ) (events : List Event) (replies : List (Result Reply WorldFault)) (world : World) (holds : world ≡ world_of_winners (world_of_events plan count events replies)) where
  -- the effect of the events on each replica
  abbrev past : ℕ → WorldReplica
  past r = replica_after_events plan count events replies r

  -- the sheet that each replica must show
  abbrev shown : ℕ → Sheet
  shown r = record { plan = plan; edits = winners (past r).edits; horizon = (past r).horizon }

  -- each replica's sheet is the one that it must show
  sheet_is : (r : ℕ) → sheet_at world r ≡ shown r
  sheet_is r =
      let made = world_of_events plan count events replies in
      ap (λ (w : World). sheet_at w r) holds
      ∙ ap (λ (x : WorldReplica). let s : Sheet = record { plan = made.plan; edits = x.edits; horizon = x.horizon } in s) (replica-of_winners made r)
      ∙ ap (λ (p : Plan). let s : Sheet = record { plan = p; edits = winners (past r).edits; horizon = (past r).horizon } in s) (plan-of_events plan count events replies)

  -- a function of a sheet's plan and edits has the same value at replicas that the same edits reached
  same_of_both : (r s : ℕ) → (past r).edits ≡ (past s).edits → {A : Type 0} (read : Plan → Edits → A) → read (sheet_at world r).plan (sheet_at world r).edits ≡ read (sheet_at world s).plan (sheet_at world s).edits
  same_of_both r s e read =
      ap (λ (x : Sheet). read x.plan x.edits) (sheet_is r) ∙ ap (λ (t : Edits). read plan (winners t)) e
      ∙ sym (ap (λ (x : Sheet). read x.plan x.edits) (sheet_is s))

  -- the headline, given that the world holds the winners of the edits of the events
  pub headline : Headline plan count events replies world
  headline = record {
    same_plan = ap (λ (w : World). w.plan) holds ∙ plan-of_events plan count events replies;
    replicas = ap (λ (w : World). length w.replicas) holds ∙ replicas-of_winners plan count events replies;
    scenario = λ r b. ap (λ (x : Sheet). x.edits) (sheet_is r);
    simulated = λ r b. ap (λ (x : Sheet). x.horizon) (sheet_is r);
    cells = λ r step b below. record {
      answered = ap (λ (x : Sheet). state_fault x step) (sheet_is r) ∙ state_answered (shown r) step below;
      same = ap (λ (x : Sheet). state_of x step) (sheet_is r);
    };
    rows = λ r from to b range below. record {
      answered = ap (λ (x : Sheet). rows_fault x from to) (sheet_is r) ∙ rows_answered (shown r) from to range below;
      same = ap (λ (x : Sheet). rows_of x from to) (sheet_is r);
    };
    counts = λ r detector from to b has ordered below. record {
      answered = ap (λ (x : Sheet). totals_fault x detector from to) (sheet_is r) ∙ totals_answered (shown r) detector from to has ordered below;
      same = ap (λ (x : Sheet). total_of x detector from to) (sheet_is r);
    };
    same_cells = λ r s step b c e p q. same_of_both r s e (λ x edits. run_at x edits step);
    same_rows = λ r s from to b c e p q. same_of_both r s e (λ x edits. rows_at x edits from to);
    same_counts = λ r s detector from to b c e p q. same_of_both r s e (λ x edits. total_at x edits detector from to);
  }
