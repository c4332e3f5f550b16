-- The edits counted and those left are at most all edits.
use Rattle.std.proofs.Common.{◌≡◌, ◌<◌, ◌+◌, ◌^◌, ℕ, arith, length, ap, ◌∙◌}
use Rattle.road_scenario.specs.Registers.{edit_list}
use Rattle.road_scenario.proofs.EditCounts.{counted_turn}
use Rattle.road_scenario.proofs.listing.count_edits.Goals as goal

few : (a b r all : ℕ) → a + b + r ≡ all → all < 2 ^ 64 → a + b < 2 ^ 64
few a b r all e h = omega arith

pub count_steps-count-requires : goal.count_steps-count-requires
count_steps-count-requires c = part _ _ (few c.loop-steps.count _ _ _ (counted_turn c.loop-steps.count _ c.loop-steps.steps-iterator c.next.new.self c.in-Some.field-0-0.now c.in-Some.steps.now c.in-Some.ensures.steps c.loop-steps.invariant) c.requires)
  where
    part : (a b : ℕ) → a + b < 2 ^ 64 → b < 2 ^ 64
    part a b h = omega arith

-- this object's edits are counted too
counted : (c : goal.After-count_steps-count) → c.loop-steps.count + c.count_steps-count.result + length (edit_list c.next.new.self) ≡ length (edit_list c.args.registers.now)
counted c =
    ap (λ n. c.loop-steps.count + n + length (edit_list c.next.new.self)) c.count_steps-count.ensures
    ∙ counted_turn c.loop-steps.count _ c.loop-steps.steps-iterator c.next.new.self c.in-Some.field-0-0.now c.in-Some.steps.now c.in-Some.ensures.steps c.loop-steps.invariant

pub overflow_add-count : goal.overflow_add-count
overflow_add-count c = let fits = few c.loop-steps.count _ _ _ (counted c) c.requires in omega arith

pub loop-steps-preserved : goal.loop-steps-preserved
loop-steps-preserved c = counted c
