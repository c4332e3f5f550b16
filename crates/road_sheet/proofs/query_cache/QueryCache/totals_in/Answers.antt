-- The counts of an interval's last steps are those of all its steps less those of the steps before.
use Rattle.std.proofs.Common.{◌≡◌, ◌∙◌, ◌+◌, ◌*◌, ◌-◌, ◌/◌, ◌%◌, ◌≤◌, ◌<◌, ℕ, min, ap, arith}
use Rattle.road_detector.specs.declared.counts.Totals.{Totals}
use Rattle.road_scenario.specs.Settings.{settings_of}
use Rattle.road_sheet.specs.Sheets.{Sheet, total_of}
use Rattle.road_sheet.proofs.RunTotals.{total_less}
use Rattle.road_sheet.proofs.query_cache.QueryCache.totals_in.Goals as goal

-- what an interval counts up to its end, and in its first steps
rest : (s : Sheet) (d from to : ℕ) (all first : Totals) → (let i : ℕ = (from - from % 64) / 64 in all ≡ total_of s d (64 * i) (min (64 * i + 64) s.horizon)) → from < to → min (from - from % 64 + 64) s.horizon ≡ to
    → first ≡ total_of s d (from - from % 64) from
    → (first.cars ≤ all.cars) × (first.speeds ≤ all.speeds) × ((let last : Totals = record { cars = all.cars - first.cars; speeds = all.speeds - first.speeds } in last) ≡ total_of s d from to)
rest s d from to all first here order end before =
    let begin : 64 * ((from - from % 64) / 64) ≡ from - from % 64 = omega arith in
    total_less s.plan (settings_of s.plan s.edits) d (from - from % 64) from to all first (omega arith) (omega arith)
    (here ∙ ap (λ a. total_of s d a (min (a + 64) s.horizon)) begin ∙ ap (total_of s d (from - from % 64)) end) before

pub overflow_sub-result : goal.overflow_sub-result
overflow_sub-result c =
    let end : min (c.args.from - c.args.from % 64 + 64) c.args.sheet.now.horizon ≡ c.args.to = let e = c.min-end.ensures in let t = c.if-to-end.false in let h = c.horizon-horizon.ensures.horizon in omega (arith, c.requires.ended, c.requires.simulated) in
    (rest c.args.sheet.now c.args.detector c.args.from c.args.to c.interval_totals-whole.result c.in_ok-before.before c.interval_totals-whole.ensures c.requires.order end c.in_ok-before.ensures.totals).0

pub overflow_sub-result-2 : goal.overflow_sub-result-2
overflow_sub-result-2 c =
    let end : min (c.args.from - c.args.from % 64 + 64) c.args.sheet.now.horizon ≡ c.args.to = let e = c.min-end.ensures in let t = c.if-to-end.false in let h = c.horizon-horizon.ensures.horizon in omega (arith, c.requires.ended, c.requires.simulated) in
    (rest c.args.sheet.now c.args.detector c.args.from c.args.to c.interval_totals-whole.result c.in_ok-before.before c.interval_totals-whole.ensures c.requires.order end c.in_ok-before.ensures.totals).1

pub returns-clause-totals : goal.returns-clause-totals
returns-clause-totals c =
    let end : min (c.args.from - c.args.from % 64 + 64) c.args.sheet.now.horizon ≡ c.args.to = let e = c.min-end.ensures in let t = c.if-to-end.false in let h = c.horizon-horizon.ensures.horizon in omega (arith, c.requires.ended, c.requires.simulated) in
    (rest c.args.sheet.now c.args.detector c.args.from c.args.to c.interval_totals-whole.result c.in_ok-before.before c.interval_totals-whole.ensures c.requires.order end c.in_ok-before.ensures.totals).2
