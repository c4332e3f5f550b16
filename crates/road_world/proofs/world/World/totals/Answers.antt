-- The counts of a detector are a function of the winners of what reached the replica.
use Rattle.std.proofs.Common.{◌∙◌}
use Rattle.road_plan.specs.Plan.{Plan}
use Rattle.road_scenario.specs.Edits.{Edits}
use Rattle.road_sheet.specs.Shown.{total_at}
use Rattle.road_world.proofs.ShownRuns.{read_of_winners}
use Rattle.road_world.proofs.world.World.totals.Goals as goal

pub returns-clause-totals : goal.returns-clause-totals
returns-clause-totals c reached is =
    c.in_ok-totals.ensures.totals ∙ read_of_winners (λ (p : Plan) (edits : Edits). total_at p edits c.args.detector c.args.from c.args.to) c.args.self.now c.args.replica c.in-Some.shown.now.sheet c.in-Some.ensures.sheet reached is
