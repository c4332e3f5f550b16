-- What a replica of a world shows is a function of the winners of the edits that reached it.
use Rattle.std.proofs.Common.{◌≡◌, ◌∙◌, ℕ, ap}
use Rattle.road_plan.specs.Plan.{Plan}
use Rattle.road_scenario.specs.Edits.{Edits}
use Rattle.road_scenario.specs.Winners.{winners}
use Rattle.road_sheet.specs.Sheets.{Sheet}
use Rattle.road_world.specs.Answers.{sheet_at}
use Rattle.road_world.specs.Events.{World, WorldReplica, replica_at, world_of_winners}
use Rattle.road_world.proofs.WinnersSuffice.{replica-of_winners}

-- the sheet has the world's plan and the winners of what reached the replica
pub read_of_winners : {A : Type 0} (read : Plan → Edits → A) (k : World) (r : ℕ) (s : Sheet) → s ≡ sheet_at k r → (reached : World) → k ≡ world_of_winners reached → read s.plan s.edits ≡ read k.plan (winners (replica_at reached r).edits)
read_of_winners read k r s same reached is =
    ap (λ (t : Sheet). read t.plan t.edits) same
    ∙ ap (λ (w : World). read k.plan (replica_at w r).edits) is ∙ ap (λ (x : WorldReplica). read k.plan x.edits) (replica-of_winners reached r)
