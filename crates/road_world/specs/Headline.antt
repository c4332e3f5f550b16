-- The headline: for every list of events, each replica's scenario is the winners of the edits that reached it, and at
-- every step it has simulated each cell and each detector count is that of one worker's run of those winners from step
-- zero; so replicas that the same edits reached, in whatever order, grouping and repetition, agree at every step that
-- both have simulated.
--
-- In plain words: a replica's scenario is the winners of the edits that reached it. At every step that it has
-- simulated, each of its cells and detector counts equals that of a single-threaded run, from step zero, under those
-- winners. So replicas agree at every step that both have simulated if the same edits reached them.
--
-- What a replica shows is a function of its sheet s: `Replica::state` returns `state_of s step`, or refuses for
-- `state_fault s step`. Likewise `rows` uses `rows_of` and `rows_fault`, and `totals` uses `total_of` and
-- `totals_fault`. `World::state`, `rows` and `totals` return `run_at`, `rows_at` and `total_at` of the winners
-- themselves. A run (`run_at`, `rows_at`, `total_at`) always begins at step zero, and does not depend on checkpoints,
-- crews or meters.
use Rattle.std.specs.Prelude.{◌≡◌, ◌<◌, ◌≤◌, ℕ, List, Result, length, false}
use Rattle.std.specs.declared.option.Option.{Option}
use Rattle.std.specs.declared.option.Option.TheVariants.{None}
use Rattle.road_plan.specs.Plan.{Plan}
use Rattle.road_scenario.specs.Winners.{winners}
use Rattle.road_sheet.specs.Sheets.{is_out_of_range, state_of, rows_of, total_of}
use Rattle.road_sheet.specs.Shown.{run_at, rows_at, total_at}
use Rattle.road_replica.specs.Refusals.{state_fault, rows_fault, totals_fault}
use Rattle.road_replica.specs.declared.faults.ReplicaFault.{ReplicaFault}
use Rattle.road_replica.specs.declared.reply.Reply.{Reply}
use Rattle.road_world.specs.Answers.{sheet_at}
use Rattle.road_world.specs.Events.{World, WorldReplica, replica_after_events}
use Rattle.road_world.specs.declared.event.Event.{Event}
use Rattle.road_world.specs.declared.faults.WorldFault.{WorldFault}

-- a query is refused for no named cause, and what is shown is right
pub record IsRight {A : Type 0} (fault : Option ReplicaFault) (shown right : A) : Type 0 where
  pub answered : fault ≡ None
  pub same : shown ≡ right

-- a world of `count` replicas of a plan shows the runs of what reached them: `past r` is the set of edits that reached
-- replica r, and the latest step to which it was advanced
pub record ShowsRuns (plan : Plan) (count : ℕ) (past : ℕ → WorldReplica) (world : World) : Type 0 where
  -- the world is of this plan
  pub same_plan : world.plan ≡ plan
  -- it has these replicas
  pub replicas : length world.replicas ≡ count
  -- each replica's scenario is the winners of the edits that reached it
  pub scenario : (r : ℕ) → r < count → (sheet_at world r).edits ≡ winners (past r).edits
  -- it has simulated each step up to the latest one to which it was advanced
  pub simulated : (r : ℕ) → r < count → (sheet_at world r).horizon ≡ (past r).horizon
  -- at each step it has simulated each cell is that of the run of those winners from step zero
  pub cells : (r step : ℕ) → r < count → step ≤ (past r).horizon →
      IsRight (state_fault (sheet_at world r) step)
      (state_of (sheet_at world r) step) (run_at plan (winners (past r).edits) step)
  -- each row of a diagram is that of this run, with the blocks of its step
  pub rows : (r from to : ℕ) → r < count → is_out_of_range from to ≡ false → to ≤ (past r).horizon →
      IsRight (rows_fault (sheet_at world r) from to)
      (rows_of (sheet_at world r) from to) (rows_at plan (winners (past r).edits) from to)
  -- each detector count is that of this run
  pub counts : (r detector from to : ℕ) → r < count →
      detector < length plan.detectors → from ≤ to → to ≤ (past r).horizon →
      IsRight (totals_fault (sheet_at world r) detector from to)
      (total_of (sheet_at world r) detector from to) (total_at plan (winners (past r).edits) detector from to)
  -- replicas that the same edits reached agree on each cell at every step that both have simulated
  pub same_cells : (r s step : ℕ) → r < count → s < count → (past r).edits ≡ (past s).edits →
      step ≤ (past r).horizon → step ≤ (past s).horizon →
      state_of (sheet_at world r) step ≡ state_of (sheet_at world s) step
  -- these replicas agree on each row
  pub same_rows : (r s from to : ℕ) → r < count → s < count → (past r).edits ≡ (past s).edits →
      to ≤ (past r).horizon → to ≤ (past s).horizon →
      rows_of (sheet_at world r) from to ≡ rows_of (sheet_at world s) from to
  -- these replicas agree on each detector count
  pub same_counts : (r s detector from to : ℕ) → r < count → s < count → (past r).edits ≡ (past s).edits →
      to ≤ (past r).horizon → to ≤ (past s).horizon →
      total_of (sheet_at world r) detector from to ≡ total_of (sheet_at world s) detector from to

-- the headline for a list of events and their replies: the world shows the runs of what reached each replica by these
-- events, without the refused ones
abbrev pub Headline : Plan → ℕ → List Event → List (Result Reply WorldFault) → World → Type 0
Headline plan count events replies world = ShowsRuns plan count (replica_after_events plan count events replies) world
