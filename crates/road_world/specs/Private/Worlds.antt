-- Facts about the replicas and the messages that a world stores.
use Rattle.std.specs.Prelude.{◌≡◌, ◌≤◌, ℕ, List, length}
use Rattle.std.specs.List.{All, slice_get}
use Rattle.std.specs.declared.option.Option.TheVariants.{Some}
use Rattle.road_plan.specs.Plan.{Plan}
use Rattle.road_plan.specs.declared.limits.TheConstants.{MOST_REPLICAS}
use Rattle.road_scenario.specs.Edits.{Edits}
use Rattle.road_scenario.specs.Faults.{AreInRange}
use Rattle.road_scenario.specs.Winners.{AreWinners}
use Rattle.road_sheet.specs.Sheets.{IsSheet}
use Rattle.road_replica.specs.Replicas.{Replica}
use Rattle.road_world.specs.Events.{WorldReplica}
use Rattle.road_world.specs.declared.message.Message.{Message}
use Rattle.road_world.specs.declared.message.Message.TheVariants.{Whole, Answer, Asked}

-- a replica as the world's events see it: its edits, and its horizon
abbrev pub world_replica : Replica → WorldReplica
world_replica replica = record { edits = replica.sheet.edits; horizon = replica.sheet.horizon }

-- a replica has a number and a plan, and its sheet is a proper one
pub record IsReplicaOf (plan : Plan) (number : ℕ) (replica : Replica) : Type 0 where
  pub number_is : replica.number ≡ number
  pub plan_is : replica.sheet.plan ≡ plan
  pub sheet : IsSheet replica.sheet

-- edits that may be sent: no edit exceeds another, and all fit the plan
pub record AreSendable (plan : Plan) (edits : Edits) : Type 0 where
  pub winners : AreWinners edits
  pub in_range : AreInRange plan edits

-- a message that may be sent: it carries edits that may be sent, or heads
abbrev pub IsSendable : Plan → Message → Type 0
IsSendable plan (Whole edits) = AreSendable plan edits
IsSendable plan (Answer edits) = AreSendable plan edits
IsSendable plan (Asked hs) = Unit {0}

-- the replicas are numbered by their places, there are not too many, and each message may be sent
pub record IsWorldKept (plan : Plan) (replicas : List Replica) (messages : List Message) : Type 0 where
  pub few : length replicas ≤ MOST_REPLICAS
  pub each : (number : ℕ) (replica : Replica) → slice_get replicas number ≡ Some replica →
      IsReplicaOf plan number replica
  pub sendable : All (IsSendable plan) messages
