-- The effect of applying an event to a world.
use Rattle.std.specs.Prelude.{◌≡◌, ◌≢◌, ℕ, OnErr, OnOk, Result}
use Rattle.std.specs.declared.option.Option.TheVariants.{None, Some}
use Rattle.std.specs.declared.result.Result.TheVariants.{Ok, Err}
use Rattle.road_rewind.specs.Growth.{TicksAtMost, meter_after}
use Rattle.road_replica.specs.declared.faults.ReplicaFault.TheVariants.{OutOfMemory}
use Rattle.road_replica.specs.declared.reply.Reply.{Reply}
use Rattle.road_replica.specs.declared.reply.Reply.TheVariants.{Message}
use Rattle.road_world.specs.Answers.{IsAnswer, IsRefusal, fault_of_event}
use Rattle.road_world.specs.Events.{World, message_of_event, world_after_event, world_of_winners}
use Rattle.road_world.specs.Steps.{most_steps_of_event, steps_of_event}
use Rattle.road_world.specs.declared.event.Event.{Event}
use Rattle.road_world.specs.declared.faults.WorldFault.{WorldFault}
use Rattle.road_world.specs.declared.faults.WorldFault.TheVariants.{Replica}
use Rattle.road_world.specs.declared.message.Message as messages

-- an event is applied to a world, and a meter counts the steps that are computed
pub record IsApplied (event : Event) (result : Result Reply WorldFault) (old new : World)
    (meter later : ℕ) : Type 0 where
  -- the event has its answer
  pub answer : IsAnswer old event result
  -- if accepted, it does what its definition says (of edits, only the winners)
  pub after : OnOk result (new ≡ world_of_winners (world_after_event event old))
  -- if refused, it does nothing
  pub unchanged : OnErr result (new ≡ old)
  -- if accepted, exactly its steps are computed
  pub steps : OnOk result (later ≡ meter_after meter (steps_of_event old event))
  -- if refused for a named cause, no step is computed
  pub named : OnErr result (fault_of_event old event ≢ None → later ≡ meter)
  -- if refused because memory ran out or a worker was lost, at most the steps that it may cost are computed
  pub few_steps : TicksAtMost (most_steps_of_event old event) meter later

-- the result of making the message of an event: that message if nothing refuses the event, or its refusal
abbrev pub IsMade : World → Event → Result messages.Message WorldFault → Type 0
IsMade w event (Ok message) = (fault_of_event w event ≡ None) × (message_of_event w event ≡ Some message)
IsMade w event (Err fault) = IsRefusal event (fault_of_event w event) fault

-- the answer to an event whose message is posted: the message's number, or out of memory
abbrev pub posted_answer : {A : Type 0} → Result ℕ A → Result Reply WorldFault
posted_answer (Ok number) = Ok (Message number)
posted_answer (Err failed) = Err (Replica OutOfMemory)
