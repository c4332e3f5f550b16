-- Events and their replies as the code's calls see them.
use Rattle.std.specs.Prelude.{◌≡◌, ℕ, Bool, true, false, List, length, Result}
use Rattle.std.specs.List.{slice_get}
use Rattle.std.specs.Option.{option_map}
use Rattle.std.specs.declared.option.Option.{Option}
use Rattle.std.specs.declared.option.Option.TheVariants.{None, Some}
use Rattle.std.specs.declared.result.Result.TheVariants.{Ok, Err}
use Rattle.lattice_core.specs.Sets.{items}
use Rattle.road_delta.specs.Deltas.{beyond, heads}
use Rattle.road_replica.specs.declared.reply.Reply.{Reply}
use Rattle.road_replica.specs.declared.reply.Reply.TheVariants as replies
use Rattle.road_world.specs.declared.event.Event.{Event}
use Rattle.road_world.specs.declared.event.Event.TheVariants as events
use Rattle.road_world.specs.declared.message.Message.{Message}
use Rattle.road_world.specs.declared.message.Message.TheVariants as messages
use Rattle.road_world.specs.Events.{World, asked_heads}
use Rattle.road_format.specs.Replies.{Answer, Delta, Heads, Horizon, Refused, Sent, Stamped, Touched}
use Rattle.road_format.specs.Views.{answer_view}
use Rattle.road_format.specs.declared.answer.Answer as replies_declared
use Rattle.road_format.specs.declared.refusal.Refusal.{Refusal}
use Rattle.road_format.specs.declared.refusal.Refusal.TheVariants as refusals
use Rattle.road_workers.specs.declared.faults.CrewFault.{CrewFault}
use Rattle.road_commands.specs.Laboratory.{edits_held}

-- whether an event leaves the edits of its replica unchanged
abbrev pub keeps_edits : Event → Bool
keeps_edits (events.Edit r object step number) = false
keeps_edits (events.Withdraw r object step) = false
keeps_edits (events.Import r edits) = false
keeps_edits (events.Send r) = true
keeps_edits (events.Heads r) = true
keeps_edits (events.Beyond r message) = true
keeps_edits (events.Take r message) = false
keeps_edits (events.Advance r to) = true

-- whether a reply is the number of a message
abbrev pub names_message : Reply → Bool
names_message (replies.Stamped stamp) = false
names_message (replies.Touched step) = false
names_message (replies.Message number) = true
names_message (replies.Horizon to) = false

-- the answer for a world's reply to a change; such a reply is never the number of a message
abbrev pub reply_answer : Reply → Answer
reply_answer (replies.Stamped stamp) = Stamped stamp
reply_answer (replies.Touched step) = Touched step
reply_answer (replies.Message number) = Refused refusals.NoMessage
reply_answer (replies.Horizon to) = Horizon to

-- the answer to the command that makes a message, from what the message carries
abbrev pub message_answer : List ℕ → Message → Answer
message_answer name (messages.Whole edits) = Sent name (length (items edits))
message_answer name (messages.Asked heads) = Heads name heads
message_answer name (messages.Answer edits) = Delta name (items edits)

-- the answer to an event that makes a message with this name; the answer for any other event has no meaning
abbrev pub made_answer : World → Event → List ℕ → Answer
made_answer w (events.Send r) name = Sent name (length (items (edits_held w r)))
made_answer w (events.Heads r) name = Heads name (heads (edits_held w r))
made_answer w (events.Beyond r message) name =
    Delta name (items (beyond (edits_held w r) (asked_heads (slice_get w.messages message))))
made_answer w event name = Refused refusals.NoMessage

-- if a refusal has an answer, it is answered; otherwise a crew's fault is passed on
abbrev pub AnswersRefusal : Option Refusal → Result replies_declared.Answer CrewFault → Type 0
AnswersRefusal refusal (Ok answer) = option_map Refused refusal ≡ Some (answer_view answer)
AnswersRefusal refusal (Err lost) = refusal ≡ None
