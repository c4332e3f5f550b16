-- The message that an event makes: the world with this message added, the reply, and the causes of refusals.
use Rattle.std.proofs.Common.{◌≡◌, ◌∙◌, ℕ, List, [], ◌∷◌, length, map, Option, Some, None, refl, ap, sym, inr}
use Rattle.std.specs.Prelude.{OnOk, Result}
use Rattle.std.specs.List.{slice_get}
use Rattle.std.specs.Option.{option_map}
use Rattle.std.specs.declared.result.Result.TheVariants.{Ok, Err}
use Rattle.std.proofs.lemmas.List.{map-append}
use Rattle.road_delta.specs.declared.heads.Head.{Head}
use Rattle.road_delta.proofs.DeltaEdits.{winners-beyond}
use Rattle.road_replica.specs.declared.faults.ReplicaFault.TheVariants.{OutOfMemory}
use Rattle.road_replica.specs.declared.reply.Reply.{Reply}
use Rattle.road_replica.specs.declared.reply.Reply.TheVariants as replies
use Rattle.road_scenario.specs.Edits.{Edits}
use Rattle.road_scenario.specs.Winners.{winners}
use Rattle.road_world.specs.Answers.{IsUnnamedRefusal, reply_to_event}
use Rattle.road_world.specs.Events.{World, WorldReplica, asked_heads, message_of_event, message_of_winners, messages_with, replica_at, world_after_event, world_of_winners}
use Rattle.road_world.specs.Steps.{command_of_event}
use Rattle.road_world.specs.declared.event.Event.{Event}
use Rattle.road_world.specs.declared.event.Event.TheVariants.{Edit, Withdraw, Import, Send, Heads, Beyond, Take, Advance}
use Rattle.road_world.specs.declared.faults.WorldFault.{WorldFault}
use Rattle.road_world.specs.declared.faults.WorldFault.TheVariants as faults
use Rattle.road_world.specs.declared.message.Message.{Message}
use Rattle.road_world.specs.declared.message.Message.TheVariants.{Whole, Answer}
use Rattle.road_world.proofs.WinnersSuffice.{replica-of_winners, winners_again, world_with_message}

pub same_some : {A : Type 0} (x y : A) → Some x ≡ Some y → x ≡ y
same_some x y h = cc

pub none_is_no_item : {A : Type 0} (x : A) → None ≡ Some x → ⊥
none_is_no_item x h = cc

-- ---- an event that makes a message

-- the world with one more message, if there is one
abbrev with_option : Option Message → World → World
with_option made w = record w { messages = messages_with made w.messages }

-- the world after such an event is the world with its message added
pub after_made : (e : Event) (w : World) (m : Message) → message_of_event w e ≡ Some m → world_after_event e w ≡ world_with_message m w
after_made (Edit r o step n) w m made = absurd (none_is_no_item m made)
after_made (Withdraw r o step) w m made = absurd (none_is_no_item m made)
after_made (Import r es) w m made = absurd (none_is_no_item m made)
after_made (Send r) w m made = ap (λ (o : Option Message). with_option o w) made
after_made (Heads r) w m made = ap (λ (o : Option Message). with_option o w) made
after_made (Beyond r n) w m made = ap (λ (o : Option Message). with_option o w) made
after_made (Take r n) w m made = absurd (none_is_no_item m made)
after_made (Advance r to) w m made = absurd (none_is_no_item m made)

-- the reply to such an event is the number of its message
pub reply_made : (e : Event) (w : World) (m : Message) → message_of_event w e ≡ Some m → reply_to_event w e ≡ replies.Message (length w.messages)
reply_made (Edit r o step n) w m made = absurd (none_is_no_item m made)
reply_made (Withdraw r o step) w m made = absurd (none_is_no_item m made)
reply_made (Import r es) w m made = absurd (none_is_no_item m made)
reply_made (Send r) w m made = refl
reply_made (Heads r) w m made = refl
reply_made (Beyond r n) w m made = refl
reply_made (Take r n) w m made = absurd (none_is_no_item m made)
reply_made (Advance r to) w m made = absurd (none_is_no_item m made)

-- such an event has no command to a sheet
pub no_command : (e : Event) (w : World) (m : Message) → message_of_event w e ≡ Some m → command_of_event w e ≡ None
no_command (Edit r o step n) w m made = absurd (none_is_no_item m made)
no_command (Withdraw r o step) w m made = absurd (none_is_no_item m made)
no_command (Import r es) w m made = absurd (none_is_no_item m made)
no_command (Send r) w m made = refl
no_command (Heads r) w m made = refl
no_command (Beyond r n) w m made = refl
no_command (Take r n) w m made = absurd (none_is_no_item m made)
no_command (Advance r to) w m made = absurd (none_is_no_item m made)

-- ---- any event

-- any event may be refused because memory ran out, if no cause is named
pub memory_refuses : (e : Event) → IsUnnamedRefusal e (faults.Replica OutOfMemory)
memory_refuses (Edit r o step n) = inr refl
memory_refuses (Withdraw r o step) = inr refl
memory_refuses (Import r es) = inr refl
memory_refuses (Send r) = refl
memory_refuses (Heads r) = refl
memory_refuses (Beyond r n) = refl
memory_refuses (Take r n) = inr refl
memory_refuses (Advance r to) = inr refl

-- the messages after an event
messages_after : (e : Event) (w : World) → (world_after_event e w).messages ≡ messages_with (message_of_event w e) w.messages
messages_after (Edit r o step n) w = refl
messages_after (Withdraw r o step) w = refl
messages_after (Import r es) w = refl
messages_after (Send r) w = refl
messages_after (Heads r) w = refl
messages_after (Beyond r n) w = refl
messages_after (Take r n) w = refl
messages_after (Advance r to) w = refl

-- the edits that a replica of a world of winners holds are winners
held_wins : (w : World) (r : ℕ) → world_of_winners w ≡ w → winners (replica_at w r).edits ≡ (replica_at w r).edits
held_wins w r wins =
    sym (ap (λ (x : WorldReplica). x.edits) (replica-of_winners w r)) ∙ ap (λ (v : World). (replica_at v r).edits) wins

-- the edits of the message that an event makes in a world of winners are winners
made_wins : (e : Event) (w : World) → world_of_winners w ≡ w → option_map message_of_winners (message_of_event w e) ≡ message_of_event w e
made_wins (Edit r o step n) w wins = refl
made_wins (Withdraw r o step) w wins = refl
made_wins (Import r es) w wins = refl
made_wins (Send r) w wins = ap (λ (s : Edits). Some (Whole s)) (held_wins w r wins)
made_wins (Heads r) w wins = refl
made_wins (Beyond r n) w wins =
    let held : Edits = (replica_at w r).edits in
    let asked : List Head = asked_heads (slice_get w.messages n) in
    ap (λ (s : Edits). Some (Answer s)) (winners-beyond (winners held) asked (winners_again held))
made_wins (Take r n) w wins = refl
made_wins (Advance r to) w wins = refl

-- the messages with only the winners, and one more if there is one
winners_with : (o : Option Message) (ms : List Message) → map message_of_winners (messages_with o ms) ≡ messages_with (option_map message_of_winners o) (map message_of_winners ms)
winners_with None ms = refl
winners_with (Some m) ms = map-append message_of_winners ms (m ∷ [])

-- the messages of a world of winners after an accepted event: those before, and the one that it makes
pub messages_made : (e : Event) (answer : Result Reply WorldFault) (old new : World) → world_of_winners old ≡ old → OnOk answer (new ≡ world_of_winners (world_after_event e old))
    → OnOk answer (new.messages ≡ messages_with (message_of_event old e) old.messages)
messages_made e (Ok reply) old new wins after =
    ap (λ (w : World). w.messages) after ∙ ap (map message_of_winners) (messages_after e old)
    ∙ winners_with (message_of_event old e) old.messages
    ∙ ap (λ (o : Option Message). messages_with o (map message_of_winners old.messages)) (made_wins e old wins)
    ∙ ap (λ (w : World). messages_with (message_of_event old e) w.messages) wins
messages_made e (Err fault) old new wins after = tt
