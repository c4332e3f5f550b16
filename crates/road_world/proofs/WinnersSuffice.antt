-- The winners suffice: a world whose replicas and messages have only the winners has the same effects, answers and
-- refusals as the world.
use Rattle.std.proofs.Common.{◌≡◌, ℕ, suc, zero, max, List, [], ◌∷◌, ◌++◌, length, map, Option, Some, None, refl, ap, sym, subst, ◌∙◌}
use Rattle.std.specs.Prelude.{slice_set, replicate, nat_lt, Result, if◌then◌else◌}
use Rattle.std.specs.List.{slice_index_or, slice_get}
use Rattle.std.specs.Option.{option_map}
use Rattle.std.specs.declared.result.Result.TheVariants.{Ok, Err}
use Rattle.std.proofs.lemmas.List.{map-set, map-append, length-map}
use Rattle.std.proofs.lemmas.Option.{slice_get-map}
use Rattle.lattice_core.specs.Sets.{items, union, from_list}
use Rattle.road_plan.specs.Plan.{Plan}
use Rattle.road_plan.specs.declared.object.Object.{Object}
use Rattle.road_scenario.specs.Edits.{Edits}
use Rattle.road_scenario.specs.Faults.{fault_of_edit}
use Rattle.road_scenario.specs.Instances.EditOrder.{winners_laws}
use Rattle.road_scenario.specs.Touched.{first_touched_step, first_touched_step_in}
use Rattle.road_scenario.specs.Winners.{winners, join}
use Rattle.road_scenario.specs.declared.edit.Edit as edits
use Rattle.road_scenario.specs.declared.edit.Value.{Value}
use Rattle.road_scenario.specs.declared.edit.Value.TheVariants.{Withdrawn, Put}
use Rattle.road_scenario.proofs.GreatestCounts.{greatest_count-winners}
use Rattle.road_scenario.proofs.NoEdits.{winners-empty}
use Rattle.road_delta.specs.Deltas.{heads, beyond}
use Rattle.road_delta.specs.declared.heads.Head.{Head}
use Rattle.road_replica.specs.Refusals.{own_edit_fault}
use Rattle.road_replica.specs.Replicas.{local_edit, single_edit}
use Rattle.road_replica.specs.declared.reply.Reply.{Reply}
use Rattle.road_replica.specs.declared.reply.Reply.TheVariants as replies
use Rattle.road_world.specs.Answers.{stamp_reply, touched_reply, reply_to_event, replica_number, edits_wanted_fault, heads_wanted_fault, fault_at_replica, fault_of_event, IsRefusal, IsAnswer}
use Rattle.road_world.specs.Events.{WorldReplica, World, opening_replica, opening_world, replica_at, world_with_edits, world_with_local_edit, carried_edits, asked_heads, world_after_event, replica_of_winners, message_of_winners, world_of_winners}
use Rattle.road_world.specs.declared.event.Event.{Event}
use Rattle.road_world.specs.declared.event.Event.TheVariants.{Edit, Withdraw, Import, Send, Heads, Beyond, Take, Advance}
use Rattle.road_world.specs.declared.faults.WorldFault.{WorldFault}
use Rattle.road_world.specs.declared.faults.WorldFault.TheVariants.{NoReplica}
use Rattle.road_world.specs.declared.faults.WorldFault.TheVariants as faults
use Rattle.road_world.specs.declared.message.Message.{Message}
use Rattle.road_world.specs.declared.message.Message.TheVariants.{Whole, Answer, Asked}

-- ---- winners

-- winners are their own winners
pub winners_again : (edits : Edits) → winners (winners edits) ≡ winners edits
winners_again edits = winners_laws.of_tops edits

-- in a union, one part may be replaced by its winners
pub winners_of_one_part : (s t : Edits) → winners (union (winners s) t) ≡ winners (union s t)
winners_of_one_part s t =
    winners_laws.of_union (winners s) t ∙ ap (λ (u : Edits). join u (winners t)) (winners_again s)
    ∙ sym (winners_laws.of_union s t)

-- in a union, both parts may be replaced by their winners
pub winners_of_both_parts : (s t : Edits) → winners (union (winners s) (winners t)) ≡ winners (union s t)
winners_of_both_parts s t = sym (winners_laws.of_union s t)

-- ---- replicas and messages

-- a replica, given its parts
abbrev pub replica_with : Edits → ℕ → WorldReplica
replica_with held to = record { edits = held; horizon = to }

-- a world, given its parts
abbrev pub world_with : Plan → List WorldReplica → List Message → World
world_with plan replicas messages = record { plan = plan; replicas = replicas; messages = messages }

-- a world is the same if its replicas and its messages are
pub same_world : (plan : Plan) (xs ys : List WorldReplica) (ms ns : List Message) → xs ≡ ys → ms ≡ ns → world_with plan xs ms ≡ world_with plan ys ns
same_world plan xs ys ms ns e f =
    ap (λ (zs : List WorldReplica). world_with plan zs ms) e ∙ ap (λ (os : List Message). world_with plan ys os) f

-- the winners of a replica before any event
opening_winners : replica_of_winners opening_replica ≡ opening_replica
opening_winners = ap (λ (s : Edits). replica_with s 0) winners-empty

-- a replica of a list, with only its winners, is the replica of the list with only winners
at_of_winners : (xs : List WorldReplica) (r : ℕ) → slice_index_or (map replica_of_winners xs) r opening_replica ≡ replica_of_winners (slice_index_or xs r opening_replica)
at_of_winners [] r = sym opening_winners
at_of_winners (x ∷ xs) zero = refl
at_of_winners (x ∷ xs) (suc r) = at_of_winners xs r

-- a replica of a world of winners is the world's replica with only its winners
pub replica-of_winners : (w : World) (r : ℕ) → replica_at (world_of_winners w) r ≡ replica_of_winners (replica_at w r)
replica-of_winners w r = at_of_winners w.replicas r

-- a replica holds edits with the same winners in the world of winners and in the world
pub held-of_winners : (w : World) (r : ℕ) → winners (replica_at (world_of_winners w) r).edits ≡ winners (replica_at w r).edits
held-of_winners w r =
    ap (λ (x : WorldReplica). winners x.edits) (replica-of_winners w r) ∙ winners_again (replica_at w r).edits

-- replicas with only winners are not changed by keeping only their winners
replicas_again : (xs : List WorldReplica) → map replica_of_winners (map replica_of_winners xs) ≡ map replica_of_winners xs
replicas_again [] = refl
replicas_again (x ∷ xs) =
    ap (λ (s : Edits). replica_with s x.horizon ∷ map replica_of_winners (map replica_of_winners xs)) (winners_again x.edits)
    ∙ ap (λ (ys : List WorldReplica). replica_of_winners x ∷ ys) (replicas_again xs)

-- a message with only winners is not changed by keeping only its winners
message_again : (m : Message) → message_of_winners (message_of_winners m) ≡ message_of_winners m
message_again (Whole s) = ap Whole (winners_again s)
message_again (Answer s) = ap Answer (winners_again s)
message_again (Asked hs) = refl

-- several such messages are not changed either
messages_again : (ms : List Message) → map message_of_winners (map message_of_winners ms) ≡ map message_of_winners ms
messages_again [] = refl
messages_again (m ∷ ms) =
    ap (λ (n : Message). n ∷ map message_of_winners (map message_of_winners ms)) (message_again m)
    ∙ ap (λ (ns : List Message). message_of_winners m ∷ ns) (messages_again ms)

-- a world of winners is not changed by keeping only its winners
pub world-again : (w : World) → world_of_winners (world_of_winners w) ≡ world_of_winners w
world-again w = same_world w.plan _ _ _ _ (replicas_again w.replicas) (messages_again w.messages)

-- several replicas before any event hold only winners
opening_replicas : (count : ℕ) → map replica_of_winners (replicate count opening_replica) ≡ replicate count opening_replica
opening_replicas zero = refl
opening_replicas (suc count) =
    ap (λ (x : WorldReplica). x ∷ map replica_of_winners (replicate count opening_replica)) opening_winners
    ∙ ap (λ (xs : List WorldReplica). opening_replica ∷ xs) (opening_replicas count)

-- a world before any event is a world of winners
pub opening_world-of_winners : (plan : Plan) (count : ℕ) → world_of_winners (opening_world plan count) ≡ opening_world plan count
opening_world-of_winners plan count = same_world plan _ _ _ _ (opening_replicas count) refl

-- ---- the effects of events

-- replacing one replica, in the replicas of winners and in the replicas
set-of_winners : (xs : List WorldReplica) (r : ℕ) (x y : WorldReplica) → replica_of_winners x ≡ replica_of_winners y → map replica_of_winners (slice_set (map replica_of_winners xs) r x) ≡ map replica_of_winners (slice_set xs r y)
set-of_winners xs r x y e =
    map-set replica_of_winners (map replica_of_winners xs) r x
    ∙ ap (λ (ys : List WorldReplica). slice_set ys r (replica_of_winners x)) (replicas_again xs)
    ∙ ap (λ (z : WorldReplica). slice_set (map replica_of_winners xs) r z) e ∙ sym (map-set replica_of_winners xs r y)

-- edits reach a replica, if the unions have the same winners
pub edits-of_winners : (w : World) (r : ℕ) (s t : Edits) → winners (union (winners (replica_at w r).edits) s) ≡ winners (union (replica_at w r).edits t) → world_of_winners (world_with_edits r s (world_of_winners w)) ≡ world_of_winners (world_with_edits r t w)
edits-of_winners w r s t e =
    let reached : WorldReplica = record (replica_at (world_of_winners w) r) { edits = union (replica_at (world_of_winners w) r).edits s } in
    let known : WorldReplica = replica_with (union (replica_at w r).edits t) (replica_at w r).horizon in
    let same : replica_of_winners reached ≡ replica_of_winners known =
    ap (λ (x : WorldReplica). replica_with (winners (union x.edits s)) x.horizon) (replica-of_winners w r)
    ∙ ap (λ (u : Edits). replica_with u (replica_at w r).horizon) e in
    same_world w.plan _ _ _ _ (set-of_winners w.replicas r reached known same) (messages_again w.messages)

-- the edit that a replica makes has the same stamp
pub local_edit-of_winners : (w : World) (r : ℕ) (o : Object) (step : ℕ) (v : Value) → local_edit r (replica_at (world_of_winners w) r).edits o step v ≡ local_edit r (replica_at w r).edits o step v
local_edit-of_winners w r o step v =
    ap (λ (x : WorldReplica). local_edit r x.edits o step v) (replica-of_winners w r)
    ∙ ap (λ (n : ℕ). let e : edits.Edit = record { object = o; step = step; stamp = record { count = suc n; number = r }; value = v } in e) (greatest_count-winners (replica_at w r).edits)

-- a replica makes an edit
made-of_winners : (w : World) (r : ℕ) (o : Object) (step : ℕ) (v : Value) → world_of_winners (world_with_local_edit r o step v (world_of_winners w)) ≡ world_of_winners (world_with_local_edit r o step v w)
made-of_winners w r o step v =
    let made : edits.Edit = local_edit r (replica_at w r).edits o step v in
    ap (λ (e : edits.Edit). world_of_winners (world_with_edits r (single_edit e) (world_of_winners w))) (local_edit-of_winners w r o step v)
    ∙ edits-of_winners w r (single_edit made) (single_edit made) (winners_of_one_part (replica_at w r).edits (single_edit made))

-- the world with one more message
abbrev pub world_with_message : Message → World → World
world_with_message message w = record w { messages = w.messages ++ message ∷ [] }

-- messages made, of the same winners
message-of_winners : (w : World) (m n : Message) → message_of_winners m ≡ message_of_winners n → world_of_winners (world_with_message m (world_of_winners w)) ≡ world_of_winners (world_with_message n w)
message-of_winners w m n e =
    same_world w.plan _ _ _ _ (replicas_again w.replicas)
    (map-append message_of_winners (map message_of_winners w.messages) (m ∷ [])
    ∙ ap (λ (ms : List Message). ms ++ message_of_winners m ∷ []) (messages_again w.messages)
    ∙ ap (λ (k : Message). map message_of_winners w.messages ++ k ∷ []) e
    ∙ sym (map-append message_of_winners w.messages (n ∷ [])))

-- a message with only winners carries the winners of the message's edits
carried_by_winners : (o : Option Message) → carried_edits (option_map message_of_winners o) ≡ winners (carried_edits o)
carried_by_winners None = sym winners-empty
carried_by_winners (Some (Whole s)) = refl
carried_by_winners (Some (Answer s)) = refl
carried_by_winners (Some (Asked hs)) = sym winners-empty

-- a message with only winners has the same heads
asked_by_winners : (o : Option Message) → asked_heads (option_map message_of_winners o) ≡ asked_heads o
asked_by_winners None = refl
asked_by_winners (Some (Whole s)) = refl
asked_by_winners (Some (Answer s)) = refl
asked_by_winners (Some (Asked hs)) = refl

-- a message of a world of winners carries the winners of what the world's message carries
pub carried-of_winners : (w : World) (m : ℕ) → carried_edits (slice_get (world_of_winners w).messages m) ≡ winners (carried_edits (slice_get w.messages m))
carried-of_winners w m =
    ap carried_edits (slice_get-map message_of_winners w.messages m) ∙ carried_by_winners (slice_get w.messages m)

-- a message of a world of winners has the same heads as the world's message
pub asked-of_winners : (w : World) (m : ℕ) → asked_heads (slice_get (world_of_winners w).messages m) ≡ asked_heads (slice_get w.messages m)
asked-of_winners w m =
    ap asked_heads (slice_get-map message_of_winners w.messages m) ∙ asked_by_winners (slice_get w.messages m)

-- a message reaches a replica
taken-of_winners : (w : World) (r m : ℕ) → world_of_winners (world_with_edits r (carried_edits (slice_get (world_of_winners w).messages m)) (world_of_winners w)) ≡ world_of_winners (world_with_edits r (carried_edits (slice_get w.messages m)) w)
taken-of_winners w r m =
    let carried : Edits = carried_edits (slice_get w.messages m) in
    ap (λ (s : Edits). world_of_winners (world_with_edits r s (world_of_winners w))) (carried-of_winners w m)
    ∙ edits-of_winners w r (winners carried) carried (winners_of_both_parts (replica_at w r).edits carried)

-- an event has the same effect in a world of winners as in the world, as far as winners are concerned
pub event-of_winners : (e : Event) (w : World) → world_of_winners (world_after_event e (world_of_winners w)) ≡ world_of_winners (world_after_event e w)
event-of_winners (Edit r o step n) w = made-of_winners w r o step (Put n)
event-of_winners (Withdraw r o step) w = made-of_winners w r o step Withdrawn
event-of_winners (Import r es) w =
    edits-of_winners w r (from_list es.items) (from_list es.items) (winners_of_one_part (replica_at w r).edits (from_list es.items))
event-of_winners (Send r) w =
    message-of_winners w (Whole (replica_at (world_of_winners w) r).edits) (Whole (replica_at w r).edits) (ap Whole (held-of_winners w r))
event-of_winners (Heads r) w =
    message-of_winners w (Asked (heads (winners (replica_at (world_of_winners w) r).edits))) (Asked (heads (winners (replica_at w r).edits)))
    (ap (λ (s : Edits). Asked (heads s)) (held-of_winners w r))
event-of_winners (Beyond r m) w =
    let asked_here : List Head = asked_heads (slice_get (world_of_winners w).messages m) in
    let asked : List Head = asked_heads (slice_get w.messages m) in
    message-of_winners w (Answer (beyond (winners (replica_at (world_of_winners w) r).edits) asked_here)) (Answer (beyond (winners (replica_at w r).edits) asked))
    (ap (λ (s : Edits). Answer (winners (beyond s asked_here))) (held-of_winners w r)
    ∙ ap (λ (hs : List Head). Answer (winners (beyond (winners (replica_at w r).edits) hs))) (asked-of_winners w m))
event-of_winners (Take r m) w = taken-of_winners w r m
event-of_winners (Advance r to) w =
    same_world w.plan _ _ _ _
    (set-of_winners w.replicas r
    (record (replica_at (world_of_winners w) r) { horizon = max (replica_at (world_of_winners w) r).horizon to })
    (record (replica_at w r) { horizon = max (replica_at w r).horizon to })
    (ap (λ (x : WorldReplica). replica_with (winners x.edits) (max x.horizon to)) (replica-of_winners w r)
    ∙ ap (λ (s : Edits). replica_with s (max (replica_at w r).horizon to)) (winners_again (replica_at w r).edits)))
    (messages_again w.messages)

-- ---- the replies to events

-- the first touched step, if the unions have the same winners
pub touched_reply-of_winners : (w : World) (r : ℕ) (s t : Edits) → winners (union (winners (replica_at w r).edits) s) ≡ winners (union (replica_at w r).edits t) → touched_reply (world_of_winners w) r s ≡ touched_reply w r t
touched_reply-of_winners w r s t e =
    ap (λ (x : WorldReplica). replies.Touched (first_touched_step x.edits (union x.edits s))) (replica-of_winners w r)
    ∙ ap (λ (u : Edits). replies.Touched (first_touched_step_in (items u) (items (winners (union (winners (replica_at w r).edits) s))))) (winners_again (replica_at w r).edits)
    ∙ ap (λ (u : Edits). replies.Touched (first_touched_step_in (items (winners (replica_at w r).edits)) (items u))) e

-- the stamp of the edit that a replica makes
stamp_reply-of_winners : (w : World) (r : ℕ) (o : Object) (step : ℕ) (v : Value) → stamp_reply (world_of_winners w) r o step v ≡ stamp_reply w r o step v
stamp_reply-of_winners w r o step v = ap (λ (e : edits.Edit). replies.Stamped e.stamp) (local_edit-of_winners w r o step v)

-- the number of the message that is made
message_reply-of_winners : (w : World) → replies.Message (length (world_of_winners w).messages) ≡ replies.Message (length w.messages)
message_reply-of_winners w = ap replies.Message (length-map w.messages message_of_winners)

-- an event is answered the same in a world of winners
pub reply-of_winners : (e : Event) (w : World) → reply_to_event (world_of_winners w) e ≡ reply_to_event w e
reply-of_winners (Edit r o step n) w = stamp_reply-of_winners w r o step (Put n)
reply-of_winners (Withdraw r o step) w = stamp_reply-of_winners w r o step Withdrawn
reply-of_winners (Import r es) w =
    touched_reply-of_winners w r (from_list es.items) (from_list es.items) (winners_of_one_part (replica_at w r).edits (from_list es.items))
reply-of_winners (Send r) w = message_reply-of_winners w
reply-of_winners (Heads r) w = message_reply-of_winners w
reply-of_winners (Beyond r m) w = message_reply-of_winners w
reply-of_winners (Take r m) w =
    let carried : Edits = carried_edits (slice_get w.messages m) in
    ap (λ (s : Edits). touched_reply (world_of_winners w) r s) (carried-of_winners w m)
    ∙ touched_reply-of_winners w r (winners carried) carried (winners_of_both_parts (replica_at w r).edits carried)
reply-of_winners (Advance r to) w = ap (λ (x : WorldReplica). replies.Horizon (max x.horizon to)) (replica-of_winners w r)

-- ---- the causes of refusals

-- a message of winners carries edits if the message does
edits_wanted_of_winners : (o : Option Message) → edits_wanted_fault (option_map message_of_winners o) ≡ edits_wanted_fault o
edits_wanted_of_winners None = refl
edits_wanted_of_winners (Some (Whole s)) = refl
edits_wanted_of_winners (Some (Answer s)) = refl
edits_wanted_of_winners (Some (Asked hs)) = refl

-- a message of winners has heads if the message does
heads_wanted_of_winners : (o : Option Message) → heads_wanted_fault (option_map message_of_winners o) ≡ heads_wanted_fault o
heads_wanted_of_winners None = refl
heads_wanted_of_winners (Some (Whole s)) = refl
heads_wanted_of_winners (Some (Answer s)) = refl
heads_wanted_of_winners (Some (Asked hs)) = refl

-- the edit that a replica would make has the same fault
own_edit_fault-of_winners : (w : World) (r : ℕ) (o : Object) (step : ℕ) (v : Value)
    → option_map faults.Replica (option_map own_edit_fault (fault_of_edit w.plan (local_edit r (replica_at (world_of_winners w) r).edits o step v))) ≡ option_map faults.Replica (option_map own_edit_fault (fault_of_edit w.plan (local_edit r (replica_at w r).edits o step v)))
own_edit_fault-of_winners w r o step v =
    ap (λ (e : edits.Edit). option_map faults.Replica (option_map own_edit_fault (fault_of_edit w.plan e))) (local_edit-of_winners w r o step v)

-- if the replica exists, an event is refused for the same cause
pub fault_at-of_winners : (e : Event) (w : World) → fault_at_replica (world_of_winners w) e ≡ fault_at_replica w e
fault_at-of_winners (Edit r o step n) w = own_edit_fault-of_winners w r o step (Put n)
fault_at-of_winners (Withdraw r o step) w = own_edit_fault-of_winners w r o step Withdrawn
fault_at-of_winners (Import r es) w = refl
fault_at-of_winners (Send r) w = refl
fault_at-of_winners (Heads r) w = refl
fault_at-of_winners (Beyond r m) w =
    ap heads_wanted_fault (slice_get-map message_of_winners w.messages m) ∙ heads_wanted_of_winners (slice_get w.messages m)
fault_at-of_winners (Take r m) w =
    ap edits_wanted_fault (slice_get-map message_of_winners w.messages m) ∙ edits_wanted_of_winners (slice_get w.messages m)
fault_at-of_winners (Advance r to) w = refl

-- an event is refused in a world of winners for the cause for which it is in the world
pub fault-of_winners : (e : Event) (w : World) → fault_of_event (world_of_winners w) e ≡ fault_of_event w e
fault-of_winners e w =
    ap (λ (n : ℕ). if nat_lt (replica_number e) n then fault_at_replica (world_of_winners w) e else Some NoReplica) (length-map w.replicas replica_of_winners)
    ∙ ap (λ (f : Option WorldFault). if nat_lt (replica_number e) (length w.replicas) then f else Some NoReplica) (fault_at-of_winners e w)

-- ---- the answer to an event

-- an answer that is possible in a world of winners is possible in the world
pub answer-from_winners : (w : World) (e : Event) (reply : Result Reply WorldFault) → IsAnswer (world_of_winners w) e reply → IsAnswer w e reply
answer-from_winners w e (Ok reply) h = (sym (fault-of_winners e w) ∙ h.0, h.1 ∙ reply-of_winners e w)
answer-from_winners w e (Err fault) h =
    let Refused : Option WorldFault → Type 0 = λ cause. IsRefusal e cause fault in
    subst Refused (fault-of_winners e w) h
