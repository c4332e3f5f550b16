-- Lists of events: the effect of one more event on the world, the answers and the crew's count, and what stays the
-- same.
use Rattle.std.proofs.Common.{◌≡◌, ℕ, List, [], ◌∷◌, ◌++◌, length, refl, ◌∙◌}
use Rattle.std.specs.Prelude.{Result}
use Rattle.std.specs.declared.result.Result.TheVariants.{Ok, Err}
use Rattle.std.proofs.lemmas.List.{length-set, length-replicate, length-map}
use Rattle.road_plan.specs.Plan.{Plan}
use Rattle.road_replica.specs.declared.reply.Reply.{Reply}
use Rattle.road_world.specs.Answers.{IsAnswer, world_after_answer, AreAnswers, gone_after_answer, gone_after_answers}
use Rattle.road_world.specs.Events.{World, opening_replica, opening_world, world_after_event, world_after_events, accepted_events, world_of_events, replica_of_winners, world_of_winners}
use Rattle.road_world.specs.declared.event.Event.{Event}
use Rattle.road_world.specs.declared.event.Event.TheVariants.{Edit, Withdraw, Import, Send, Heads, Beyond, Take, Advance}
use Rattle.road_world.specs.declared.faults.WorldFault.{WorldFault}

-- the answer to an event: a reply, or why it is refused
abbrev EventAnswer : Type 0
EventAnswer = Result Reply WorldFault

-- ---- one more event

-- the world after the accepted events of a list and one more
pub world-one_more : (w : World) (events : List Event) (replies : List EventAnswer) (event : Event) (reply : EventAnswer) → AreAnswers w events replies
    → world_after_events (accepted_events (events ++ event ∷ []) (replies ++ reply ∷ [])) w ≡ world_after_answer event reply (world_after_events (accepted_events events replies) w)
world-one_more w [] [] event (Ok reply) h = refl
world-one_more w [] [] event (Err fault) h = refl
world-one_more w [] (past ∷ replies) event reply h = absurd h
world-one_more w (first ∷ events) [] event reply h = absurd h
world-one_more w (first ∷ events) (Ok past ∷ replies) event reply h =
    world-one_more (world_after_event first w) events replies event reply h.1
world-one_more w (first ∷ events) (Err fault ∷ replies) event reply h = world-one_more w events replies event reply h.1

-- the answers to some events, and then the answer to one more in the world after them
pub answers-one_more : (w : World) (events : List Event) (replies : List EventAnswer) (event : Event) (reply : EventAnswer) → AreAnswers w events replies
    → IsAnswer (world_after_events (accepted_events events replies) w) event reply → AreAnswers w (events ++ event ∷ []) (replies ++ reply ∷ [])
answers-one_more w [] [] event reply h a = (a, tt)
answers-one_more w [] (past ∷ replies) event reply h a = absurd h
answers-one_more w (first ∷ events) [] event reply h a = absurd h
answers-one_more w (first ∷ events) (Ok past ∷ replies) event reply h a =
    (h.0, answers-one_more (world_after_event first w) events replies event reply h.1 a)
answers-one_more w (first ∷ events) (Err fault ∷ replies) event reply h a =
    (h.0, answers-one_more w events replies event reply h.1 a)

-- the number of times that the crew has returned that workers are gone
pub gone-one_more : (replies : List EventAnswer) (reply : EventAnswer) (n : ℕ) → gone_after_answers (replies ++ reply ∷ []) n ≡ gone_after_answer reply (gone_after_answers replies n)
gone-one_more [] reply n = refl
gone-one_more (past ∷ replies) reply n = gone-one_more replies reply (gone_after_answer past n)

-- ---- what stays

-- an event does not change the plan
plan-after_event : (event : Event) (w : World) → (world_after_event event w).plan ≡ w.plan
plan-after_event (Edit r object step number) w = refl
plan-after_event (Withdraw r object step) w = refl
plan-after_event (Import r edits) w = refl
plan-after_event (Send r) w = refl
plan-after_event (Heads r) w = refl
plan-after_event (Beyond r message) w = refl
plan-after_event (Take r message) w = refl
plan-after_event (Advance r to) w = refl

-- several events do not change the plan
pub plan-after_events : (events : List Event) (w : World) → (world_after_events events w).plan ≡ w.plan
plan-after_events [] w = refl
plan-after_events (event ∷ events) w = plan-after_events events (world_after_event event w) ∙ plan-after_event event w

-- an event does not change the number of replicas
pub replicas-after_event : (event : Event) (w : World) → length (world_after_event event w).replicas ≡ length w.replicas
replicas-after_event (Edit r object step number) w = length-set w.replicas r _
replicas-after_event (Withdraw r object step) w = length-set w.replicas r _
replicas-after_event (Import r edits) w = length-set w.replicas r _
replicas-after_event (Send r) w = refl
replicas-after_event (Heads r) w = refl
replicas-after_event (Beyond r message) w = refl
replicas-after_event (Take r message) w = length-set w.replicas r _
replicas-after_event (Advance r to) w = length-set w.replicas r _

-- several events do not change the number of replicas
pub replicas-after_events : (events : List Event) (w : World) → length (world_after_events events w).replicas ≡ length w.replicas
replicas-after_events [] w = refl
replicas-after_events (event ∷ events) w =
    replicas-after_events events (world_after_event event w) ∙ replicas-after_event event w

-- ---- from the opening world on

-- the world that events make has the given plan
pub plan-of_events : (plan : Plan) (count : ℕ) (events : List Event) (replies : List EventAnswer) → (world_of_events plan count events replies).plan ≡ plan
plan-of_events plan count events replies = plan-after_events (accepted_events events replies) (opening_world plan count)

-- the world that events make has the given number of replicas
pub replicas-of_events : (plan : Plan) (count : ℕ) (events : List Event) (replies : List EventAnswer) → length (world_of_events plan count events replies).replicas ≡ count
replicas-of_events plan count events replies =
    replicas-after_events (accepted_events events replies) (opening_world plan count) ∙ length-replicate count opening_replica

-- so does the world with only the winners
pub replicas-of_winners : (plan : Plan) (count : ℕ) (events : List Event) (replies : List EventAnswer) → length (world_of_winners (world_of_events plan count events replies)).replicas ≡ count
replicas-of_winners plan count events replies =
    length-map (world_of_events plan count events replies).replicas replica_of_winners
    ∙ replicas-of_events plan count events replies
