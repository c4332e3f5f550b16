-- A world in which some events were played: what it holds, and the effect of one more event.
use Rattle.std.proofs.Common.{◌≡◌, ℕ, List, [], ◌∷◌, ◌++◌, ap, sym, subst, ◌∙◌}
use Rattle.std.specs.Prelude.{OnErr, OnOk, Result}
use Rattle.std.specs.declared.result.Result.TheVariants.{Ok, Err}
use Rattle.road_plan.specs.Plan.{Plan}
use Rattle.road_replica.specs.declared.reply.Reply.{Reply}
use Rattle.road_world.specs.Answers.{IsAnswer, AreAnswers}
use Rattle.road_world.specs.Events.{World, opening_world, world_after_event, world_of_events, world_of_winners}
use Rattle.road_world.specs.declared.event.Event.{Event}
use Rattle.road_world.specs.declared.faults.WorldFault.{WorldFault}
use Rattle.road_world.proofs.EventLists.{answers-one_more, world-one_more}
use Rattle.road_world.proofs.WinnersSuffice.{answer-from_winners, event-of_winners, opening_world-of_winners}

-- the world is that of the events (only the winners), and each event has its answer
pub record IsPlayed (plan : Plan) (count : ℕ) (events : List Event) (replies : List (Result Reply WorldFault)) (world : World) : Type 0 where
  pub holds : world ≡ world_of_winners (world_of_events plan count events replies)
  pub answers : AreAnswers (opening_world plan count) events replies

-- before any event the world is the opening world
pub played_none : (plan : Plan) (count : ℕ) → IsPlayed plan count [] [] (opening_world plan count)
played_none plan count = record { holds = sym (opening_world-of_winners plan count); answers = tt }

-- one more event
module _ (plan : Plan) (count : ℕ) (events : List Event) (replies : List (Result Reply WorldFault)) (old new : World) (event : Event) (played : IsPlayed plan count events replies old) where
  -- the world that the events before it make
  abbrev known : World
  known = world_of_events plan count events replies

  -- the effect on the stored world
  more_holds : (reply : Result Reply WorldFault) → OnOk reply (new ≡ world_of_winners (world_after_event event old)) → OnErr reply (new ≡ old)
      → new ≡ world_of_winners (world_of_events plan count (events ++ event ∷ []) (replies ++ reply ∷ []))
  more_holds (Ok reply) done same =
      done ∙ ap (λ (w : World). world_of_winners (world_after_event event w)) played.holds ∙ event-of_winners event known
      ∙ ap world_of_winners (sym (world-one_more (opening_world plan count) events replies event (Ok reply) played.answers))
  more_holds (Err fault) done same =
      same ∙ played.holds
      ∙ ap world_of_winners (sym (world-one_more (opening_world plan count) events replies event (Err fault) played.answers))

  -- the answer in the stored world is the answer after the events before
  more_answers : (reply : Result Reply WorldFault) → IsAnswer old event reply → AreAnswers (opening_world plan count) (events ++ event ∷ []) (replies ++ reply ∷ [])
  more_answers reply answer =
      let Answered : World → Type 0 = λ w. IsAnswer w event reply in
      answers-one_more (opening_world plan count) events replies event reply played.answers (answer-from_winners known event reply (subst Answered played.holds answer))

  -- the events are played, with one more
  pub played_one_more : (reply : Result Reply WorldFault) → IsAnswer old event reply → OnOk reply (new ≡ world_of_winners (world_after_event event old)) → OnErr reply (new ≡ old)
      → IsPlayed plan count (events ++ event ∷ []) (replies ++ reply ∷ []) new
  played_one_more reply answer done same = record { holds = more_holds reply done same; answers = more_answers reply answer }
