-- The numbers of steps that events cost: as many in a world of winners as in the world, and what one more event adds.
use Rattle.std.proofs.Common.{◌≡◌, ◌≢◌, ◌≤◌, ◌+◌, ◌-◌, ◌^◌, ◌∙◌, ℕ, zero, suc, min, max, List, [], ◌∷◌, ◌++◌, length, take, Option, Some, None, refl, ap, sym, subst, arith}
use Rattle.std.specs.Prelude.{Result}
use Rattle.std.specs.List.{slice_get}
use Rattle.std.specs.declared.result.Result.TheVariants.{Ok, Err}
use Rattle.std.proofs.lemmas.List.{take_all}
use Rattle.lattice_core.specs.Sets.{items, union, from_list}
use Rattle.road_plan.specs.Plan.{Plan}
use Rattle.road_plan.specs.declared.object.Object.{Object}
use Rattle.road_scenario.specs.Edits.{Edits}
use Rattle.road_scenario.specs.Touched.{first_touched_step_in}
use Rattle.road_scenario.specs.Winners.{join, winners}
use Rattle.road_scenario.specs.declared.edit.Edit as edits
use Rattle.road_scenario.specs.declared.edit.Value.{Value}
use Rattle.road_scenario.specs.declared.edit.Value.TheVariants.{Withdrawn, Put}
use Rattle.road_rewind.specs.Growth.{TicksAtMost, kept_step, meter_after, most_steps, touched_step}
use Rattle.road_sheet.specs.Drafts.{draft_start}
use Rattle.road_replica.specs.Replicas.{local_edit, single_edit}
use Rattle.road_replica.specs.declared.reply.Reply.{Reply}
use Rattle.road_world.specs.Answers.{AreAnswers, fault_of_event, sheet_at}
use Rattle.road_world.specs.Applied.{IsApplied}
use Rattle.road_world.specs.Events.{World, WorldReplica, accepted_events, carried_edits, opening_world, replica_at, world_after_event, world_after_events, world_of_events, world_of_winners}
use Rattle.road_world.specs.Steps.{most_steps_of_event, most_wasted_steps, most_wasted_steps_of_events, steps_of_answer, steps_of_event, steps_of_events, steps_unless, sum_of_answers}
use Rattle.road_world.specs.declared.event.Event.{Event}
use Rattle.road_world.specs.declared.event.Event.TheVariants.{Edit, Withdraw, Import, Send, Heads, Beyond, Take, Advance}
use Rattle.road_world.specs.declared.faults.WorldFault.{WorldFault}
use Rattle.road_world.proofs.PlayedEvents.{IsPlayed}
use Rattle.road_world.proofs.WinnersSuffice.{carried-of_winners, fault-of_winners, local_edit-of_winners, replica-of_winners, winners_again, winners_of_both_parts, winners_of_one_part}

-- the answer to an event: a reply, or why it is refused
abbrev EventAnswer : Type 0
EventAnswer = Result Reply WorldFault

-- ---- ticks

-- ticks after ticks add up
ticks_after : (meter first second : ℕ) → meter_after (meter_after meter first) second ≡ meter_after meter (first + second)
ticks_after meter first zero = let e : first ≡ first + 0 = omega arith in ap (meter_after meter) e
ticks_after meter first (suc second) =
    let e : suc (first + second) ≡ first + suc second = omega arith in
    ap (λ n. min (n + 1) (2 ^ 64 - 1)) (ticks_after meter first second) ∙ ap (meter_after meter) e

-- exact ticks and possible further ticks add up
ticks_of_both : (a b s t meter now later : ℕ) → TicksAtMost a (meter_after meter s) now → TicksAtMost b (meter_after now t) later → TicksAtMost (a + b) (meter_after meter (s + t)) later
ticks_of_both a b s t meter now later first second =
    let p = first.few in
    let q = second.few in
    let m = first.ticks in
    let n = second.ticks in
    let sorted : s + m + t + n ≡ s + t + (m + n) = omega arith in record {
      ticks = m + n;
      few = omega (arith, p, q);
      counted = second.counted ∙ ap (λ k. meter_after (meter_after k t) n) (first.counted ∙ ticks_after meter s m)
          ∙ ap (λ k. meter_after k n) (ticks_after meter (s + m) t) ∙ ticks_after meter (s + m + t) n
          ∙ ap (meter_after meter) sorted ∙ sym (ticks_after meter (s + t) (m + n));
    }

-- if a named cause applies, nothing is counted
ticks_unless : (cause : Option WorldFault) (most now later : ℕ) → (cause ≢ None → later ≡ now) → TicksAtMost most now later → TicksAtMost (steps_unless cause most) now later
ticks_unless None most now later named few = few
ticks_unless (Some cause) most now later named few = record { ticks = 0; few = omega arith; counted = named (λ h. cc) }

-- what is counted for an event and its answer
ticks_of_answer : (event : Event) (reply : EventAnswer) (old new : World) (now later : ℕ) → IsApplied event reply old new now later → TicksAtMost (most_wasted_steps old event reply) (meter_after now (steps_of_answer old event reply)) later
ticks_of_answer event (Ok reply) old new now later applied = record { ticks = 0; few = omega arith; counted = applied.steps }
ticks_of_answer event (Err fault) old new now later applied =
    ticks_unless (fault_of_event old event) (most_steps_of_event old event) now later applied.named applied.few_steps

-- ---- winners suffice

-- the first touched step, if the unions have the same winners
touched-of_winners : (w : World) (r : ℕ) (s t : Edits) → winners (union (winners (replica_at w r).edits) s) ≡ winners (union (replica_at w r).edits t) → touched_step (sheet_at (world_of_winners w) r) s ≡ touched_step (sheet_at w r) t
touched-of_winners w r s t e =
    let held : Edits = (replica_at w r).edits in
    ap (λ (x : WorldReplica). first_touched_step_in (items (winners x.edits)) (items (winners (join x.edits s)))) (replica-of_winners w r)
    ∙ ap (λ (u : Edits). first_touched_step_in (items u) (items (winners (join (winners held) s)))) (winners_again held)
    ∙ ap (λ (u : Edits). first_touched_step_in (items (winners held)) (items (winners u))) e

-- so as many steps are computed if these edits are taken
taking-of_winners : (read : ℕ → Option ℕ → ℕ) (w : World) (r : ℕ) (s t : Edits) → winners (union (winners (replica_at w r).edits) s) ≡ winners (union (replica_at w r).edits t) → read (sheet_at (world_of_winners w) r).horizon (touched_step (sheet_at (world_of_winners w) r) s) ≡ read (sheet_at w r).horizon (touched_step (sheet_at w r) t)
taking-of_winners read w r s t e =
    ap (λ (x : WorldReplica). read x.horizon (touched_step (sheet_at (world_of_winners w) r) s)) (replica-of_winners w r)
    ∙ ap (read (replica_at w r).horizon) (touched-of_winners w r s t e)

-- as many steps are computed if a replica makes an edit
edit-of_winners : (read : ℕ → Option ℕ → ℕ) (w : World) (r : ℕ) (object : Object) (step : ℕ) (value : Value)
    → read (sheet_at (world_of_winners w) r).horizon (touched_step (sheet_at (world_of_winners w) r) (single_edit (local_edit r (replica_at (world_of_winners w) r).edits object step value)))
    ≡ read (sheet_at w r).horizon (touched_step (sheet_at w r) (single_edit (local_edit r (replica_at w r).edits object step value)))
edit-of_winners read w r object step value =
    let made : edits.Edit = local_edit r (replica_at w r).edits object step value in
    ap (λ (e : edits.Edit). read (sheet_at (world_of_winners w) r).horizon (touched_step (sheet_at (world_of_winners w) r) (single_edit e))) (local_edit-of_winners w r object step value)
    ∙ taking-of_winners read w r (single_edit made) (single_edit made) (winners_of_one_part (replica_at w r).edits (single_edit made))

-- as many steps are computed if a message is taken
carried-of_both : (read : ℕ → Option ℕ → ℕ) (w : World) (r message : ℕ)
    → read (sheet_at (world_of_winners w) r).horizon (touched_step (sheet_at (world_of_winners w) r) (carried_edits (slice_get (world_of_winners w).messages message)))
    ≡ read (sheet_at w r).horizon (touched_step (sheet_at w r) (carried_edits (slice_get w.messages message)))
carried-of_both read w r message =
    let carried : Edits = carried_edits (slice_get w.messages message) in
    ap (λ (s : Edits). read (sheet_at (world_of_winners w) r).horizon (touched_step (sheet_at (world_of_winners w) r) s)) (carried-of_winners w message)
    ∙ taking-of_winners read w r (winners carried) carried (winners_of_both_parts (replica_at w r).edits carried)

-- an advance adds the same steps
added-of_winners : (w : World) (r to : ℕ) → max (sheet_at (world_of_winners w) r).horizon to - (sheet_at (world_of_winners w) r).horizon ≡ max (sheet_at w r).horizon to - (sheet_at w r).horizon
added-of_winners w r to = ap (λ (x : WorldReplica). max x.horizon to - x.horizon) (replica-of_winners w r)

-- the number of steps computed, from the horizon and the touched step
abbrev computed_steps : ℕ → Option ℕ → ℕ
computed_steps horizon touched = horizon - draft_start horizon (kept_step horizon touched)

abbrev most : ℕ → Option ℕ → ℕ
most horizon touched = most_steps horizon horizon touched

-- an accepted event costs as many steps in a world of winners as in the world
steps-of_winners : (w : World) (event : Event) → steps_of_event (world_of_winners w) event ≡ steps_of_event w event
steps-of_winners w (Edit r object step number) = edit-of_winners computed_steps w r object step (Put number)
steps-of_winners w (Withdraw r object step) = edit-of_winners computed_steps w r object step Withdrawn
steps-of_winners w (Import r edits) =
    taking-of_winners computed_steps w r (from_list edits.items) (from_list edits.items) (winners_of_one_part (replica_at w r).edits (from_list edits.items))
steps-of_winners w (Send r) = refl
steps-of_winners w (Heads r) = refl
steps-of_winners w (Beyond r message) = refl
steps-of_winners w (Take r message) = carried-of_both computed_steps w r message
steps-of_winners w (Advance r to) = added-of_winners w r to

-- an event may cost at most as many steps in a world of winners as in the world
most_steps-of_winners : (w : World) (event : Event) → most_steps_of_event (world_of_winners w) event ≡ most_steps_of_event w event
most_steps-of_winners w (Edit r object step number) = edit-of_winners most w r object step (Put number)
most_steps-of_winners w (Withdraw r object step) = edit-of_winners most w r object step Withdrawn
most_steps-of_winners w (Import r edits) =
    taking-of_winners most w r (from_list edits.items) (from_list edits.items) (winners_of_one_part (replica_at w r).edits (from_list edits.items))
most_steps-of_winners w (Send r) = refl
most_steps-of_winners w (Heads r) = refl
most_steps-of_winners w (Beyond r message) = refl
most_steps-of_winners w (Take r message) = carried-of_both most w r message
most_steps-of_winners w (Advance r to) = added-of_winners w r to

-- an event with its answer costs as many steps in a world of winners as in the world
answer_steps-of_winners : (w : World) (event : Event) (reply : EventAnswer) → steps_of_answer (world_of_winners w) event reply ≡ steps_of_answer w event reply
answer_steps-of_winners w event (Ok reply) = steps-of_winners w event
answer_steps-of_winners w event (Err fault) = refl

wasted_steps-of_winners : (w : World) (event : Event) (reply : EventAnswer) → most_wasted_steps (world_of_winners w) event reply ≡ most_wasted_steps w event reply
wasted_steps-of_winners w event (Ok reply) = refl
wasted_steps-of_winners w event (Err fault) =
    ap (λ (cause : Option WorldFault). steps_unless cause (most_steps_of_event (world_of_winners w) event)) (fault-of_winners event w)
    ∙ ap (steps_unless (fault_of_event w event)) (most_steps-of_winners w event)

-- ---- one more event

-- one more event adds its count in the world after the events before it
sum-one_more : (count : World → Event → EventAnswer → ℕ) (w : World) (events : List Event) (replies : List EventAnswer) (event : Event) (reply : EventAnswer) → AreAnswers w events replies
    → sum_of_answers count w (events ++ event ∷ []) (replies ++ reply ∷ []) ≡ sum_of_answers count w events replies + count (world_after_events (accepted_events events replies) w) event reply
sum-one_more count w [] [] event reply h = omega arith
sum-one_more count w [] (past ∷ replies) event reply h = absurd h
sum-one_more count w (first ∷ events) [] event reply h = absurd h
sum-one_more count w (first ∷ events) (Ok past ∷ replies) event reply h =
    let e = sum-one_more count (world_after_event first w) events replies event reply h.1 in omega (arith, e)
sum-one_more count w (first ∷ events) (Err fault ∷ replies) event reply h =
    let e = sum-one_more count w events replies event reply h.1 in omega (arith, e)

-- ---- events that were played

-- for events that were played, a meter has counted exactly the steps of those that were accepted, and for the others at
-- most those that they may cost
abbrev pub IsMetered : Plan → ℕ → List Event → List EventAnswer → ℕ → ℕ → Type 0
IsMetered plan count events replies meter later =
    TicksAtMost (most_wasted_steps_of_events (opening_world plan count) events replies) (meter_after meter (steps_of_events (opening_world plan count) events replies)) later

-- before any event it has counted nothing
pub metered_none : (plan : Plan) (count meter : ℕ) → IsMetered plan count [] [] meter meter
metered_none plan count meter = record { ticks = 0; few = omega arith; counted = refl }

-- one more event
pub metered_one_more : (plan : Plan) (count : ℕ) (events : List Event) (replies : List EventAnswer) (old new : World) (event : Event) (reply : EventAnswer) (meter now later : ℕ)
    → IsPlayed plan count events replies old → IsMetered plan count events replies meter now → IsApplied event reply old new now later → IsMetered plan count (events ++ event ∷ []) (replies ++ reply ∷ []) meter later
metered_one_more plan count events replies old new event reply meter now later played metered applied =
    let start : World = opening_world plan count in
    let known : World = world_of_events plan count events replies in
    let steps : steps_of_answer old event reply ≡ steps_of_answer known event reply =
    ap (λ (w : World). steps_of_answer w event reply) played.holds ∙ answer_steps-of_winners known event reply in
    let wasted : most_wasted_steps old event reply ≡ most_wasted_steps known event reply =
    ap (λ (w : World). most_wasted_steps w event reply) played.holds ∙ wasted_steps-of_winners known event reply in
    let more : TicksAtMost (most_wasted_steps known event reply) (meter_after now (steps_of_answer known event reply)) later =
    subst (λ n. TicksAtMost (most_wasted_steps known event reply) (meter_after now n) later) steps
    (subst (λ n. TicksAtMost n (meter_after now (steps_of_answer old event reply)) later) wasted (ticks_of_answer event reply old new now later applied)) in
    subst (λ n. TicksAtMost n (meter_after meter (steps_of_events start (events ++ event ∷ []) (replies ++ reply ∷ []))) later) (sym (sum-one_more most_wasted_steps start events replies event reply played.answers))
    (subst (λ n. TicksAtMost (most_wasted_steps_of_events start events replies + most_wasted_steps known event reply) (meter_after meter n) later) (sym (sum-one_more steps_of_answer start events replies event reply played.answers))
    (ticks_of_both _ _ _ _ meter now later metered more))

-- at the end of a loop over the events a meter has counted the steps of all
pub metered_all : (plan : Plan) (count i : ℕ) (events : List Event) (replies : List EventAnswer) (meter later : ℕ) → length events ≤ i → IsMetered plan count (take i events) replies meter later → IsMetered plan count events replies meter later
metered_all plan count i events replies meter later all metered = subst (λ (es : List Event). IsMetered plan count es replies meter later) (take_all i events all) metered
