-- One more event is played, from the opening world on.
use Rattle.std.proofs.Common.{◌≡◌, ◌≤◌, ◌+◌, ◌++◌, ◌∷◌, ◌∙◌, [], ℕ, List, length, take, ap, arith, subst, sym}
use Rattle.std.specs.Arc.{arc_value}
use Rattle.std.specs.Prelude.{Result}
use Rattle.std.proofs.lemmas.List.{length_push, take_more, take_all}
use Rattle.road_plan.specs.Plan.{Plan}
use Rattle.road_replica.specs.declared.reply.Reply.{Reply}
use Rattle.road_world.specs.Answers.{gone_after_answer, gone_after_answers}
use Rattle.road_world.specs.Events.{World}
use Rattle.road_world.specs.declared.event.Event.{Event}
use Rattle.road_world.specs.declared.faults.WorldFault.{WorldFault}
use Rattle.road_world.proofs.EventLists.{gone-one_more}
use Rattle.road_world.proofs.EventSteps.{IsMetered, metered_all, metered_none, metered_one_more}
use Rattle.road_world.proofs.FreshStamps.{stamps_are_fresh}
use Rattle.road_world.proofs.HeadlineOfWinners.{headline}
use Rattle.road_world.proofs.PlayedEvents.{IsPlayed, played_none, played_one_more}
use Rattle.road_world.proofs.playing.play.Goals as goal

-- at the end of a loop over the events all of them are played
played_all : (plan : Plan) (count i : ℕ) (events : List Event) (replies : List (Result Reply WorldFault)) (world : World) → length events ≤ i → IsPlayed plan count (take i events) replies world → IsPlayed plan count events replies world
played_all plan count i events replies world all played = subst (λ (es : List Event). IsPlayed plan count es replies world) (take_all i events all) played

pub loop-event-init : goal.loop-event-init
loop-event-init g c =
    let plan = arc_value c.args.plan in
    let none = sym c.in_ok-replies.ensures.items in
    let opened = subst (λ (w : World). IsPlayed plan c.args.replicas [] [] w) (sym c.in_ok-world.ensures.world) (played_none plan c.args.replicas) in record {
      played = subst (λ (replies : List (Result Reply WorldFault)). IsPlayed plan c.args.replicas [] replies c.in_ok-world.world) none opened;
      gone = ap (λ (replies : List (Result Reply WorldFault)). gone_after_answers replies (g.C.Crew.times_gone c.args.crew.now)) none;
      metered = subst (λ (replies : List (Result Reply WorldFault)). IsMetered plan c.args.replicas [] replies c.args.meter.now c.args.meter.now) none (metered_none plan c.args.replicas c.args.meter.now);
      answered = c.in_ok-replies.ensures.len;
      room = c.in_ok-replies.ensures.capacity;
    }

pub loop-event-preserved : goal.loop-event-preserved
loop-event-preserved g c =
    let plan = arc_value c.args.plan in
    let events = take c.loop-event.event-index c.args.events.now in
    let replies = c.loop-event.replies.items in
    let event = c.event-item.result in
    let reply = c.apply-reply.result in
    let new = c.apply-reply.new.self in
    let start = g.C.Crew.times_gone c.args.crew.now in
    let more : events ++ event ∷ [] ≡ take (c.loop-event.event-index + 1) c.args.events.now =
    ap (λ (e : Event). events ++ e ∷ []) c.event-item.is ∙ sym (take_more c.args.events.now c.loop-event.event-index event c.loop-event-test.true) in
    let added = sym c.in_ok-add.ensures.added in
    let grown = ap (λ (rs : List (Result Reply WorldFault)). length rs) c.in_ok-add.ensures.added ∙ length_push replies reply in
    let answered = c.loop-event.invariant.answered in
    let room = c.loop-event.invariant.room in
    let kept = c.in_ok-add.ensures.capacity in
    let e = c.apply-reply.ensures in
    let played = played_one_more plan c.args.replicas events replies c.loop-event.world new event c.loop-event.invariant.played reply e.applied.answer e.applied.after e.applied.unchanged in
    let metered = metered_one_more plan c.args.replicas events replies c.loop-event.world new event reply c.args.meter.now c.loop-event.meter c.apply-reply.new.meter
    c.loop-event.invariant.played c.loop-event.invariant.metered e.applied in record {
      played = subst (λ (es : List Event). IsPlayed plan c.args.replicas es c.add.new.replies.items new) more
          (subst (λ (rs : List (Result Reply WorldFault)). IsPlayed plan c.args.replicas (events ++ event ∷ []) rs new) added played);
      gone = e.gone ∙ ap (gone_after_answer reply) c.loop-event.invariant.gone ∙ sym (gone-one_more replies reply start) ∙ ap (λ (rs : List (Result Reply WorldFault)). gone_after_answers rs start) added;
      metered = subst (λ (es : List Event). IsMetered plan c.args.replicas es c.add.new.replies.items c.args.meter.now c.apply-reply.new.meter) more
          (subst (λ (rs : List (Result Reply WorldFault)). IsMetered plan c.args.replicas (events ++ event ∷ []) rs c.args.meter.now c.apply-reply.new.meter) added metered);
      answered = omega (arith, c.add.new.replies.ok.0, grown, c.loop-event.replies.ok.0, answered);
      room = omega (arith, room, kept);
    }

pub returns-clause-headline : goal.returns-clause-headline
returns-clause-headline g c =
    let all = played_all (arc_value c.args.plan) c.args.replicas c.loop-event.event-index c.args.events.now c.loop-event.replies.items c.loop-event.world c.loop-event-test.false c.loop-event.invariant.played in
    headline (arc_value c.args.plan) c.args.replicas c.args.events.now c.loop-event.replies.items c.loop-event.world all.holds

pub returns-clause-answers : goal.returns-clause-answers
returns-clause-answers g c =
    (played_all (arc_value c.args.plan) c.args.replicas c.loop-event.event-index c.args.events.now c.loop-event.replies.items c.loop-event.world c.loop-event-test.false c.loop-event.invariant.played).answers

pub returns-clause-world : goal.returns-clause-world
returns-clause-world g c =
    (played_all (arc_value c.args.plan) c.args.replicas c.loop-event.event-index c.args.events.now c.loop-event.replies.items c.loop-event.world c.loop-event-test.false c.loop-event.invariant.played).holds

pub returns-clause-messages : goal.returns-clause-messages
returns-clause-messages g c =
    let all = played_all (arc_value c.args.plan) c.args.replicas c.loop-event.event-index c.args.events.now c.loop-event.replies.items c.loop-event.world c.loop-event-test.false c.loop-event.invariant.played in
    ap (λ (w : World). w.messages) all.holds

pub returns-clause-stamps : goal.returns-clause-stamps
returns-clause-stamps g c =
    let all = played_all (arc_value c.args.plan) c.args.replicas c.loop-event.event-index c.args.events.now c.loop-event.replies.items c.loop-event.world c.loop-event-test.false c.loop-event.invariant.played in
    stamps_are_fresh (arc_value c.args.plan) c.args.replicas c.args.events.now c.loop-event.replies.items c.requires all.answers

pub returns-clause-steps : goal.returns-clause-steps
returns-clause-steps g c =
    metered_all (arc_value c.args.plan) c.args.replicas c.loop-event.event-index c.args.events.now c.loop-event.replies.items c.args.meter.now c.loop-event.meter c.loop-event-test.false c.loop-event.invariant.metered

pub returns-in_err-add-clause-no_steps : goal.returns-in_err-add-clause-no_steps
returns-in_err-add-clause-no_steps g c =
    let answered = c.loop-event.invariant.answered in
    let room = c.loop-event.invariant.room in
    let more = c.loop-event-test.true in
    let full = c.in_err-add.ensures.full in
    absurd (omega (arith, answered, room, more, full))

pub returns-in_err-add-clause-not_gone : goal.returns-in_err-add-clause-not_gone
returns-in_err-add-clause-not_gone g c =
    let answered = c.loop-event.invariant.answered in
    let room = c.loop-event.invariant.room in
    let more = c.loop-event-test.true in
    let full = c.in_err-add.ensures.full in
    absurd (omega (arith, answered, room, more, full))
