-- A change that the world refuses is answered with its refusal, and leaves the laboratory unchanged.
use Rattle.std.proofs.Common.{◌∙◌, ◌<◌, ℕ, ap, sym, subst}
use Rattle.road_world.specs.Answers.{replica_number, reply_to_event}
use Rattle.road_commands.proofs.Outcomes.{change_named, refused_change}
use Rattle.road_commands.specs.Private.Changes.{names_message, reply_answer}
use Rattle.road_commands.proofs.laboratory.Laboratory.change.Goals as goal

pub returns-in-Err : goal.returns-in-Err
returns-in-Err g c =
    let lab = c.args.self.now in
    let event = c.args.event.now in
    let below = subst (λ (n : ℕ). replica_number event < n) (sym c.apply.ensures.replicas) c.requires.there in
    refused_change lab event c.in-Err.fault c.apply.new.self (g.C.Crew.times_gone c.args.crew.now) (g.C.Crew.times_gone c.apply.new.crew) below c.in-Err.ensures.answer
    c.in-Err.ensures.unchanged c.apply.ensures.winners c.in-Err.ensures.gone (reply_answer (reply_to_event lab.world event)) c.answer_of_fault.result c.answer_of_fault.ensures.answered c.answer_of_fault.ensures.lost

pub answer_of-requires : goal.answer_of-requires
answer_of-requires g c = ap names_message c.in-Ok.ensures.answer.1 ∙ change_named c.args.self.now.world c.args.event.now c.requires.no_message
