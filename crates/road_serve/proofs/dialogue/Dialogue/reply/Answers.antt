-- A line is answered by the laboratory, if there is one, or as the plan line.
use Rattle.std.proofs.Common.{◌∙◌, Some, refl, ap, sym, subst, string_bytes}
use Rattle.road_serve.specs.Dialogue.{Dialogue, GoesOn}
use Rattle.road_serve.proofs.Options.{none_of, some_of}
use Rattle.road_serve.proofs.DialogueSteps.{later_step, opening_step, refused_step}
use Rattle.road_serve.proofs.dialogue.Dialogue.reply.Goals as goal

pub returns-in-Some-clause-answered : goal.returns-in-Some-clause-answered
returns-in-Some-clause-answered g c lines bytes on few =
    let Family : Dialogue → Type 0 = λ d. GoesOn lines bytes d in
    let after : Dialogue = record {
      laboratory = Some c.later_reply.new.laboratory;
      line = c.clear.new.self;
      left = c.saturating_sub-self-inside.result;
      waiting = c.self.inside.waiting.items;
      over = c.self.inside.over;
    } in
    later_step lines bytes (string_bytes c.in_ok-reply.reply) _ after c.in-Some.laboratory c.later_reply.new.laboratory (subst Family (sym c.self.view_is) on) c.in-Some.is few
    c.in_ok-reply.ensures.text c.in_ok-reply.ensures.after
    refl c.saturating_sub-self-inside.ensures c.clear.ensures (ap (λ (d : Dialogue). d.over) c.self.view_is ∙ c.requires)

-- the plan line is refused
pub returns-then-is_none-clause-answered : goal.returns-then-is_none-clause-answered
returns-then-is_none-clause-answered g c lines bytes on few =
    let Family : Dialogue → Type 0 = λ d. GoesOn lines bytes d in
    refused_step lines bytes (string_bytes c.in_ok-reply-2.reply) _ c.in_ok-reply-2.laboratory (subst Family (sym c.self.view_is) on) c.in_default.is few
    c.in_ok-reply-2.ensures.text c.in_ok-reply-2.ensures.laboratory
    (none_of c.in_ok-reply-2.laboratory _ c.is_none.ensures c.if-is_none.true)

-- the plan line is accepted
pub returns-clause-answered : goal.returns-clause-answered
returns-clause-answered g c lines bytes on few =
    let Family : Dialogue → Type 0 = λ d. GoesOn lines bytes d in
    let after : Dialogue = record {
      laboratory = c.in_ok-reply-2.laboratory;
      line = c.clear-2.new.self;
      left = c.self.inside.left;
      waiting = c.self.inside.waiting.items;
      over = c.self.inside.over;
    } in
    opening_step lines bytes (string_bytes c.in_ok-reply-2.reply) _ after (subst Family (sym c.self.view_is) on) c.in_default.is few
    c.in_ok-reply-2.ensures.text c.in_ok-reply-2.ensures.laboratory
    (some_of c.in_ok-reply-2.laboratory _ c.is_none.ensures c.if-is_none.false)
    refl c.clear-2.ensures (ap (λ (d : Dialogue). d.over) c.self.view_is ∙ c.requires)
