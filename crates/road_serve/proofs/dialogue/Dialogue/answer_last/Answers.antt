-- The end of the input: a last line without a newline, no line at all, or nothing left to answer.
use Rattle.std.proofs.Common.{◌≡◌, ◌∙◌, ◌++◌, ℕ, List, true, false, Some, IsSome, is_some, refl, ap, string_bytes}
use Rattle.std.proofs.lemmas.Result.{err_from_is_err_and}
use Rattle.road_serve.specs.Dialogue.{Dialogue}
use Rattle.road_serve.specs.StreamViews.{sink_view}
use Rattle.road_serve.specs.declared.faults.EarlyEnd.TheVariants.{BadPlan}
use Rattle.road_serve.proofs.Options.{not_some}
use Rattle.road_serve.proofs.DialogueSteps.{goes_on}
use Rattle.road_serve.proofs.DialogueEnds.{memory_at_end, rest_of, last_few, clear_ends, no_plan_ends}
use Rattle.road_serve.proofs.CrowdLines.{line_ends}
use Rattle.road_serve.proofs.GoneCounts.{counts_none}
use Rattle.road_serve.proofs.dialogue.Dialogue.answer_last.Goals as goal

pub returns-then-not-is_clear-clause-answered : goal.returns-then-not-is_clear-clause-answered
returns-then-not-is_clear-clause-answered g c lines bytes first h =
    let on = goes_on lines bytes first _ c.args.self.now h c.requires in
    let some = rest_of lines bytes c.args.self.now on (λ e. let clear : c.is_clear.result ≡ true = c.is_clear.ensures.1 e in cc) in
    line_ends lines bytes first (sink_view g.W.Sink c.answer.new.writer) c.answer.new.self c.answer.result _ _ on.few some (c.answer.ensures.answered lines bytes first h (last_few lines bytes on.few some))

pub returns-then-is_open-clause-answered : goal.returns-then-is_open-clause-answered
returns-then-is_open-clause-answered g c lines bytes first h =
    let is : c.is_clear.result ≡ true = cc in
    let clear = c.is_clear.ensures.0 is in
    let some : IsSome c.args.self.now.laboratory = cc in
    clear_ends lines bytes first _ c.args.self.now h c.requires clear some

pub returns-in_err-reply-clause-answered : goal.returns-in_err-reply-clause-answered
returns-in_err-reply-clause-answered g c lines bytes first h =
    let p = err_from_is_err_and c.from_residual.result c.from_residual.ensures.1 in
    rw (p.1, p.2) (record { stops = memory_at_end lines bytes first _ c.args.self.now h; counts = refl })

pub returns-clause-answered : goal.returns-clause-answered
returns-clause-answered g c lines bytes first h =
    let is : c.is_clear.result ≡ true = cc in
    let clear = c.is_clear.ensures.0 is in
    let isnt : is_some c.args.self.now.laboratory ≡ false = cc in
    let seen = c.self.view_is in
    let after : Dialogue = record {
      laboratory = c.self.inside.laboratory;
      line = c.self.inside.line;
      left = c.self.inside.left;
      waiting = c.append_reply.new.waiting.items;
      over = Some BadPlan;
    } in
    no_plan_ends lines bytes (string_bytes c.in_ok-reply.reply) (c.self.inside.waiting.items ++ c.as_bytes.result.now) first (sink_view g.W.Sink c.args.writer.now) (sink_view g.W.Sink c.append_reply.new.writer)
    c.args.self.now after c.append_reply.result _ _ h c.requires clear (not_some c.args.self.now.laboratory isnt)
    c.in_ok-reply.ensures (ap (λ (d : Dialogue). d.waiting ++ c.as_bytes.result.now) seen ∙ ap (λ (t : List ℕ). c.args.self.now.waiting ++ t) c.as_bytes.ensures.value) (c.append_reply.ensures.ok, c.append_reply.ensures.well, c.append_reply.ensures.err)
    refl (ap (λ (d : Dialogue). d.laboratory) seen) (ap (λ (d : Dialogue). d.left) seen)
    (counts_none c.append_reply.result _ _ _ c.append_reply.ensures.no_crew refl)
