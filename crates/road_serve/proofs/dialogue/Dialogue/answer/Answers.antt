-- The reply to a line is appended to the replies that wait, or the run stops there.
use Rattle.std.proofs.Common.{◌∙◌, ◌++◌, ◌∷◌, [], ℕ, List, ap, string_bytes}
use Rattle.std.proofs.lemmas.Result.{err_from_is_err_and}
use Rattle.std.specs.Prelude.{String}
use Rattle.std.specs.declared.alloc.Global.{Global}
use Rattle.road_format.specs.Cut.{newline}
use Rattle.road_serve.specs.Dialogue.{Dialogue}
use Rattle.road_serve.specs.StreamViews.{sink_view}
use Rattle.road_serve.proofs.DialogueSteps.{goes_on}
use Rattle.road_serve.proofs.DialogueCalls.{stops_unanswered, answer_ends}
use Rattle.road_serve.proofs.CrowdLines.{crowd_held}
use Rattle.road_serve.proofs.GoneCounts.{counts_none, unanswered_counts}
use Rattle.road_serve.proofs.dialogue.Dialogue.answer.Goals as goal

pub returns-in_err-reply-clause-answered : goal.returns-in_err-reply-clause-answered
returns-in_err-reply-clause-answered g c lines bytes first h few =
    let p = err_from_is_err_and c.from_residual.result c.from_residual.ensures.1 in
    let on = goes_on lines bytes first (sink_view g.W.Sink c.args.writer.now) c.args.self.now h c.requires in
    rw (p.1, p.2) (record {
      stops = stops_unanswered lines bytes _ _ first _ c.args.self.now _ h;
      counts = unanswered_counts (String Global) _ _ _ _ _ (crowd_held lines bytes c.args.self.now on few) c.in_err-reply.ensures.gone;
    })

pub returns-clause-answered : goal.returns-clause-answered
returns-clause-answered g c lines bytes first h few =
    let sink = sink_view g.W.Sink c.args.writer.now in
    let step = c.in_ok-reply.ensures.answered lines bytes (goes_on lines bytes first sink c.args.self.now h c.requires) few in
    let seen = c.self.view_is in
    let after : Dialogue = record {
      laboratory = c.self.inside.laboratory;
      line = c.self.inside.line;
      left = c.self.inside.left;
      waiting = c.append_reply.new.waiting.items;
      over = c.self.inside.over;
    } in
    answer_ends lines bytes (newline ∷ []) (string_bytes c.in_ok-reply.reply) (c.self.inside.waiting.items ++ c.as_bytes.result.now) first sink (sink_view g.W.Sink c.append_reply.new.writer) c.args.self.now c.reply.new.self
    after c.append_reply.result _ _ h step.0 step.1
    (ap (λ (d : Dialogue). d.waiting ++ c.as_bytes.result.now) seen ∙ ap (λ (w : List ℕ). w ++ c.as_bytes.result.now) c.in_ok-reply.ensures.waiting ∙ ap (λ (t : List ℕ). c.args.self.now.waiting ++ t) c.as_bytes.ensures.value)
    (c.append_reply.ensures.ok, c.append_reply.ensures.well, c.append_reply.ensures.err)
    (ap (λ (d : Dialogue). d.laboratory) seen) (ap (λ (d : Dialogue). d.left) seen) (ap (λ (d : Dialogue). d.line) seen) (ap (λ (d : Dialogue). d.over) seen)
    (counts_none c.append_reply.result _ _ _ c.append_reply.ensures.no_crew c.in_ok-reply.ensures.gone)
