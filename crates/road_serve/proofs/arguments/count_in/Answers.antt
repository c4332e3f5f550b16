-- A text names a number of workers if it is parsed as 1 to 16, and otherwise names none.
use Rattle.std.proofs.Common.{◌∙◌, inl, inr, sym, arith}
use Rattle.road_serve.proofs.WorkerCounts.{counted_parse, uncounted_parse, unparsed}
use Rattle.road_serve.proofs.arguments.count_in.Goals as goal

pub returns-in_err-count-clause-number : goal.returns-in_err-count-clause-number
returns-in_err-count-clause-number c =
    c.from_residual.ensures ∙ unparsed c.args.text.now c.parse.result c.parse.ensures.value.0 (sym c.ok.ensures.value ∙ c.in_err-count.was)

pub returns-then-count-eq0-clause-number : goal.returns-then-count-eq0-clause-number
returns-then-count-eq0-clause-number c =
    uncounted_parse c.args.text.now c.parse.result c.in_ok-count.count c.parse.ensures.value.0 (sym c.ok.ensures.value ∙ c.in_ok-count.was)
    (elim c.then-count-eq0.either [ inl zero ↦ inl zero | inr many ↦ inr many.1 ])

pub returns-clause-number : goal.returns-clause-number
returns-clause-number c =
    counted_parse c.args.text.now c.parse.result c.in_ok-count.count c.parse.ensures.value.0 (sym c.ok.ensures.value ∙ c.in_ok-count.was)
    (omega (arith, c.if-count-eq0.false)) c.if-count-gt-MOST_WORKERS.false
