-- All jobs were sent, so each worker took its piece. A worker is lost only if none was sent to it, or it says so.
use Rattle.std.proofs.Common.{rules, arith, ◌≡◌, ◌<◌, IsOk, length, inr}
use Rattle.std.specs.Arc.{arc_value}
use Rattle.std.specs.declared.result.Result.TheVariants.{Err}
use Rattle.road_workers.specs.declared.faults.CrewFault.TheVariants as Fault
use Rattle.road_workers.specs.Private.Jobs.{IsPieceJob}
use Rattle.road_workers.proofs.pool.stepping.speeds_by.Goals as goal

pub returns-clause-sent : goal.returns-clause-sent
returns-clause-sent g c = λ w below.
    let ok : IsOk c.send_each-jobs.result.1 = let is = c.in_ok-sent.is in search rules in
    let all = c.send_each-jobs.ensures.all ok in
    let sent : w < c.send_each-jobs.result.0 = grind (rules, arith) in
    let its = c.send_each-jobs.ensures.took w sent in
    let job = its.0 in
    let made = its.1 in
    let is_its : IsPieceJob (arc_value c.args.input.now) (length c.args.workers.now) w job = search rules in
    (job, is_its, its.2)

pub returns-in_err-sent-clause-gone : goal.returns-in_err-sent-clause-gone
returns-in_err-sent-clause-gone g c = λ gone.
    let is = c.in_err-sent.is in
    let branch = c.branch-sent.ensures in
    let from = c.from_residual-in_err-sent.ensures in
    let why : c.send_each-jobs.result.1 ≡ Err Fault.WorkersGone = search rules in
    inr (c.send_each-jobs.result.0, c.send_each-jobs.ensures.gone why)
