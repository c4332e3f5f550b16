-- If the send was taken, the worker took the job that was made for it.
use Rattle.std.proofs.Common.{rules}
use Rattle.std.specs.declared.result.Result.TheVariants.{Ok, Err}
use Rattle.crossbeam_channel.specs.declared.err.SendError.TheVariants as Send
use Rattle.road_workers.proofs.Sends.{answered, if_gone, if_taken}
use Rattle.road_workers.proofs.pool.messages.send_one.Goals as goal

pub returns-clause-took : goal.returns-clause-took
returns-clause-took g c =
    let job = c.in_ok-job.job in
    let made : goal.M-post g c.args.make.now c.args.worker (Ok job) = search rules in
    if_taken _ c.result_of_send.result c.send.result c.result_of_send.ensures.gone c.result_of_send.ensures.no_memory
    (λ taken. (
      job,
      made,
      answered (goal.F-post g c.args.send.now) c.args.workers.now c.args.worker (Ok tt) c.send.ensures taken c.sender_of.ensures,
    ))

pub returns-clause-gone : goal.returns-clause-gone
returns-clause-gone g c =
    if_gone _ c.result_of_send.result c.send.result c.result_of_send.ensures.sent c.result_of_send.ensures.no_memory
    (λ back gone. (
      c.requires.there,
      (c.in_ok-job.job, back, answered (goal.F-post g c.args.send.now) c.args.workers.now c.args.worker (Err (Send.Disconnected back)) c.send.ensures gone c.sender_of.ensures),
    ))
