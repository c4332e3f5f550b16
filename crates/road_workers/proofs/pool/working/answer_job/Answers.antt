-- What was sent is the result of the job.
use Rattle.road_workers.proofs.pool.working.answer_job.Goals as goal

pub returns-clause-taken : goal.returns-clause-taken
returns-clause-taken g c is = (c.do_job-done.result, c.do_job-done.ensures, c.deliver.ensures.taken is)

pub returns-clause-nobody : goal.returns-clause-nobody
returns-clause-nobody g c is = (c.do_job-done.result, c.do_job-done.ensures, c.deliver.ensures.nobody is)
