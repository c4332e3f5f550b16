-- What a worker of a pool is to compute, and what it sends back.
use Rattle.std.specs.Prelude.{◌≡◌, ℕ, ◌+◌, ◌<◌, List, length, slice_index_or, Result}
use Rattle.std.specs.Arc.{arc_value}
use Rattle.std.specs.Borrow.{Bor}
use Rattle.std.specs.declared.alloc.AllocError.{AllocError}
use Rattle.std.specs.declared.result.Result.TheVariants.{Ok, Err}
use Rattle.crossbeam_channel.specs.declared.err.SendError.{SendError}
use Rattle.crossbeam_channel.specs.declared.err.SendError.TheVariants.{Disconnected}
use Rattle.road_cells.specs.Array.{Array}
use Rattle.road_cells.specs.Cars.{cars_of}
use Rattle.road_ends.specs.Input.{StepInput}
use Rattle.road_ends.specs.Laws.{AgreeNear}
use Rattle.road_ends.specs.Span.{Span}
use Rattle.road_workers.specs.Private.Pieces.{piece_start}
use Rattle.road_workers.specs.Private.Stretches.{cut}
use Rattle.road_workers.specs.declared.pool.Worker.{Worker}
use Rattle.road_workers.specs.declared.pool.job.Job.{Job}
use Rattle.road_workers.specs.declared.pool.job.JobSender.{JobSender}
use Rattle.road_workers.specs.declared.pool.job.Job.TheVariants as jobs
use Rattle.road_workers.specs.declared.pool.job.Done.{Done}
use Rattle.road_workers.specs.declared.pool.job.Done.TheVariants as results

-- a result is that of this job: of the same piece, or of the same stretch, whether there was memory for it or not
abbrev pub IsAnswerTo : Job → Done → Type 0
IsAnswerTo (jobs.Piece job) (results.Piece done) = (done.input ≡ job.input) × (done.piece ≡ job.piece)
IsAnswerTo (jobs.Stretch job) (results.Stretch done) =
    (done.span ≡ job.span) × (done.near ≡ job.near) × (done.stretch ≡ job.stretch)
IsAnswerTo (jobs.Piece job) (results.Stretch done) = ⊥
IsAnswerTo (jobs.Stretch job) (results.Piece done) = ⊥

-- this is the job of the piece of worker w of this step, of n workers
abbrev pub IsPieceJob : StepInput → ℕ → ℕ → Job → Type 0
IsPieceJob input n w (jobs.Piece job) = (arc_value job.input ≡ input)
    × (job.piece.first ≡ piece_start n (length (cars_of input.road)) w)
    × (job.piece.end ≡ piece_start n (length (cars_of input.road)) (w + 1))
IsPieceJob input n w (jobs.Stretch job) = ⊥

-- this is the job of the stretch of worker w of this road, of n workers. Before their stretches the caller has `own`
-- stretches
abbrev pub IsStretchJob : Span → Array → ℕ → ℕ → ℕ → Job → Type 0
IsStretchJob span a own n w (jobs.Piece job) = ⊥
IsStretchJob span a own n w (jobs.Stretch job) = (job.span ≡ span)
    × (job.stretch.first ≡ cut span.plan.cells (cars_of a) (own + n) (own + w))
    × (job.stretch.end ≡ cut span.plan.cells (cars_of a) (own + n) (own + w + 1))
    × AgreeNear span.steps job.stretch.first job.stretch.end job.near a

-- what making the job of a worker may return
abbrev pub Makes : Type 1
Makes = ℕ → Result Job AllocError → Type 0

-- what sending a job on a channel may return
abbrev pub Sends : Type 1
Sends = Bor JobSender → Job → Result Unit (SendError Job) → Type 0

-- this job was sent on the channel of worker w, with this result
abbrev pub IsAnswered : Sends → List Worker → ℕ → Job → Result Unit (SendError Job) → Type 0
IsAnswered sends workers w job answer = (channel : Bor JobSender)
    × ((d : Worker) → channel.now ≡ (slice_index_or workers w d).jobs) × sends channel job answer

-- worker w took a job that was made for it
abbrev pub Took : Makes → Sends → List Worker → ℕ → Type 0
Took makes sends workers w = (job : Job) × makes w (Ok job) × IsAnswered sends workers w job (Ok tt)

-- worker w took the job of its piece of this step
abbrev pub TookPiece : Sends → List Worker → StepInput → ℕ → Type 0
TookPiece sends workers input w =
    (job : Job) × IsPieceJob input (length workers) w job × IsAnswered sends workers w job (Ok tt)

-- worker w took the job of its stretch of this road. Before the stretches of the workers the caller has `own` stretches
abbrev pub TookStretch : Sends → List Worker → Span → Array → ℕ → ℕ → Type 0
TookStretch sends workers span a own w =
    (job : Job) × IsStretchJob span a own (length workers) w job × IsAnswered sends workers w job (Ok tt)

-- worker w has gone: it took no job
abbrev pub HasGone : Sends → List Worker → ℕ → Type 0
HasGone sends workers w =
    (w < length workers) × ((job back : Job) × IsAnswered sends workers w job (Err (Disconnected back)))
