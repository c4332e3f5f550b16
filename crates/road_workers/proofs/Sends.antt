-- What follows from the result of sending a job: the worker took it, or has gone.
use Rattle.std.specs.Prelude.{◌≡◌, ℕ, List, Result, slice_index_or, OnOk}
use Rattle.std.specs.Borrow.{Bor}
use Rattle.std.specs.declared.result.Result.TheVariants.{Ok, Err}
use Rattle.std.proofs.Common.{◌∙◌, refl, sym, subst}
use Rattle.crossbeam_channel.specs.declared.err.SendError.{SendError}
use Rattle.crossbeam_channel.specs.declared.err.SendError.TheVariants as Send
use Rattle.road_workers.specs.declared.faults.CrewFault.{CrewFault}
use Rattle.road_workers.specs.declared.faults.CrewFault.TheVariants as Fault
use Rattle.road_workers.specs.declared.pool.job.Job.{Job}
use Rattle.road_workers.specs.declared.pool.job.JobSender.{JobSender}
use Rattle.road_workers.specs.declared.pool.Worker.{Worker}
use Rattle.road_workers.specs.Private.Jobs.{IsAnswered, Sends}

-- what was sent was answered by the worker whose channel it is
pub answered : (sends : Sends) (workers : List Worker) (w : ℕ) {channel : Bor JobSender} {job : Job} {given : Result (Unit {0}) (SendError Job)}
    (answer : Result (Unit {0}) (SendError Job)) → sends channel job given → given ≡ answer → ((d : Worker) → channel.now ≡ (slice_index_or workers w d).jobs)
    → IsAnswered sends workers w job answer
answered sends workers w {channel} {job} answer sent is at = (channel, at, subst (sends channel job) is sent)

-- what holds in any case holds if the result is Ok
on_ok : {A E : Type 0} (P : Type 0) (result : Result A E) → P → OnOk result P
on_ok P (Ok a) holds = holds
on_ok P (Err fault) holds = tt

-- the result is not WorkersGone
abbrev IsNotGone : Result (Unit {0}) CrewFault → Type 0
IsNotGone (Ok a) = Unit {0}
IsNotGone (Err Fault.OutOfMemory) = Unit {0}
IsNotGone (Err Fault.WorkersGone) = ⊥

module _ (P : Type 0) (result : Result (Unit {0}) CrewFault) where
  -- what follows if the job was taken follows if the result is Ok
  pub if_taken : (given : Result (Unit {0}) (SendError Job)) → ((job : Job) → given ≡ Err (Send.Disconnected job) → result ≡ Err Fault.WorkersGone)
      → ((job : Job) → given ≡ Err (Send.OutOfMemory job) → result ≡ Err Fault.OutOfMemory) → (given ≡ Ok tt → P) → OnOk result P
  if_taken (Ok u) gone no_memory its = on_ok P result (its refl)
  if_taken (Err (Send.Disconnected job)) gone no_memory its = subst (λ r. OnOk r P) (sym (gone job refl)) tt
  if_taken (Err (Send.OutOfMemory job)) gone no_memory its = subst (λ r. OnOk r P) (sym (no_memory job refl)) tt

  -- what follows if the worker has gone follows if the result is WorkersGone
  pub if_gone : (given : Result (Unit {0}) (SendError Job)) → (given ≡ Ok tt → result ≡ Ok tt)
      → ((job : Job) → given ≡ Err (Send.OutOfMemory job) → result ≡ Err Fault.OutOfMemory)
      → ((job : Job) → given ≡ Err (Send.Disconnected job) → P) → result ≡ Err Fault.WorkersGone → P
  if_gone (Ok u) sent no_memory its is = absurd (subst IsNotGone (sym (sent refl) ∙ is) tt)
  if_gone (Err (Send.Disconnected job)) sent no_memory its is = its job refl
  if_gone (Err (Send.OutOfMemory job)) sent no_memory its is = absurd (subst IsNotGone (sym (no_memory job refl) ∙ is) tt)
