-- The ends of the program: its exit status, and the line on standard error.
use Rattle.std.specs.Prelude.{◌≡◌, ◌⊎◌, ℕ, ◌+◌, ◌-◌, ◌^◌, min, List, codes, false, Option, Some, None, Result, Ok, Err}
use Rattle.std.specs.Option.{option_map}
use Rattle.road_serve.specs.Serving.{Serving, AnswersInput}
use Rattle.road_serve.specs.StreamViews.{SourceView}
use Rattle.road_serve.specs.declared.faults.ServeFault.{ServeFault}
use Rattle.road_serve.specs.declared.faults.ServeFault.TheVariants as faults
use Rattle.road_serve.specs.declared.serving.Served.{Served}
use Rattle.road_serve.specs.declared.running.Ended.{Ended}

-- the exit status of a run that failed
abbrev pub fault_status : ServeFault → ℕ
fault_status faults.BadPlan = 2
fault_status faults.OutOfMemory = 3
fault_status faults.Write = 4
fault_status faults.Read = 5
fault_status faults.TooMany = 6
fault_status faults.WorkersGone = 7

-- the line on standard error of a run that failed
abbrev pub fault_line : ServeFault → List ℕ
fault_line faults.BadPlan = codes "bad plan"
fault_line faults.OutOfMemory = codes "no memory"
fault_line faults.Write = codes "write fault"
fault_line faults.Read = codes "read fault"
fault_line faults.TooMany = codes "too many lines"
fault_line faults.WorkersGone = codes "workers gone"

-- the exit status after a run
abbrev pub status_of : Result Served ServeFault → ℕ
status_of (Ok served) = 0
status_of (Err fault) = fault_status fault

-- the line on standard error after a run; none if it went well
abbrev pub line_of : Result Served ServeFault → Option (List ℕ)
line_of (Ok served) = None
line_of (Err fault) = Some (fault_line fault)

-- the program ends with this status and this line
abbrev pub HasStatus : Ended → ℕ → Option (List ℕ) → Type 0
HasStatus ended status line = (ended.status ≡ status) × (option_map (λ text. text.now) ended.line ≡ line)

-- the program ends because its arguments are refused, or because memory ran out while they were read
abbrev pub IsRefused : Ended → Type 0
IsRefused ended = HasStatus ended 2 (Some (codes "bad arguments")) ⊎ HasStatus ended 3 (Some (codes "no memory"))

-- the program ends after this run, which answered what it read
pub record EndsAfter (ended : Ended) (run : Serving) : Type 0 where
  pub status : HasStatus ended (status_of run.result) (line_of run.result)
  pub answers : AnswersInput run

-- the source after a failed read
abbrev pub after_failed_read : SourceView → SourceView
after_failed_read source = record {
  remaining = source.remaining;
  at_end = false;
  failures = min (source.failures + 1) (2 ^ 64 - 1);
}

-- A run for which the system had no entropy, which counts as a failed read: the reader was not read, and nothing was
-- written.
pub record HasNoRandomBytes (before after : SourceView) (run : Serving) : Type 0 where
  pub result : run.result ≡ Err faults.Read
  pub counted : run.source_after ≡ after_failed_read before
  pub unread : after ≡ before
  pub unwritten : run.sink_after ≡ run.sink_before

-- The program ends after this run of a reader, with the given states of the reader before and after it.
pub record EndsReader (before after : SourceView) (ended : Ended) (run : Serving) : Type 0 where
  pub ends : EndsAfter ended run
  pub reads : (run.source_after ≡ after) ⊎ HasNoRandomBytes before after run

-- the source made from a file, before its first byte is read
abbrev pub source_of_file : {F : Type 0} → (F → Option (List ℕ)) → F → SourceView
source_of_file remaining file = record { remaining = remaining file; at_end = false; failures = 0 }

-- A run of a script read the source made from the file that was opened. If no file was opened, because opening it
-- failed or memory ran out while the arguments were read, nothing was written.
abbrev pub ReadsScript : {F : Type 0} → (F → Option (List ℕ)) → Option F → Serving → Type 0
ReadsScript remaining (Some file) run = run.source_before ≡ source_of_file remaining file
ReadsScript remaining None run =
    ((run.result ≡ Err faults.Read) ⊎ (run.result ≡ Err faults.OutOfMemory)) × (run.sink_after ≡ run.sink_before)

-- the program ends after this run of a script
abbrev pub EndsScript : {F : Type 0} → (F → Option (List ℕ)) → Option F → Ended → Serving → Type 0
EndsScript remaining opened ended run = EndsAfter ended run × ReadsScript remaining opened run
