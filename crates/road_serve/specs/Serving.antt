-- One call of `serve`, and what it ensures.
use Rattle.std.specs.Prelude.{◌≡◌, ℕ, List, Bool, true, false, Result, Ok, Err}
use Rattle.std.specs.Io.KnownBytes.{Appends, Consumes, IsAtEnd}
use Rattle.road_plan.specs.declared.limits.TheConstants.{MOST_LINES, MOST_BYTES}
use Rattle.road_serve.specs.Answers.{answers_within, has_crowd_within, is_plan_refused_within, has_byte_past_most}
use Rattle.road_serve.specs.Answers.{reply_count}
use Rattle.road_serve.specs.Failures.{RisesByOne}
use Rattle.road_serve.specs.Faults.{CountsGone}
use Rattle.road_serve.specs.StreamViews.{SourceView, SinkView, Stops}
use Rattle.road_serve.specs.declared.faults.ServeFault.{ServeFault}
use Rattle.road_serve.specs.declared.faults.ServeFault.TheVariants as faults
use Rattle.road_serve.specs.declared.serving.Served.{Served}

-- One call of `serve` or `serve_within`, here called a run: how many lines may come after the plan line, and how many
-- bytes in all; its source and its sink before and after it; how often its crew had returned `WorkersGone` before and
-- after it; and its result.
pub record Serving : Type 0 where
  pub most_lines : ℕ
  pub most_bytes : ℕ
  pub source_before : SourceView
  pub source_after : SourceView
  pub sink_before : SinkView
  pub sink_after : SinkView
  pub gone_before : ℕ
  pub gone_after : ℕ
  pub result : Result Served ServeFault

-- a run within the program's own limits
abbrev pub program_serving : SourceView → SourceView → SinkView → SinkView → ℕ → ℕ → Result Served ServeFault → Serving
program_serving source_before source_after sink_before sink_after gone_before gone_after result = record {
  most_lines = MOST_LINES;
  most_bytes = MOST_BYTES;
  source_before = source_before;
  source_after = source_after;
  sink_before = sink_before;
  sink_after = sink_after;
  gone_before = gone_before;
  gone_after = gone_after;
  result = result;
}

-- the answers to this input
abbrev pub run_answers : Serving → List ℕ → List ℕ
run_answers run input = answers_within run.most_lines run.most_bytes input run.source_after.at_end

-- all answers to the input, and nothing else, were written and flushed; no call failed
pub record WritesAll (run : Serving) (input : List ℕ) : Type 0 where
  pub written : Appends run.sink_before.contents run.sink_after.contents (run_answers run input)
  pub flushed : run.sink_after.flushed ≡ true
  pub reads_well : run.source_after.failures ≡ run.source_before.failures
  pub writes_well : run.sink_after.failures ≡ run.sink_before.failures

-- whether the plan line of this input is refused
abbrev pub RefusesPlan : Serving → List ℕ → Bool → Type 0
RefusesPlan run input answer = is_plan_refused_within run.most_bytes input run.source_after.at_end ≡ answer

-- whether this input goes past the limit of lines or the limit of bytes
abbrev pub PassesMost : Serving → List ℕ → Bool → Type 0
PassesMost run input answer = has_byte_past_most run.most_lines run.most_bytes input ≡ answer

-- A run that ends well: at the end of input, with nothing left. The plan line is accepted, and the input is within the
-- limits of lines and bytes.
pub record EndsWell (run : Serving) (input : List ℕ) (served : Served) : Type 0 where
  pub writes : WritesAll run input
  pub at_end : run.source_after.at_end ≡ true
  pub nothing_left : IsAtEnd run.source_after.remaining
  pub accepted : RefusesPlan run input false
  pub within : PassesMost run input false
  pub counted : served.lines ≡ reply_count run.most_lines run.most_bytes input

-- A run that a failed read ends: the answers to the lines that were read completely were written. The plan line was not
-- refused so far, and the input was within the limits of lines and bytes, because otherwise nothing more is read.
pub record EndsUnread (run : Serving) (input : List ℕ) : Type 0 where
  pub written : Appends run.sink_before.contents run.sink_after.contents
      (answers_within run.most_lines run.most_bytes input false)
  pub accepted : is_plan_refused_within run.most_bytes input false ≡ false
  pub within : PassesMost run input false
  pub reads_failed : RisesByOne run.source_before.failures run.source_after.failures
  pub writes_well : run.sink_after.failures ≡ run.sink_before.failures

-- A run that ends with `Write`, `OutOfMemory` or `WorkersGone`: a prefix of the answers was written.
pub record EndsUnwritten (run : Serving) (input : List ℕ) (fault : ServeFault) : Type 0 where
  pub stops : Stops run.sink_before run.sink_after (run_answers run input) fault
  pub reads_well : run.source_after.failures ≡ run.source_before.failures

-- the end of a run that read this input, by its result
abbrev pub Ends : Serving → List ℕ → Result Served ServeFault → Type 0
Ends run input (Ok served) = EndsWell run input served
Ends run input (Err faults.BadPlan) = WritesAll run input × RefusesPlan run input true
Ends run input (Err faults.TooMany) = WritesAll run input × RefusesPlan run input false × PassesMost run input true
Ends run input (Err faults.Read) = EndsUnread run input
Ends run input (Err faults.Write) = EndsUnwritten run input faults.Write
Ends run input (Err faults.OutOfMemory) = EndsUnwritten run input faults.OutOfMemory
Ends run input (Err faults.WorkersGone) = EndsUnwritten run input faults.WorkersGone

-- whether a crowd that is not refused is among the lines of this input
abbrev pub run_crowd : Serving → List ℕ → Bool
run_crowd run input = has_crowd_within run.most_lines run.most_bytes input run.source_after.at_end

-- The crew has returned `WorkersGone` as often as before the run. If `WorkersGone` ended the run, the crew has returned
-- it once more, or there was a crowd with a thread that could not be started.
abbrev pub CountsCrew : Serving → List ℕ → Result Served ServeFault → Type 0
CountsCrew run input (Ok served) = run.gone_after ≡ run.gone_before
CountsCrew run input (Err fault) = CountsGone fault (run_crowd run input) run.gone_before run.gone_after

-- The run read some input, a prefix of what the source had left, and answered it.
pub record AnswersInput (run : Serving) : Type 0 where
  pub input : List ℕ
  pub read : Consumes run.source_before.remaining run.source_after.remaining input
  pub ends : Ends run input run.result
  pub counts : CountsCrew run input run.result
