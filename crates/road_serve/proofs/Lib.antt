-- Lemmas about lines and replies as bytes come, crowds among the lines, the ends of runs, scripts and the arguments,
-- and worked examples.
pub mod Options
pub mod ByteParts
pub mod CutBytes
pub mod LineReplies
pub mod SinkTexts
pub mod AnswersGrow
pub mod DialogueSteps
pub mod DialogueCalls
pub mod DialogueEnds
pub mod CrowdLines
pub mod GoneCounts
pub mod RunEnds
pub mod CommandLines
pub mod WorkerCounts
pub mod ScriptSources
mod Examples
mod PlanFaults
