-- Lemmas about runs, the intervals that keep them, and what stays of them under other edits.
pub mod Ranges
pub mod RunStates
pub mod RunRows
pub mod CachedRuns
pub mod RunTotals
pub mod SameRuns
pub mod Shelves
pub mod ShownRuns
pub mod SheetIntervals
pub mod SmallCars
pub mod Spans
mod Examples
