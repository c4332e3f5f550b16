-- Lemmas about the steps that a growth computes.
pub mod StepCounts
pub mod NextSpans
