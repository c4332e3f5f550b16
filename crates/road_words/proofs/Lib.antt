-- Lemmas on words, and worked examples.
pub mod WordSizes
mod Examples
