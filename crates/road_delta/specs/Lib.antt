-- Heads and deltas.
pub mod Deltas
