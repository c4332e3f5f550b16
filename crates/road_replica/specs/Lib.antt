-- Replicas, the results of their calls, the causes of refusals, and the results of crowds.
pub mod Replicas
pub mod Refusals
pub mod Writes
pub mod Crowds
