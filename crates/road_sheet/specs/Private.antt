-- What is stated about intervals, checkpoints and shelves in private fields and functions. No public contract names it.
pub mod Intervals
pub mod Checkpoints
pub mod Drafts
pub mod Shelves
