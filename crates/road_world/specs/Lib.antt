-- The effects, answers and costs of events, and the facts that a list of them ensures.
pub mod Events
pub mod Answers
pub mod Steps
pub mod Applied
pub mod Stamps
pub mod Headline
pub mod Private
