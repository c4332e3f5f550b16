-- Lemmas about the journals of crowds, their results, and the refusals of their writes.
pub mod CrowdJournals
pub mod CrowdRefusals
pub mod CrowdSessions
