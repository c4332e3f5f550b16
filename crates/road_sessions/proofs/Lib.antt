-- Lemmas about histories, the logbook and the store, the writes of sessions and their refusals, the closing of a store,
-- and the merging of its journal.
pub mod Prefixes
pub mod AppendedEntries
pub mod StoreRule
pub mod Replays
pub mod SessionWrites
pub mod Refusals
pub mod ClosedSessions
pub mod MergedJournals
pub mod WrittenEntries
