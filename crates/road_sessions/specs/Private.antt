-- Invariants of the logbook and the store, the parts of a write, queries of the published sheet, and the sessions at a
-- closing. No public contract names them.
pub mod Errands
pub mod Books
pub mod Stores
pub mod Queries
pub mod ClosingSessions
