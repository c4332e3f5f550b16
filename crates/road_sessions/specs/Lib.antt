-- The history of a store, journals, writes, sessions and their looks, the closing of a store, and the merging of its
-- journal, in reading order.
pub mod Books
pub mod Journals
pub mod Writes
pub mod Sessions
pub mod Looks
pub mod Closings
pub mod Merges
pub mod Private
