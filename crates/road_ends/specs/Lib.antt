-- Steps and runs of a plan, in reading order.
pub mod Entries
pub mod Speed
pub mod Run
pub mod Input
pub mod EntriesBetween
pub mod Row
pub mod Laws
pub mod Span
