-- The caches of a laboratory, and queries, events and outcomes as the code's calls see them. No public contract names
-- them.
pub mod Caching
pub mod Queries
pub mod Changes
pub mod Outcomes
