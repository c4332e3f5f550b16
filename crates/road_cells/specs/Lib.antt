-- The road as an array, its cars and their gaps, in reading order.
pub mod Array
pub mod Cars
pub mod Gap
