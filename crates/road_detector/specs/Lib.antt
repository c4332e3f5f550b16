-- The counts of detectors, rows of text, and the laws of both, in reading order.
pub mod Passes
pub mod Rows
pub mod Laws
