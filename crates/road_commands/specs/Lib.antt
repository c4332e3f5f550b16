-- The answers of a laboratory, and definitions for its own calls.
pub mod Laboratory
pub mod Private
