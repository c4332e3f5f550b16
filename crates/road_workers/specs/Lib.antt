-- Crews, as contracts see them.
pub mod Crews
pub mod Private
