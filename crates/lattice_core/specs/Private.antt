-- Definitions for the contracts of private functions. No public contract names them.
pub mod Entries
