-- Definitions for private fields and the contracts of private functions of a world. No public contract names them.
pub mod Worlds
pub mod LocalEvents
