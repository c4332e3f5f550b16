-- Definitions for contracts of private functions about workers and their pieces. No public contract names them.
pub mod Pieces
pub mod Started
pub mod Gathered
pub mod Stretches
pub mod Jobs
pub mod Lost
pub mod RunsUnderWay
