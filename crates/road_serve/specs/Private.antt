-- Definitions for the contracts of private functions, about lines. No public contract names them.
pub mod Readings
pub mod HeldLines
pub mod KeptLaboratory
