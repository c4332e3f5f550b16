-- Plans, settings and objects, in reading order.
pub mod Plan
pub mod Settings
pub mod Refusals
pub mod Objects
pub mod Instances
