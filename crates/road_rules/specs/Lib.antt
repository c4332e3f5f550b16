-- The four rules, in reading order.
pub mod Speeds
pub mod Motion
