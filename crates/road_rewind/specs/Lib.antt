-- What a grown sheet is, and how many steps it may cost.
pub mod Growth
