-- What the sessions of a crowd write.
pub mod Private
