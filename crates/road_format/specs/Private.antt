-- Definitions for the contracts of private functions, about what is not checked yet. No public contract names them.
pub mod UncheckedViews
