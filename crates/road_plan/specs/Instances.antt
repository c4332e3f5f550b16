-- The laws that implementations of traits provide, with their proofs. They are here because a contract may not
-- cite a proof of its own crate.
pub mod ObjectOrder
