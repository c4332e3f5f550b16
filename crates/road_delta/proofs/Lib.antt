-- Lemmas about heads, the search among them, and the edits beyond them.
pub mod DeltaEdits
pub mod RisingHeads
pub mod HeadSearch
mod Examples
