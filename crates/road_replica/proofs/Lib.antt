-- Lemmas about stamps, extended sheets, writes, imported edits and shares of edits.
pub mod FreshStamps
pub mod GrownSheets
pub mod ImportedEdits
pub mod SharedEdits
pub mod Writes
