-- Lemmas about lines, what is read from them and what is written, and worked examples.
mod Examples
pub mod OnLiterals
pub mod CutLines
pub mod LineValues
pub mod LineSizes
pub mod FewWrites
pub mod JsonParts
pub mod AcceptedNames
pub mod NoOtherField
pub mod ReplyValues
pub mod ReplyTexts
pub mod WrittenEdits
