-- The grammar of lines, the lines written for answers, and their laws, in reading order.
pub mod Cut
pub mod Reading
pub mod Fields
pub mod ObjectGrammar
pub mod EditGrammar
pub mod Forms
pub mod Refusals
pub mod CommandGrammar
pub mod PlanGrammar
pub mod Replies
pub mod Views
pub mod CutLaws
pub mod FieldsLaws
pub mod RepliesLaws
pub mod EditLaws
pub mod Private
