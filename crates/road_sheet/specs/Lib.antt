-- What sheets, drafts and commands are, and what they show of a run.
pub mod Shown
pub mod Sheets
pub mod Spans
pub mod Commands
pub mod Drafts
pub mod SettingsCaches
pub mod ShownRuns
pub mod QueryCaches
pub mod Private
