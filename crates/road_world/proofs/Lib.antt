-- Lemmas about worlds, their events and winners, with worked lists of events.
pub mod WinnersSuffice
pub mod EventLists
pub mod GrowingCounts
pub mod FreshStamps
pub mod HeadlineOfWinners
pub mod ShownRuns
pub mod PlayedEvents
pub mod EventSteps
pub mod EventAnswers
pub mod MadeMessages
pub mod KeptWorlds
pub mod AppliedEvents
pub mod ListedWorlds
pub mod Examples
