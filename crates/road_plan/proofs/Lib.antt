-- Lemmas on plans, their faults and their own settings, and worked examples.
pub mod InletCells
pub mod PlanFaults
pub mod OwnSettings
mod Examples
