-- Lemmas of a laboratory: its winners suffice, its plan stays, caches stay valid, its names have numbers, its outcomes
-- are its world's, and each cause against a crowd has an answer.
pub mod WinnersSuffice
pub mod PlanStays
pub mod CrowdRefusals
pub mod QueryCaches
pub mod NameNumbers
pub mod Outcomes
pub mod NamedReplicas
