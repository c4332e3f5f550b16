-- Lemmas on the pieces of workers.
pub mod PiecesInOrder
pub mod OneMore
pub mod StretchTotals
pub mod NearSteps
pub mod Cuts
pub mod StretchCars
pub mod SideBySide
pub mod WholeRuns
pub mod NearRuns
pub mod NearCars
pub mod StepByStep
pub mod Sends
