-- Lemmas on steps and runs, and worked examples.
pub mod NoCollision
pub mod WhereCarsComeFrom
pub mod CarNumbers
pub mod Locality
pub mod CellsNearby
pub mod Examples
pub mod StepByCars
pub mod ChanceEvents
pub mod PassOverCars
pub mod SameInputs
pub mod CellsBetweenInlets
pub mod EntriesBetween
