-- Lemmas on arrays, their cars and the cells in front of them, and worked examples.
pub mod CellsAhead
pub mod CarSearch
pub mod BlockSearch
pub mod CarCounts
pub mod CarsBetween
pub mod ArrayPlaces
pub mod CarLists
pub mod CarPlaces
pub mod CarsBefore
pub mod FreeCells
mod Examples
