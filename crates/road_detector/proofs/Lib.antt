-- Lemmas on cars that pass a site and on rows of text, and worked examples.
pub mod CarsPassing
pub mod MarkedRow
pub mod CarsPassOneByOne
pub mod CountsNearby
pub mod TotalsFrom
mod Examples
