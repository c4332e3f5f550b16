-- Lemmas on maps to a lattice, on sets and on their maximal elements.
pub mod MapJoins
pub mod MapOrder
pub mod FoldedMaps
pub mod SetElements
pub mod GreatestElements
mod PlacesInLists
mod KeyPlaces
mod KeyPages
mod KeyRanges
