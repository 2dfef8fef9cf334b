pub mod Marking
pub mod Lacking
pub mod Trying
pub mod Sides
pub mod LeafPlaces
pub mod Refusals
pub mod Verdicts
