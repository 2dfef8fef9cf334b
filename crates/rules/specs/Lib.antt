-- What rules, conflicts and readings are, and the theorems about them.
pub mod Sets
pub mod Rules
pub mod Readings
pub mod Listing
pub mod Choosing
pub mod Laws
-- What the functions promise.
pub mod Comparisons
pub mod Refusals
pub mod Views
pub mod Entries
pub mod Beginnings
pub mod Searching
pub mod Upkeep
