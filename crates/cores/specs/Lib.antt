-- What a sure line and a core are.
pub mod Sure
-- How a search finds that a line is sure, or a core.
pub mod Ways
pub mod Backing
pub mod Searching
pub mod Settling
-- The theorems: that the search finds these.
pub mod Laws
