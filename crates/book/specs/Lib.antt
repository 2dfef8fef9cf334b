pub mod SureLines
pub mod Plain
pub mod Runs
pub mod Refusals
pub mod Books
pub mod Calls
pub mod Outcomes
pub mod Queries
