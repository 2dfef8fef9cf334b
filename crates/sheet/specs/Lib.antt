pub mod Refusals
pub mod Sheets
pub mod Gathering
pub mod Laws
