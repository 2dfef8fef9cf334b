pub mod Records
pub mod Pages
pub mod Refusals
pub mod Checks
pub mod Sources
pub mod Faces
