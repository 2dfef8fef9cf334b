pub mod Leaves
pub mod Lines
pub mod Finds
