pub mod Kept
pub mod Deciding
pub mod NoRows
pub mod Nine
