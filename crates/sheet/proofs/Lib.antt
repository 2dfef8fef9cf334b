pub mod Steps
pub mod Ends
