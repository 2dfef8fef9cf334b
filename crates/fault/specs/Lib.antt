pub mod Notices
pub mod Questions
pub mod Printing
