pub mod Faults
pub mod Counters
pub mod Listing
pub mod Printing
pub mod Gathering
pub mod Sessions
