pub mod Refusals
pub mod Asking
pub mod Plain
