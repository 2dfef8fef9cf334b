-- Lemmas by subject. `Cuts` and `Forms` are laws for what is built on this crate.
mod Columns
pub mod Cuts
mod Digits
mod Examples
pub mod Forms
mod Steps
