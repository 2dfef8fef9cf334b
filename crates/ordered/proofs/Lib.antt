-- The lemmas. For callers: laws of lists that ascend, and what the promises come to.
pub mod Ascending
pub mod Comparing
pub mod Drawn
pub mod Entering
pub mod Fews
pub mod Keyed
pub mod Members
pub mod Placing
-- For the proofs of this crate alone.
mod Capped
mod Filtering
mod Halving
mod Opening
mod Outcomes
