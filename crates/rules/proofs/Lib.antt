-- The lemmas. Of rules, conflicts and readings, whatever a program does:
pub mod Members
pub mod Apart
pub mod Firsts
pub mod Ascents
pub mod Holding
pub mod Listings
pub mod OnePlace
pub mod OneRule
pub mod Breaking
pub mod Choosing
pub mod Rounds
pub mod Placed
pub mod Counting
pub mod SameHeld
pub mod Extension
pub mod ReadBy
-- Of rules and of the list of conflicts, for callers:
pub mod Naming
pub mod Keeping
pub mod Completing
pub mod Emptied
pub mod Sizes
-- For the proofs of this crate alone:
mod Failing
mod Fews
mod Mapping
mod Beginning
mod Sorting
mod Pushing
mod Growing
mod Sharing
mod LastRule
mod Undoing
