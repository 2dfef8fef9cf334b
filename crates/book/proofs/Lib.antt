pub mod Answered
pub mod Held
pub mod Lent
pub mod Lives
pub mod Marks
pub mod Opening
pub mod Running
pub mod Sheeting
pub mod SureLists
pub mod Tested
mod Told
pub mod Turning
pub mod Upheld
pub mod Verdicts
