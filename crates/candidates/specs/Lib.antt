pub mod Candidates
pub mod Wanting
pub mod Seeking
pub mod Laws
