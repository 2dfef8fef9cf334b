-- The language, and what the code's values mean in it.
pub mod Language
pub mod Meaning
