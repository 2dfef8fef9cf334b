pub mod Loads
pub mod Scenes
