pub mod Turns
pub mod Levels
pub mod Smallest
pub mod Handing
