pub mod ClassTests
pub mod Problems
pub mod Rights
pub mod Sums
pub mod Turns
pub mod Writes
pub mod Made
