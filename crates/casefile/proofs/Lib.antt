pub mod Parting
pub mod Wording
pub mod Walking
pub mod Numbering
pub mod Fielding
pub mod Rereading
pub mod Refusing
