pub mod Outcomes
pub mod Texts
pub mod Hands
pub mod Turns
pub mod HandViews
pub mod Files
pub mod Running
pub mod Transcripts
