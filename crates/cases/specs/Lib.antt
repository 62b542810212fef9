pub mod Rows
pub mod Cases
pub mod Applying
pub mod Ledger
pub mod History
pub mod Search
pub mod CaseViews
pub mod Example
