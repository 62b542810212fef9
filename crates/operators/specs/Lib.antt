pub mod Operators
pub mod DualLawful
pub mod TruncationLawful
pub mod RightsLawful
pub mod Classes
pub mod ClassLaws
pub mod SeniorityLawful
pub mod ClassListLaws
