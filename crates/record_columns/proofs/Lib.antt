pub mod Filling
pub mod Lying
pub mod DemandLaws
