pub mod Samples
pub mod Walk
pub mod Past
