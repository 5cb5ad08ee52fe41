pub mod Verdicts
pub mod Whole
