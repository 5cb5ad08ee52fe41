-- `DemandLaws`: that what is claimed of turning is so. The others: what the functions' proofs share.
pub mod DemandLaws
pub mod Standing
pub mod Judging
pub mod Putting
pub mod Whole
pub mod Aside
