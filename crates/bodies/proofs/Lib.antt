pub mod BodyLaws
pub mod WritingLaws
pub mod DemandLaws
pub mod Examples
pub mod Bodies
pub mod Pointing
pub mod Writing
