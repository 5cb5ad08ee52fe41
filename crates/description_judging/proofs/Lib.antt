pub mod Judging
pub mod JudgingLaws
pub mod NamingLaws
