pub mod Lent
pub mod ValueLaws
pub mod BothOrderLaws
