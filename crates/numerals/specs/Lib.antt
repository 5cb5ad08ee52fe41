pub mod Decimal
pub mod Told
