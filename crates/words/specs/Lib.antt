pub mod Names
pub mod Places
pub mod Said
pub mod Unsaid
