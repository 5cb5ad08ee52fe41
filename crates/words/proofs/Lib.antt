mod Search
pub mod Words
