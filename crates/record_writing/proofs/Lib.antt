pub mod Laying
pub mod WriteLaws
pub mod NamingLaws
pub mod BothOrderLaws
pub mod RoundTrips
