-- `NamingLaws`: that what is claimed of the number that 12 names is so. `ReadBack`: what was written is read back. `Laying`: what code lays down.
pub mod Laying
pub mod NamingLaws
pub mod ReadBack
