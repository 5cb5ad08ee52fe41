-- `CalibrationLaws`: that what is claimed of a channel without a scaling value is so. `NamingLaws`: the same of the number that 12 names.
-- `Laws`: that a place is read by dividing its operands. `Tested`: what a test of a number says.
pub mod Tested
pub mod CalibrationLaws
pub mod NamingLaws
pub mod Laws
