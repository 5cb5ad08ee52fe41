-- `Reading`: what a reading is, whatever the division gives.
-- `Calibration`: what is claimed of a channel without a scaling value. `Naming`: what is claimed of the number that 12 names. That both are so is proved in proofs/.
-- `Laws`: scaling values taken apart, ranges, and what it is to divide operands. `Answers`: no second answer meets a promise.
pub mod Reading
pub mod Calibration
pub mod Naming
pub mod Laws
pub mod Answers
