-- `Numbers`: a stored number among bytes, as it is read and put. `Answers`: no public function has a second answer. `NumberLaws` has laws for proofs.
pub mod Numbers
pub mod NumberLaws
pub mod Answers
