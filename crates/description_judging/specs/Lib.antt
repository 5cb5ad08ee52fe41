-- `Judging`: whether a description can be written. `Marks`: what is claimed of its mark. `JudgingLaws`, among the proofs: to be passed is to be valid. `Naming`: what is claimed of the number that 12 names. `NamingLaws`, among the proofs: that it is so. `Answers`: no public function has a second answer.
pub mod Judging
pub mod Marks
pub mod Naming
pub mod Answers
