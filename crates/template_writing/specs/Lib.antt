-- `Writing`: what writing answers, and what becomes of the output. `Written`: what was read is written back; `ReadBack`, among the proofs: what was written is read back.
-- `Naming`: what is claimed of the number that 12 names; `NamingLaws`, among the proofs: that it is so. `Answers`: no public function has a second answer.
pub mod Writing
pub mod Written
pub mod Naming
pub mod Answers
