-- `Verdict`: what is judged of some bytes. `Extents`: extents that are one say the same. `Answers`: no public function has a second answer. `DescribedLaws` has laws for proofs.
pub mod DescribedLaws
pub mod Extents
pub mod Verdict
pub mod Answers
