-- `Identification`: what a full record begins with. `IdentificationLaws` has laws for proofs. `Answers`: the public function has no second answer.
pub mod Identification
pub mod IdentificationLaws
pub mod Answers
