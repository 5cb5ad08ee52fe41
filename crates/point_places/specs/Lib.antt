-- `Places`: a point as sixteen places. `Parts`: what one number and one place are told as. `PlaceLaws` has a law for proofs. `Answers`: no public function has a second answer.
pub mod Places
pub mod Parts
pub mod PlaceLaws
pub mod Answers
