-- `Front`: a record in two parts, its front and its body. `Fronted`: what code finds of the front.
-- `Answers`: no public function has a second answer. `FrontLaws` has laws for proofs, `EncodedLaws` what a front is written as and how long it is.
pub mod Front
pub mod Fronted
pub mod FrontLaws
pub mod EncodedLaws
pub mod Answers
