-- `Lookup`: a sample point looked up by itself, and the bytes that are looked at. `Answers`: no public function has a second answer.
-- What is claimed of it: `Counting`, how many bytes; `Unseen`, that it depends on no other; `Joining`, that with judging it is document 01's request. That these are so is proved in proofs/.
pub mod Lookup
pub mod Answers
pub mod Counting
pub mod Unseen
pub mod Joining
