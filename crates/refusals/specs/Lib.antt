-- `Table`: document 01's table of refusals and request L3's row, with the number and the place of each, and the refusal that a reader's failure is.
-- `Stages`: stages of judging, of which the first that refuses decides. `Ranges`: numbers in stored order, of which 12 names the first that is out of its range. `RangeLaws`, among the proofs: that it is so. `Laws`: the numbers row by row, and that a failure keeps its number and its place. `Answers`: no public function has a second answer.
pub mod Table
pub mod Stages
pub mod Ranges
pub mod Laws
pub mod Answers
