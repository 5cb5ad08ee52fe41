-- `Points`: the meaning of a sample point, at either width. `SampleLaws`: what a number of a point is told as.
-- `Laws`: what is read is what is written, the ith point stands i widths behind the first, how wide a point is.
-- `FaultLaws`: which byte of a point is refused. `Answers`: no public function has a second answer. `Parts` says what private functions answer.
pub mod Points
pub mod SampleLaws
pub mod Laws
pub mod FaultLaws
pub mod Parts
pub mod Answers
