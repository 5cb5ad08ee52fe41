-- `Pointing`: whether a record has a point, and what it says. `Answers`: no public function has a second answer.
pub mod Pointing
pub mod Answers
