-- `Parts`: where the extended data of a record lie, and what follows it. `Answers`: no public function has a second answer.
pub mod Parts
pub mod Answers
