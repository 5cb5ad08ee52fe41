-- `Columns`: the columns of a record, and what becomes of a buffer lent for them. `Answers`: no public function has a second answer.
-- `Demands`: what request L9 asks of columns; `DemandLaws`, among the proofs proves it. `Parts` says what private functions do.
pub mod Columns
pub mod Parts
pub mod Answers
pub mod Demands
