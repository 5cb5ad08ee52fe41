-- `Orders`: where the numbers of points stand in either order, and the points that they are. `OrderLaws`, among the proofs: both orders hold the same numbers, each once.
-- `Answers`: no public function has a second answer. `Parts` has what loops say of themselves.
pub mod Orders
pub mod Parts
pub mod Answers
